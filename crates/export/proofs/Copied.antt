-- A name and the room for it: a name that is longer leaves the room, and any other stands at its start.
use Rattle.std.proofs.Common.{ℕ, ◌≡◌, ◌<◌, ◌≤◌, List, ◌++◌, length, drop, refl, ap}
use Rattle.std.proofs.lemmas.Bool.{cond_above, cond_below}
use Rattle.loadfile.specs.Calls.{shown_name}
use Rattle.export.specs.Calls.{Names, room_after}

module _ (file standing : List ℕ) (flow : ℕ) (room name : List ℕ) (shown : name ≡ shown_name file standing flow) where
  pub name_too_long : length room < length name → Names file standing flow room (length name) room
  unfolding room_after
  name_too_long h = record {
    measures = ap length shown;
    leaves = rw (← shown) (cond_below (length room) (length name) room (name ++ drop (length name) room) h);
  }

  pub name_copied : {copied : List ℕ} → copied ≡ name → length name ≤ length room → Names file standing flow room (length name) (copied ++ drop (length name) room)
  unfolding room_after
  name_copied is h = record {
    measures = ap length shown;
    leaves = rw (is, ← shown) (cond_above (length room) (length name) room (name ++ drop (length name) room) (name ++ drop (length name) room) h refl);
  }
