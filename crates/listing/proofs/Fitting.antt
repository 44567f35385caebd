-- The page has room for every listing: the counts' line has at most 126 bytes, a row's at most 326, and the plan lists at most 512 blocks.
use Prim.Native.Nat.{ℕ, suc, zero, ◌≤◌, min}
use mathlib.Core.List.{List}
use mathlib.Core.Option.{none as nothing, Option, some}
use mathlib.Core.Path.{◌≡◌, ap, refl, sym, ◌∙◌}
use native.Mathlib.Omega.{arith}
use lib.ListN.{length, length-append}
use Rattle.load.specs.declared.counts.Counts.{Counts}
use Rattle.records.specs.Records.{parsed, Parsed, refused}
use Rattle.body.specs.Body.{table_words}
use Rattle.loadfile.specs.Calls.{contents}
use Rattle.loadfile.specs.Layout.{Contents}
use Rattle.rules.specs.Counts.{none, summary}
use Rattle.rules.specs.Load.{Load, load_of}
use Rattle.rules.specs.Plan.{origin, plan, rows_from, run, Started, State, step}
use Rattle.line.specs.declared.Page.{Page}
use Rattle.line.specs.Pages.{Put, room}
use Rattle.line.proofs.Pages.{put_rest, put_size, put_whole}
use Rattle.lines.proofs.Short.{counts_short, refused_short, rows_short}
use Rattle.listing.specs.Listing.{Makes, listing, listing_of, plan_lines}

-- a plan has no more rows than it was asked for
run_few : (L : Load) (n : ℕ) (s : State) → length (run L n s) ≤ n
unfolding run rows_from
run_few L zero s = omega arith
run_few L (suc n) s = go (step L s) (run_few L n) where
  go : (o : Option Started) → ((s : State) → length (run L n s) ≤ n) → length (rows_from L o (run L n)) ≤ suc n
  go nothing few = omega arith
  go (some q) few = omega (arith, few q.then)

plan_short : (file : List ℕ) (c : Counts) (table : List ℕ) → length (plan_lines file c table) ≤ room
unfolding plan_lines plan
plan_short file c table =
    let rs = plan (load_of c table) 512 in
    simp length-append
    (omega (arith, counts_short (summary c.stages none rs), rows_short file c.stages rs, run_few (load_of c table) (min 512 c.blocks) (origin (load_of c table))))

pub listing_fits : (file : List ℕ) → length (listing file) ≤ room
unfolding listing listing_of
listing_fits file = go (contents file) where
  go : (p : Parsed Contents) → length (listing_of file p) ≤ room
  go (refused r) = omega (arith, refused_short r)
  go (parsed l at) = plan_short file l.counts (table_words l.blocks)

-- a page that has a listing ends within the room
pub made_within : (file : List ℕ) (before then : Page) → Makes file before then → then.len ≤ room
made_within file before then m = rw m.ends (listing_fits file)

-- so what is put on a page that is begun anew is all there
pub all_there : (file more : List ℕ) (before a : Page) → listing file ≡ more → Put (record before { len = 0 }) more a → Makes file before a
all_there file more before a same p =
    let begun = record before { len = 0 } in
    let fits : length more ≤ room = rw (← same) (listing_fits file) in
    record { ends = put_size begun more a p refl fits ∙ ap length (sym same); lists = put_whole begun more a p refl fits ∙ sym same; rest = put_rest begun more a p }
