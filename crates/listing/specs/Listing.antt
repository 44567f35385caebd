-- What the printing program prints of a load file: which lines, and in which order. Each line is defined, byte for byte, in `crates/lines/specs/Lines.antt`.
use Rattle.std.specs.Prelude.{ℕ, List, ◌++◌, ◌≡◌, drop, length}
use Rattle.load.specs.declared.counts.Counts.{Counts}
use Rattle.records.specs.Records.{Parsed, parsed, refused}
use Rattle.body.specs.Body.{table_words}
use Rattle.loadfile.specs.Calls.{contents}
use Rattle.loadfile.specs.Layout.{Contents}
use Rattle.rules.specs.Counts.{none, summary}
use Rattle.rules.specs.Load.{load_of}
use Rattle.rules.specs.Plan.{plan}
use Rattle.line.specs.declared.Page.{Page}
use Rattle.line.specs.Pages.{bytes_of}
use Rattle.lines.specs.Lines.{counts_line, refused_line, row_lines}

-- First line: the six counts. Then one line a row. The program asks for the first 512 blocks.
unfoldable pub plan_lines : List ℕ → Counts → List ℕ → List ℕ
plan_lines file c table =
    let rows = plan (load_of c table) 512 in
    counts_line (summary c.stages none rows) ++ row_lines file c.stages rows

-- A refused file prints one line, with the number.
unfoldable pub listing_of : List ℕ → Parsed Contents → List ℕ
listing_of file (refused r) = refused_line r
listing_of file (parsed l at) = plan_lines file l.counts (table_words l.blocks)

unfoldable pub listing : List ℕ → List ℕ
listing file = listing_of file (contents file)

-- A page has the listing and nothing else, and the room behind the listing is as it was.
pub record Makes (file : List ℕ) (before then : Page) : Type 0 where
  pub ends : then.len ≡ length (listing file)
  pub lists : bytes_of then ≡ listing file
  pub rest : drop then.len then.bytes ≡ drop then.len before.bytes
