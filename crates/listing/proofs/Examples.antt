-- What the examples print is what the definition says: computed.
use mathlib.Core.Bool.{true}
use mathlib.Core.Path.{◌≡◌, refl}
use Rattle.load.specs.Blocks.{block_of, words_of}
use Rattle.load.specs.Refusals.{given}
use Rattle.dominant.specs.Dominant.{dominant_stage, dominant_time}
use Rattle.limits.specs.Tests.{is_all_zero, block_verdict, counts_verdict, is_over_limit, is_time_over}
use Rattle.records.specs.Standing.{entry, entry_from}
use Rattle.records.specs.Records.{block_in, block_measured, block_record, block_records, flow_measured, flow_record, flow_records, four_bytes, measure, name_bytes, name_in, onto, past, stop_if, time_in, two_bytes, unless}
use Rattle.records.specs.Records.{after as then}
use Rattle.records.specs.Parts.{bytes_in}
use Rattle.header.specs.Header.{counts_in, header_verdict}
use Rattle.body.specs.Body.{table_words}
use Rattle.loadfile.specs.Calls.{contents, own_or, shown_bytes, shown_name, shown_of, shown_part}
use Rattle.loadfile.specs.Layout.{file_with, records, whole}
use Rattle.rules.specs.Account.{called, noted, opened, used}
use Rattle.rules.specs.Counts.{counted, none, one, summary}
use Rattle.rules.specs.Examples.{joined, same}
use Rattle.rules.specs.Load.{block_at, seek}
use Rattle.rules.specs.Plan.{after, arrivals, arrived, begins, begun, busy, first, further, held_until, none_yet, oldest, onward, origin, plan, readied, rejoined, row_of, rows_from, run, settled, spent, started, state, step, taken, tested, turn_of, up_to, waits, where_waits, with_line, with_round, woken}
use Rattle.rules.specs.Stages.{last_run, later_run, run_at, way_of}
use Rattle.rules.specs.Waiting.{listed}
use Rattle.line.specs.Numerals.{decimal_of, digits_in}
use Rattle.lines.specs.Lines.{counts_line, refused_line, row_line, row_lines, runs, shown, start_finish}
use Rattle.listing.specs.Examples.{all_print, examples, E3, all_zero_load, one_stage, three_stages, four_stages}
use Rattle.listing.specs.Listing.{listing, listing_of, plan_lines}

pub examples_print : all_print examples ≡ true
unfolding block_of words_of dominant_stage dominant_time given is_all_zero block_verdict counts_verdict is_over_limit is_time_over contents entry entry_from own_or shown_bytes shown_name shown_of shown_part table_words bytes_in block_in block_measured block_record block_records counts_in file_with flow_measured flow_record flow_records four_bytes header_verdict measure name_bytes name_in onto past records stop_if time_in two_bytes unless whole then called noted opened used counted none one summary joined same block_at seek after arrivals arrived begins begun busy first further held_until none_yet oldest onward origin plan readied rejoined row_of rows_from run settled spent started state step taken tested turn_of up_to waits where_waits with_line with_round woken last_run later_run run_at way_of listed decimal_of digits_in all_print examples E3 all_zero_load one_stage three_stages four_stages counts_line refused_line row_line row_lines runs shown start_finish listing listing_of plan_lines
examples_print = refl
