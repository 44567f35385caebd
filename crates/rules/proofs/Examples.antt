-- The starred examples E1 to E11 of document 01, our own and the refusals hold of the definitions: computed.
use mathlib.Core.Bool.{true, ◌&&◌}
use mathlib.Core.Path.{◌≡◌, refl}
use Rattle.load.specs.Blocks.{block_of}
use Rattle.load.specs.Refusals.{given}
use Rattle.dominant.specs.Dominant.{dominant_stage, dominant_time}
use Rattle.limits.specs.Tests.{is_all_zero, block_verdict, counts_verdict, is_over_limit, is_time_over}
use Rattle.rules.specs.Account.{called, noted, opened, used}
use Rattle.rules.specs.Calls.{and_then, answer_of, blocks_verdict, flows_after, plan_verdict, rows_after, short}
use Rattle.rules.specs.Counts.{added, counted, none, one, recorded, records, summary, unlisted}
use Rattle.rules.specs.Examples.{all_hold, all_refused, asked, count_words, examples, fault, gives, holds_with, lacking, joined, load_of, marked_records, marked_words, record_words, refusals, same, E1, E2, E3, E4, E5, E6, E7, E8, E9, E10, E10-none, E11, zero_goes_on, excess_of_the_round_before, arrival_at_the_finish, held_one_tick, last_of_64, equal_times, idle_again, three_stages, four_stages}
use Rattle.rules.specs.Load.{block_at, seek}
use Rattle.rules.specs.Plan.{after, arrivals, arrived, begins, begun, busy, first, further, held_until, none_yet, oldest, onward, origin, plan, readied, rejoined, row_of, rows_from, run, settled, spent, started, state, step, taken, tested, turn_of, up_to, waits, where_waits, with_line, with_round, woken}
use Rattle.rules.specs.Rows.{rows_words, row_words, way_words}
use Rattle.rules.specs.Stages.{last_run, later_run, run_at, way_of}
use Rattle.rules.specs.Waiting.{listed}

pub examples_hold : all_hold examples && all_refused refusals ≡ true
unfolding given is_all_zero block_verdict counts_verdict is_over_limit is_time_over and_then answer_of blocks_verdict flows_after plan_verdict rows_after short block_of dominant_stage dominant_time called noted opened used added counted none one recorded records summary unlisted all_hold all_refused asked count_words examples fault gives holds_with lacking joined load_of marked_records marked_words record_words refusals same E1 E2 E3 E4 E5 E6 E7 E8 E9 E10 E10-none E11 zero_goes_on excess_of_the_round_before arrival_at_the_finish held_one_tick last_of_64 equal_times idle_again three_stages four_stages block_at seek after arrivals arrived begins begun busy first further held_until none_yet oldest onward origin plan readied rejoined row_of rows_from run settled spent started state step taken tested turn_of up_to waits where_waits with_line with_round woken rows_words row_words way_words last_run later_run run_at way_of listed
examples_hold = refl
