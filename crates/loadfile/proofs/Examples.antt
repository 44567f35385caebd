-- The examples of document 01 and our own hold of the definitions: computed.
use mathlib.Core.List.{map}
use mathlib.Core.Path.{◌≡◌, refl}
use Rattle.load.specs.Blocks.{words_of}
use Rattle.load.specs.Refusals.{given}
use Rattle.limits.specs.Tests.{is_all_zero, block_verdict, counts_verdict, is_over_limit, is_time_over}
use Rattle.records.specs.Answers.{verdict_of}
use Rattle.records.specs.Standing.{entry, entry_from}
use Rattle.records.specs.Records.{after, block_in, block_measured, block_record, block_records, flow_measured, flow_record, flow_records, four_bytes, measure, name_bytes, name_in, onto, past, stop_if, time_in, two_bytes, unless}
use Rattle.records.specs.Parts.{bytes_in, place_in}
use Rattle.header.specs.Header.{counts_in, header_verdict}
use Rattle.body.specs.Body.{table_words}
use Rattle.loadfile.specs.Calls.{answer_of, contents, own_or, reading, shown_bytes, shown_name, shown_of, shown_part, shown_place, soundness, table_after}
use Rattle.loadfile.specs.Examples.{E3, accepts, block, blocks, bytes, computed, count_words, documents, examples, expected, flows, headers, list, named, names, over, pair_words, records, refuses, room, sized, small, staged, tables, ten, three}
use Rattle.loadfile.specs.Layout as layout
use Rattle.loadfile.specs.Layout.{file_with, whole}

pub examples_hold : map computed examples ≡ map expected examples
unfolding words_of given is_all_zero block_verdict counts_verdict is_over_limit is_time_over verdict_of answer_of contents entry entry_from own_or reading shown_bytes shown_name shown_of shown_part shown_place soundness table_after table_words E3 accepts block blocks bytes computed count_words documents examples expected flows headers list named names over pair_words records refuses room sized small staged tables ten three layout.records after block_in block_measured block_record block_records counts_in file_with flow_measured flow_record flow_records four_bytes header_verdict measure name_bytes name_in onto past stop_if time_in two_bytes unless whole bytes_in place_in
examples_hold = refl
