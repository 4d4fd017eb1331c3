-- The cases, by computation: `step` meets them all.
-- Assumes nothing.
use mathlib.Core.Bool.{◌&&◌}
use lib.Dec.{T}
use Rattle.answers.specs.declared.Answer.TheVariants.{Good}
use Rattle.store.specs.Room.{room_answer, room_of}
use Rattle.store.specs.Step.{step}
use Rattle.demands.specs.Checker.{passed_by, passed, all_passed}
use Rattle.demands.specs.Cases.{cases, case_a, case_e}
use Rattle.demands.specs.FurtherCases.{rising, blocks, case_most_written, further_cases}
use Rattle.demands.specs.ClearingCases.{same_16, status_lent, status_16, told_run, told_head, case_same, case_same_refused, case_status, case_guarded, case_readable, clearing_cases}
use Rattle.demands.specs.SenseCases.{past_end_told, no_room_told, field_told, list_told, head_told, in_format, wide, unmap_three, case_described, case_room, case_shown, case_nought, case_full, case_no_format, case_valid_is_none, sense_cases}
use Rattle.demands.specs.AttentionCases.{left_waiting, inquiry, inquiry_wrong, case_learns, case_first, case_clear, case_release, case_unregister, case_preempt, case_attention_described, case_four, case_many, attention_cases}
use Rattle.demands.specs.MarkCases.{untouched, marked65, full64, one_free, none_free, case_second_word, case_both_words, all_eleven, case_beyond, case_bare, case_unmarked, case_one_word, case_three_words, mark_cases, tells_room, room_cases}
use Rattle.demands.specs.Comparisons.{without_medium}
use Rattle.demands.specs.Useless.{says, pretends}
use Rattle.demands.proofs.Computing.{meaning}

-- A to L, one statement over their list
pub cases_pass : T (all_passed step cases)
unfolding meaning
cases_pass = tt

pub further_cases_pass : T (all_passed step further_cases)
unfolding meaning
further_cases_pass = tt

pub clearing_cases_pass : T (all_passed step clearing_cases)
unfolding meaning same_16 status_lent status_16 told_run told_head case_same case_same_refused case_status case_guarded case_readable clearing_cases
clearing_cases_pass = tt

pub sense_cases_pass : T (all_passed step sense_cases)
unfolding meaning past_end_told no_room_told field_told list_told head_told in_format wide unmap_three case_described case_room case_shown case_nought case_full case_no_format case_valid_is_none sense_cases
sense_cases_pass = tt

pub attention_cases_pass : T (all_passed step attention_cases)
unfolding meaning head_told in_format left_waiting inquiry inquiry_wrong case_learns case_first case_clear case_release case_unregister case_preempt case_attention_described case_four case_many attention_cases
attention_cases_pass = tt

pub mark_cases_pass : T (all_passed step mark_cases)
unfolding meaning rising untouched marked65 full64 one_free none_free case_second_word case_both_words all_eleven case_beyond case_bare case_unmarked case_one_word case_three_words mark_cases
mark_cases_pass = tt

pub room_cases_pass : T room_cases
unfolding meaning room_answer room_of rising untouched marked65 full64 one_free none_free case_both_words all_eleven case_beyond case_unmarked tells_room room_cases
room_cases_pass = tt

-- "Count 128 passes", in a WRITE: all but the bytes in the slots
pub most_written_passes : T (passed_by without_medium step case_most_written)
unfolding meaning without_medium rising blocks case_most_written
most_written_passes = tt

-- what the useless builds may still pass: A, of those that say GOOD to all, and A and E, of those that store nothing
pub always_good_A : T (passed (says Good) case_a)
unfolding meaning says
always_good_A = tt

pub pretends_A_E : T (passed pretends case_a && passed pretends case_e)
unfolding meaning pretends
pretends_A_E = tt
