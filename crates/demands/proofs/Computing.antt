-- Every definition that a call computes with, under one name: `unfolding meaning` under a signature opens them all.
-- Assumes nothing.
use mathlib.Core.Bool.{Bool, true}
use Rattle.fields.specs.Bytes.{part, put, zeros, are_zeros}
use Rattle.fields.specs.Field.{byte, bit, field, bytes}
use Rattle.fields.specs.Bits.{first_byte, top_bit, bit_count, number_in}
use Rattle.answers.specs.Answers.{codes_of, number_of, is_attention, status_of}
use Rattle.answers.specs.Sense.{format_ok, sense_bytes, detail_of, fixed_bytes, fixed_with, header_bytes, pointer_descriptor, address_descriptor, descriptor_of, described_with, sense_data, sense_after}
use Rattle.answers.specs.Order.{first_of, if_good_by, refuses}
use Rattle.pool.specs.Marks.{mark_of, word_of, marks_of, same_words, marks_ok}
use Rattle.pool.specs.Pool.{place, has, mapped, free, unmapped, read_block, read_blocks, fill, assign, assign_blocks, put_blocks, write_blocks, copies, names, freed, unmap_owners, unmap_blocks, room_for}
use Rattle.pool.specs.Valid.{within, distinct, map_ok, capacity_ok, slots_ok, pool_ok}
use Rattle.rights.specs.Places.{used, is_of, registered, key_of, somebody, vacant, known, enrol, with_key, rekeyed, spares, without, alone}
use Rattle.rights.specs.Rights.{is_one_of, is_type, one_holds, all_hold, holds, holder_key, place_ok, places_apart, places_ok, stands, rights_ok, with_places, with_reservation, with_generation, held, gone, ended, settled, raised, no_rights}
use Rattle.rights.specs.Actions.{register_flags, flag_rows, stranger, key_wrong, crowded, action_rows, decision_rows, registering, reserving, releasing, clearing, preempting, taking_over, acted}
use Rattle.rights.specs.Attentions.{refusal_of, each_ok, attentions_ok, no_attentions, waiting_for, returned_to}
use Rattle.rights.specs.Notices.{removed, for_registrants, released, release_notice, notice, renewed, notified_from, notified}
use Rattle.rights.specs.Told.{keys, keys_data, reservation_data}
use Rattle.descriptors.specs.Descriptors.{descriptor_at, considered, fails, first_failing, address_of, some_fails, unmap_all}
use Rattle.runs.specs.Runs.{is_held, held_from, room_from, run_at, runs_from}
use Rattle.runs.specs.Page.{run_bytes, runs_bytes, status_page, status_data}
use Rattle.forms.specs.Forms.{action, takes, lines, lookup, entry_for, entry_of, bytes_of, span_bits, number, request_by, asked_by, asked_in, asked_of}
use Rattle.forms.specs.Tests.{is_unlisted, code_rows, length_rows, pages, wrong_in, check_rows, is_set, not_zero, check_of, test_checks, service_checks, code_checks, checks_of, field_rows}
use Rattle.store.specs.Store.{unit_ok, usable, waiting, relieved, enacted, refused_unit, leaves, seen_of}
use Rattle.store.specs.Vital.{vital_page, pages_page, limits_page, provisioning_page, vital_data}
use Rattle.store.specs.Tell.{inquiry_data, capacity10_data, capacity16_data, told, tell_rows}
use Rattle.store.specs.Conflict.{column_under, column_of, row, says, conflict, shut_out}
use Rattle.store.specs.Same.{may_unmap, has_no_data, block_sent, unmaps_same, same_blocks}
use Rattle.store.specs.Move.{past_end, read_rows, write_rows, same_rows, unmap_rows, status_told, status_rows, move_rows, moved, fetched}
use Rattle.store.specs.Alter.{parameters_of, alter_rows}
use Rattle.store.specs.Step.{call_rows, store_rows, is_inquiry, due, attention_rows, guard_rows, stage_rows, command_rows, own_rows, answer_by, command_data, data_by, command_store, store_by, step_by, step}
use Rattle.store.specs.Fresh.{fresh_unit, fresh_answer, fresh, fresh_store}
use Rattle.demands.specs.History.{after, is_out, is_shut_out, add, watched, heard}
use Rattle.demands.specs.Checker.{over, good, lays, refused_with, refused_at, refused, past_end_at, no_room_at, wrong_field_at, wrong_list_at, attention_told, conflicts, no_status, same, same_status, same_places, same_rights, same_unit, same_pool, number_shows, status_shows, sense_shows, returned_shows, data_shows, ends, whole, met, run, passed_by, passed, all_passed}
use Rattle.demands.specs.Bench.{block, before, new, at, places, two, eight, made_of, made, lent, call, ready, capacity_10, capacity_16, cdb_10, cdb_16, read_10, read_16, write_10, write_16, unmap_list, descriptor, unmap_1, out, in_call}
use Rattle.demands.specs.Cases.{case_of, case_still, case_new, case_a, case_b, case_c, case_d, case_e, case_f, case_g, write_h, case_h, case_i, case_j, case_k, case_l, cases}
use Rattle.demands.specs.FurtherCases.{wrong_naca6, wrong_naca10, wrong_naca16, wrong_protection, wrong_count10, wrong_count16, wrong_same_anchor, wrong_unmap_anchor, wrong_page, wrong_action, wrong_scope, wrong_type, wrong_descriptors, wrong_flag3, wrong_flag2, wrong_flag0, wrong_key, case_counts, case_ninth, case_generation, case_gone, case_shared, case_zero_key, case_slots, case_unmap, case_considered, case_fields, capacity_told, inquiry_told, case_told, vital, limits_told, case_pages, controlled, case_control, case_first_byte, flagged, case_flags, case_types, counted_10, counted_16, altering, case_places, case_lent, case_most, further_cases}

unfoldable pub meaning : Bool
unfolding part put zeros are_zeros byte bit field bytes first_byte top_bit bit_count number_in codes_of number_of is_attention status_of format_ok sense_bytes detail_of fixed_bytes fixed_with header_bytes pointer_descriptor address_descriptor descriptor_of described_with sense_data sense_after first_of if_good_by refuses mark_of word_of marks_of same_words marks_ok place has mapped free unmapped room_for read_block read_blocks fill assign assign_blocks put_blocks write_blocks copies names freed unmap_owners unmap_blocks within distinct map_ok capacity_ok slots_ok pool_ok used is_of registered key_of somebody vacant known enrol with_key rekeyed spares without alone is_one_of is_type one_holds all_hold holds place_ok places_apart places_ok stands rights_ok with_places with_reservation with_generation held gone ended settled raised no_rights column_under column_of row says conflict shut_out register_flags flag_rows stranger key_wrong crowded action_rows decision_rows registering reserving releasing clearing preempting taking_over acted refusal_of each_ok attentions_ok no_attentions waiting_for returned_to removed for_registrants released release_notice notice renewed notified_from notified keys keys_data holder_key reservation_data descriptor_at considered fails first_failing address_of some_fails unmap_all is_held held_from room_from run_at runs_from run_bytes runs_bytes status_page status_data action takes lines lookup entry_for entry_of bytes_of span_bits number request_by asked_by asked_in asked_of is_unlisted code_rows length_rows pages wrong_in check_rows is_set not_zero check_of test_checks service_checks code_checks checks_of field_rows unit_ok usable waiting relieved enacted refused_unit leaves seen_of vital_page pages_page limits_page provisioning_page vital_data inquiry_data capacity10_data capacity16_data told tell_rows may_unmap has_no_data block_sent unmaps_same same_blocks past_end read_rows write_rows same_rows unmap_rows status_told status_rows move_rows moved fetched parameters_of alter_rows call_rows store_rows is_inquiry due attention_rows guard_rows stage_rows command_rows own_rows answer_by command_data data_by command_store store_by step_by step fresh_unit fresh_answer fresh fresh_store after is_out is_shut_out add watched heard over good lays refused_with refused_at refused past_end_at no_room_at wrong_field_at wrong_list_at attention_told conflicts no_status same same_status same_places same_rights same_unit same_pool number_shows status_shows sense_shows returned_shows data_shows ends whole met run passed_by passed all_passed block before new at places two eight made_of made lent call ready capacity_10 capacity_16 cdb_10 cdb_16 read_10 read_16 write_10 write_16 unmap_list descriptor unmap_1 out in_call case_of case_still case_new case_a case_b case_c case_d case_e case_f case_g write_h case_h case_i case_j case_k case_l cases wrong_naca6 wrong_naca10 wrong_naca16 wrong_protection wrong_count10 wrong_count16 wrong_same_anchor wrong_unmap_anchor wrong_page wrong_action wrong_scope wrong_type wrong_descriptors wrong_flag3 wrong_flag2 wrong_flag0 wrong_key case_counts case_ninth case_generation case_gone case_shared case_zero_key case_slots case_unmap case_considered case_fields capacity_told inquiry_told case_told vital limits_told case_pages controlled case_control case_first_byte flagged case_flags case_types counted_10 counted_16 altering case_places case_lent case_most further_cases
meaning = true
