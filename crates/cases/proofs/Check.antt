-- Every marked case holds of the definitions: one computed check over the list. Assumes nothing.
use mathlib.Core.Path.{◌≡◌, refl}
use mathlib.Core.Bool.{true}
use Rattle.points.specs.Table.{rows, in_row, row_of, points_size, float_or_none, boolean_or_none}
use Rattle.points.specs.Groups.{unused, ends_in_row, group_of, groups_size, first_bad, record_size, judged}
use Rattle.basics.specs.Lists.{tabulate}
use Rattle.modbus.specs.Crc.{crc_shift, crc_shifts, crc_byte, crc_from, crc_of, with_crc, ends_in_crc}
use Rattle.modbus.specs.Frame.{read_reply_by, high_bit_set, exception_reply}
use Rattle.records.specs.Stamp.{date_in_range, time_in_range, in_range, stamp_bytes, stamp_from}
use Rattle.records.specs.Record.{captured_groups, record_of}
use Rattle.records.specs.Capture.{flags, from_bits, packed_byte, text_byte, captured_byte, captured_points}
use Rattle.records.specs.Value.{bytes_in_table, value_in_table, bytes_in_stretch, value_in_stretch}
use Rattle.reader.specs.Frame.{is_reply, record_checked, reply_checked, frame_checked, stretch_checked}
use Rattle.reader.specs.Answers.{found_record, record_answer, point_value}
use Rattle.archive.specs.Layout.{every, is_good, good_files, limit_of, size_of, base_of, layout_size, has_room}
use Rattle.archive.specs.Ring.{slot_after, captured, captured_all, pointer_after, record_after}
use Rattle.archive.specs.Booleans.{is_on}
use Rattle.archive.specs.Captures.{does_capture, file_records}
use Rattle.archive.specs.Alarms.{good_slot, good_slots, logs, alarms_at, alarms_from, alarms_in_order, records_logged}
use Rattle.archive.specs.Scan.{appended, files_scanned}
use Rattle.polls.specs.Addresses.{record_asked, points_asked, read_asked}
use Rattle.polls.specs.Frames.{is_heard, asked, reply_of, reply_to}
use Rattle.state.specs.Firmware.{good_firmware, alarm_depth}
use Rattle.state.specs.State.{fresh_state}
use Rattle.state.specs.Validity.{good_triggers, settings_valid, within_limits, files_valid, site_valid, valid, state_number}
use Rattle.gateway.specs.Calls.{unlock_answer, lock_answer, trigger_answer, definition_answer, define_answer, start_answer, fresh_number, fresh_answer}
use Rattle.gateway.specs.Scan.{scan_number, archive_left, scan_answer, scan_memory}
use Rattle.gateway.specs.Poll.{poll_view, poll_number, poll_buffer}
use Rattle.cases.specs.Marked.{marked, all_hold}

pub marked-cases-hold : all_hold marked ≡ true
unfolding marked judged record_size groups_size first_bad group_of unused ends_in_row points_size row_of in_row rows tabulate stamp_bytes flags from_bits packed_byte text_byte captured_byte captured_points bytes_in_table value_in_table float_or_none every is_good good_files good_firmware alarm_depth fresh_state boolean_or_none good_triggers site_valid valid state_number unlock_answer lock_answer definition_answer define_answer start_answer fresh_number fresh_answer trigger_answer slot_after captured captured_all pointer_after record_after is_on logs alarms_at alarms_from alarms_in_order date_in_range time_in_range in_range captured_groups record_of scan_number archive_left scan_answer scan_memory limit_of size_of base_of layout_size has_room good_slot good_slots within_limits files_valid settings_valid does_capture file_records records_logged appended files_scanned crc_shift crc_shifts crc_byte crc_from crc_of with_crc ends_in_crc read_reply_by high_bit_set exception_reply stamp_from is_reply record_checked reply_checked frame_checked found_record record_answer stretch_checked point_value bytes_in_stretch value_in_stretch record_asked points_asked read_asked is_heard asked reply_of reply_to poll_view poll_number poll_buffer
marked-cases-hold = refl
