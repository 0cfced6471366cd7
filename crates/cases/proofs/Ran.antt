-- The runs of specs/Run.antt and specs/OlderRun.antt are the plain machine's: a computed check each. Assumes nothing.
use mathlib.Core.Path.{◌≡◌, refl}
use Rattle.points.specs.Table.{rows, in_row, row_of, points_size, boolean_or_none, float_or_none}
use Rattle.points.specs.Groups.{unused, ends_in_row, group_of, groups_size, first_bad, record_size, judged}
use Rattle.basics.specs.Lists.{tabulate}
use Rattle.modbus.specs.Crc.{crc_shift, crc_shifts, crc_byte, crc_from, crc_of, with_crc, ends_in_crc}
use Rattle.modbus.specs.Frame.{read_reply_by, high_bit_set, exception_reply}
use Rattle.records.specs.Stamp.{date_in_range, time_in_range, in_range, stamp_bytes}
use Rattle.records.specs.Record.{captured_groups, record_of, alarm_record_of}
use Rattle.records.specs.Capture.{flags, from_bits, packed_byte, text_byte, captured_byte, captured_points}
use Rattle.archive.specs.Layout.{limit_of, size_of, base_of, layout_size, has_room}
use Rattle.archive.specs.Ring.{pointer_after, record_after}
use Rattle.archive.specs.Booleans.{is_on}
use Rattle.archive.specs.Captures.{does_capture, file_records}
use Rattle.archive.specs.Alarms.{good_slot, logs, alarms_at, alarms_from, alarms_in_order, records_logged}
use Rattle.archive.specs.Scan.{appended}
use Rattle.polls.specs.Addresses.{record_asked, registers_asked, points_asked, number_asked, read_asked, write_asked}
use Rattle.polls.specs.Frames.{is_heard, asked, register, register_bytes, reply_of, reply_to, requested_after}
use Rattle.machine.specs.Machine.{fresh, view_of, card_for, does, step, outcome, outcomes}
use Rattle.state.specs.Firmware.{alarm_depth}
use Rattle.cases.specs.Run.{run, calls_of, told_of, beginning}
use Rattle.cases.specs.OlderRun.{older_run, older_beginning}

pub run_holds : outcomes beginning (calls_of run) ≡ told_of run
unfolding run alarm_depth fresh view_of card_for does step outcome rows in_row row_of points_size boolean_or_none float_or_none unused ends_in_row group_of groups_size first_bad record_size judged tabulate crc_shift crc_shifts crc_byte crc_from crc_of with_crc ends_in_crc read_reply_by high_bit_set exception_reply date_in_range time_in_range in_range stamp_bytes captured_groups record_of alarm_record_of flags from_bits packed_byte text_byte captured_byte captured_points limit_of size_of base_of layout_size has_room pointer_after record_after is_on does_capture file_records good_slot logs alarms_at alarms_from alarms_in_order records_logged appended record_asked registers_asked points_asked number_asked read_asked write_asked is_heard asked register register_bytes reply_of reply_to requested_after
run_holds = refl

pub older-run-holds : outcomes older_beginning (calls_of older_run) ≡ told_of older_run
unfolding older_run alarm_depth fresh view_of card_for does step outcome rows in_row row_of points_size boolean_or_none float_or_none unused ends_in_row group_of groups_size first_bad record_size judged tabulate crc_shift crc_shifts crc_byte crc_from crc_of with_crc ends_in_crc read_reply_by high_bit_set exception_reply date_in_range time_in_range in_range stamp_bytes captured_groups record_of alarm_record_of flags from_bits packed_byte text_byte captured_byte captured_points limit_of size_of base_of layout_size has_room pointer_after record_after is_on does_capture file_records good_slot logs alarms_at alarms_from alarms_in_order records_logged appended record_asked registers_asked points_asked number_asked read_asked write_asked is_heard asked register register_bytes reply_of reply_to requested_after
older-run-holds = refl
