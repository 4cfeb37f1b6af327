-- The text of the calls is read as the table that it spells, by evaluation.
use Rattle.std.proofs.Common.{◌≡◌, Ok, refl}
use Rattle.std.specs.Str.{is_utf8, chars}
use lib.Utf8.{encode}
use Rattle.launcher.specs.text_forms.Numbers.{decimal_value, numeral_value}
use Rattle.launcher.specs.call_table.call_names.Known.{known_call}
use Rattle.launcher.specs.call_table.Reading.{table_of, is_version, line_kind, missing_call}
use Rattle.launcher.specs.call_table.Faults.{entry_fault, group_fault}
use Rattle.launcher.specs.call_table.Numbers.{arch_of, number_of, cap_of}
use Rattle.sample_inputs.specs.Calls.{calls_text, calls_lines}
use Rattle.sample_inputs.specs.CallTable.{sample_table, sample_calls, sample_families, sample_groups}

pub calls_read : table_of calls_text ≡ Ok sample_table
unfolding calls_text calls_lines sample_calls sample_families sample_groups table_of is_version line_kind missing_call entry_fault
    group_fault arch_of number_of cap_of decimal_value numeral_value known_call is_utf8 chars encode
calls_read = refl
