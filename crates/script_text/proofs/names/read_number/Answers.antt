use Rattle.std.proofs.Common.{rules}
use Rattle.kernel_model.specs.call_table.Numbers.{number_of}
use Rattle.script_text.proofs.names.read_number.Goals as goal

pub returns-in_err-read_decimal : goal.returns-in_err-read_decimal
unfolding number_of
returns-in_err-read_decimal c = search rules

pub returns : goal.returns
unfolding number_of
returns c = search rules
