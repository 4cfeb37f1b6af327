use Rattle.text_forms.proofs.Numerals.{decimal_read, no_leading_zero}
use Rattle.std.proofs.Common.{arith}
use Rattle.std.proofs.lemmas.Fmt.{decimal_digit}
use Rattle.text_forms.proofs.laws.printed_number_read.Goals as goal

pub returns-clause-read_again : goal.returns-clause-read_again
returns-clause-read_again c = decimal_read

pub returns-clause-zero : goal.returns-clause-zero
returns-clause-zero c = decimal_digit 0 (omega arith)

pub returns-clause-no_leading_zero : goal.returns-clause-no_leading_zero
returns-clause-no_leading_zero c = no_leading_zero
