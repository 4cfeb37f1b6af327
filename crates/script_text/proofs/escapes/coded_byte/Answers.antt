use Rattle.std.proofs.lemmas.Bool.{false_from_ne_true}
use Rattle.script_text.proofs.WordsRead.{gives_no_code, no_high, no_low, bad_high, bad_low, two_digits}
use Rattle.script_text.proofs.escapes.coded_byte.Goals as goal

pub returns-in_err-high-clause-code : goal.returns-in_err-high-clause-code
returns-in_err-high-clause-code c = gives_no_code c.args.word.now _ c.from_residual.ensures
    (no_high c.args.word.now c.in_err-high.ensures.cases)

pub returns-in_err-low-clause-code : goal.returns-in_err-low-clause-code
returns-in_err-low-clause-code c = gives_no_code c.args.word.now _ c.from_residual-in_err-low.ensures
    (no_low c.args.word.now c.in_ok-high.high.now c.in_ok-high.rest.now c.in_ok-high.ensures.cases.0 c.in_err-low.ensures.cases)

pub returns-in_err-hex_value-clause-code : goal.returns-in_err-hex_value-clause-code
returns-in_err-hex_value-clause-code c =
    gives_no_code c.args.word.now _ c.from_residual-in_err-hex_value.ensures
    (bad_high c.args.word.now c.in_ok-high.high.now c.in_ok-high.rest.now c.in_ok-low.low.now c.in_ok-low.rest.now
    c.in_ok-high.ensures.cases.0 c.in_ok-low.ensures.cases.0 (false_from_ne_true _ c.in_err-hex_value.ensures.by_digit))

pub returns-in_err-hex_value-2-clause-code : goal.returns-in_err-hex_value-2-clause-code
returns-in_err-hex_value-2-clause-code c =
    gives_no_code c.args.word.now _ c.from_residual-in_err-hex_value-2.ensures
    (bad_low c.args.word.now c.in_ok-high.high.now c.in_ok-high.rest.now c.in_ok-low.low.now c.in_ok-low.rest.now
    c.in_ok-high.ensures.cases.0 c.in_ok-low.ensures.cases.0 (false_from_ne_true _ c.in_err-hex_value-2.ensures.by_digit))

pub returns-clause-code : goal.returns-clause-code
returns-clause-code c =
    two_digits c.args.word.now c.in_ok-high.high.now c.in_ok-high.rest.now c.in_ok-low.low.now c.in_ok-low.rest.now
    c.in_ok-hex_value.field-0 c.in_ok-hex_value-2.field-0 c.in_ok-high.ensures.cases.0 c.in_ok-low.ensures.cases.0
    c.in_ok-hex_value.ensures.by_digit.0 c.in_ok-hex_value-2.ensures.by_digit.0 c.in_ok-hex_value.ensures.by_digit.1
    c.in_ok-hex_value-2.ensures.by_digit.1
