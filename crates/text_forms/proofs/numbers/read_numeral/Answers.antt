use Rattle.std.proofs.Common.{sym, ◌∙◌}
use Rattle.text_forms.proofs.Numerals.{parsed, signed}
use Rattle.text_forms.proofs.numbers.read_numeral.Goals as goal

pub returns-then-has_plus : goal.returns-then-has_plus
returns-then-has_plus c = signed c.args.radix c.args.digits.now c.requires.high (sym c.has_plus.ensures ∙ c.if-has_plus.true)

pub returns : goal.returns
returns c = c.ok.ensures.value ∙ parsed c.args.radix c.args.digits.now _ c.from_str_radix.ensures.value
    (sym c.has_plus.ensures ∙ c.if-has_plus.false)
