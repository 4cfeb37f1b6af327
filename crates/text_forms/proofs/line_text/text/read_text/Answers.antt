use Rattle.std.proofs.Common.{sym, ◌∙◌, ap, Some}
use Rattle.text_forms.proofs.Bytes.{not_utf8, has_nul, is_text}
use Rattle.text_forms.proofs.line_text.text.read_text.Goals as goal

pub returns-in_default : goal.returns-in_default
returns-in_default c = record { text = sym (not_utf8 c.args.bytes.now c.in_default.ensures.cases.0) }

pub returns-then-contains : goal.returns-then-contains
returns-then-contains c = record { text = sym (has_nul c.args.bytes.now (sym c.contains.ensures.value ∙ c.if-contains.true)) }

pub returns : goal.returns
returns c = record {
  text = ap Some c.in-Ok.ensures.cases.0 ∙ sym
      (is_text c.args.bytes.now c.in-Ok.ensures.cases.1 (sym c.if-contains.ensures.value));
}
