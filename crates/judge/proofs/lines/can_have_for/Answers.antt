use Rattle.std.proofs.Common.{◌∙◌, ap, sym}
use Rattle.ceilings.specs.call_table.call_names.Known.{is_known}
use Rattle.ceilings.specs.kernel_laws.Bound.{ceiling}
use Rattle.judge.proofs.PlainCaps.{known_have, plain_have}
use Rattle.judge.proofs.lines.can_have_for.Goals as goal

pub returns-then-is_known : goal.returns-then-is_known
returns-then-is_known c = λ launch own.
    c.if-is_known.true ∙ known_have (ceiling launch) c.args.line.now
    (sym (c.is_known.ensures.in_the_table ∙ ap (is_known c.args.line.now.kernel) c.as_str.ensures.same_text) ∙ c.if-is_known.true)

pub returns-else-is_known : goal.returns-else-is_known
returns-else-is_known c = λ launch own.
    c.can_have_cap.ensures launch own ∙ plain_have (ceiling launch) c.args.line.now
    (sym (c.is_known.ensures.in_the_table ∙ ap (is_known c.args.line.now.kernel) c.as_str.ensures.same_text) ∙ c.if-is_known.false)
