use Rattle.std.proofs.Common.{subst, true, false, length}
use Rattle.filter_check.specs.filter_lines.Adding.{AddsLine}
use Rattle.filter_check.proofs.Lined.{first_other, lines_next}
use Rattle.filter_check.proofs.filter_lines.lines.code_of_lines.Goals as goal

pub returns-then-not-branch-clause-refused : goal.returns-then-not-branch-clause-refused
returns-then-not-branch-clause-refused c =
    first_other (λ line. line.now) c.args.lines.now c.loop-at.at _ c.loop-at.code.items c.add_line.new.out.items c.loop-at-test.true
    c.loop-at.invariant
    (subst (λ line. AddsLine line c.loop-at.code.items c.add_line.new.out.items false) c.as_bytes.ensures.value
    (subst (AddsLine c.as_bytes.result.now c.loop-at.code.items c.add_line.new.out.items) c.if-not-branch.true
    c.in_ok-add_line.ensures))

pub loop-at-preserved : goal.loop-at-preserved
loop-at-preserved c =
    lines_next (λ line. line.now) c.args.lines.now c.loop-at.at _ c.loop-at.code.items c.add_line.new.out.items c.loop-at-test.true
    c.loop-at.invariant
    (subst (λ line. AddsLine line c.loop-at.code.items c.add_line.new.out.items true) c.as_bytes.ensures.value
    (subst (AddsLine c.as_bytes.result.now c.loop-at.code.items c.add_line.new.out.items) c.if-not-branch.false
    c.in_ok-add_line.ensures))
