use Rattle.std.proofs.Common.{eqb, Ok, Err, [], sym, arith, rules}
use Rattle.std.specs.List.{slice_split}
use Rattle.std.proofs.lemmas.Result.{err_from_is_err_and}
use Rattle.unit_grammar.specs.Lines.{file_parts}
use Rattle.unit_grammar.specs.Joining.{joined}
use Rattle.unit_grammar.proofs.FirstLines.{shorter, stands_before_line, stands_before_last, of_joined}
use Rattle.unit_grammar.proofs.Passing.{nothing_left}
use Rattle.unit_grammar.proofs.reader.read_text.Goals as goal

pub returns-in_err-take_line : goal.returns-in_err-take_line
returns-in_err-take_line c =
    let p = err_from_is_err_and c.from_residual.result c.from_residual.ensures.1 in
    let text = c.args.text.now in
    rw (p.1, p.2)
    (of_joined text (Err c.in_err-take_line.field-0.0)
    (c.in_err-take_line.ensures (joined (file_parts text)) (slice_split (λ byte. eqb byte 10) c.in-Some.behind.now)
    (stands_before_line _ _ c.loop-line.number c.loop-line.rest.now (c.in-Some.line.now, c.in-Some.behind.now) _ _ _
    (sym c.in-Some.ensures) c.loop-line.invariant.1)))

pub loop-line-preserved : goal.loop-line-preserved
loop-line-preserved c =
    let text = c.args.text.now in (
      search rules,
      c.in_ok-take_line.ensures (joined (file_parts text)) (slice_split (λ byte. eqb byte 10) c.in-Some.behind.now)
          (stands_before_line _ _ c.loop-line.number c.loop-line.rest.now (c.in-Some.line.now, c.in-Some.behind.now) _ _ _
          (sym c.in-Some.ensures) c.loop-line.invariant.1),
      omega (arith, c.loop-line.invariant.2, shorter c.loop-line.rest.now (c.in-Some.line.now, c.in-Some.behind.now) (sym c.in-Some.ensures)),
    )

pub returns-in_err-take_line-2 : goal.returns-in_err-take_line-2
returns-in_err-take_line-2 c =
    let p = err_from_is_err_and c.from_residual-in_err-take_line-2.result c.from_residual-in_err-take_line-2.ensures.1 in
    let text = c.args.text.now in
    rw (p.1, p.2)
    (of_joined text (Err c.in_err-take_line-2.field-0.0)
    (c.in_err-take_line-2.ensures (joined (file_parts text)) []
    (stands_before_last _ _ c.loop-line.number c.loop-line.rest.now _ _ _ (sym c.in_default.ensures) c.loop-line.invariant.1)))

pub returns-in_err-take_begun : goal.returns-in_err-take_begun
returns-in_err-take_begun c =
    let p = err_from_is_err_and c.from_residual-in_err-take_begun.result c.from_residual-in_err-take_begun.ensures.1 in
    let text = c.args.text.now in
    let last = c.in_ok-take_line-2.ensures (joined (file_parts text)) [] (stands_before_last _ _ c.loop-line.number c.loop-line.rest.now _ _ _ (sym c.in_default.ensures) c.loop-line.invariant.1) in
    rw (p.1, p.2) (of_joined text (Err c.in_err-take_begun.field-0.0) (c.in_err-take_begun.ensures.passed (joined (file_parts text)) last))

pub returns : goal.returns
returns c =
    let text = c.args.text.now in
    let lines = joined (file_parts text) in
    let last = c.in_ok-take_line-2.ensures lines [] (stands_before_last _ _ c.loop-line.number c.loop-line.rest.now _ _ _ (sym c.in_default.ensures) c.loop-line.invariant.1) in
    let left = c.in_ok-take_begun.ensures.passed lines last in
    of_joined text (Ok c.unit.result) (c.unit.ensures lines (nothing_left _ _ _ _ _ c.in_ok-take_begun.ensures.begun left))
