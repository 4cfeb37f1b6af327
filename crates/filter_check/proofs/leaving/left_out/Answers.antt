use Rattle.std.proofs.Common.{◌+◌, [], ◌∷◌, length, length-append, ap, ◌∙◌, subst, arith}
use Rattle.std.specs.Bool.{OnTrue}
use Rattle.filter_check.specs.Representing.{IsRepresented}
use Rattle.filter_check.proofs.Kept.{leaves_out, marks_more}
use Rattle.filter_check.proofs.leaving.left_out.Goals as goal

pub loop-at-preserved : goal.loop-at-preserved
loop-at-preserved c =
    let loaded = c.loaded_words-loaded.result in
    let ends = c.args.ends.now in
    let chosen = c.in_ok-chosen.chosen.items in
    let old = c.loop-at.marks.items in
    let mark = c.is_left_out.result in
    let l = length-append old (mark ∷ []) in
    record {
      count = ap length c.in_ok-push.ensures.items ∙ l ∙ ap (λ n. n + 1) c.loop-at.invariant.count;
      each = marks_more (IsRepresented loaded ends chosen) old c.push.new.self.items mark c.loop-at.at c.loop-at.invariant.count
          c.in_ok-push.ensures.items
          (subst (λ items. OnTrue mark (IsRepresented loaded ends items c.loop-at.at)) c.as_slice.ensures.value c.is_left_out.ensures.represented)
          c.loop-at.invariant.each;
    }

pub returns-clause-leaves_out : goal.returns-clause-leaves_out
returns-clause-leaves_out c =
    leaves_out c.args.ours.now c.loaded_words-loaded.result c.args.ends.now c.in_ok-chosen.chosen.items c.loop-at.marks.items
    c.requires.program c.requires.form c.loaded_words-loaded.ensures.marks_them
    (λ at lt e. c.loop-at.invariant.each at (omega (arith, lt, c.loop-at-test.false)) e)
