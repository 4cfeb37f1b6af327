use Rattle.std.proofs.Common.{Bool, false, arith, refl, subst}
use Rattle.std.specs.List.{All}
use Rattle.std.proofs.lemmas.List.{take_all}
use Rattle.tighten_command.specs.tightening.Tried.{IsGranted}
use Rattle.tighten_command.specs.tightening.Wishes.{wishes_by}
use Rattle.tighten_command.proofs.Found.{first_at, good_more}
use Rattle.tighten_command.proofs.tightening.firsts.first_refused.Goals as goal

pub loop-wish-preserved : goal.loop-wish-preserved
loop-wish-preserved g c =
    let all = (wishes_by (λ wish. wish.must_open) (λ wish shown answer. (goal.Fn-dyn g).post (wish.test.vtable, wish.test.value) (shown, tt) answer) c.args.wishes.now) in
    let own = c.wish-item.result in
    record {
      counted = omega (arith, c.loop-wish.invariant.counted);
      granted = good_more (IsGranted all c.args.rows.now) (λ wish. all.Answers c.args.rows.now wish false) c.args.wishes.now
          c.loop-wish.wish-index own c.loop-wish-test.true
          (subst (IsGranted all c.args.rows.now) c.wish-item.is
          (subst (λ (answer : Bool). all.Answers c.args.rows.now own answer) c.if-is_granted.true (record { shown = _; shows = refl; says = c.answer-is_granted.ensures.says }), c.answer-is_granted.ensures.keeps c.if-is_granted.true))
          c.loop-wish.invariant.granted;
    }

pub returns-else-is_granted-clause-first_that_answers_false : goal.returns-else-is_granted-clause-first_that_answers_false
returns-else-is_granted-clause-first_that_answers_false g c =
    let all = (wishes_by (λ wish. wish.must_open) (λ wish shown answer. (goal.Fn-dyn g).post (wish.test.vtable, wish.test.value) (shown, tt) answer) c.args.wishes.now) in
    let own = c.wish-item.result in
    first_at (IsGranted all c.args.rows.now) (λ wish. all.Answers c.args.rows.now wish false) c.args.wishes.now c.loop-wish.wish-index _
    own c.loop-wish-test.true (omega (arith, c.loop-wish.invariant.counted))
    (subst (λ wish. all.Answers c.args.rows.now wish false) c.wish-item.is
    (subst (λ (answer : Bool). all.Answers c.args.rows.now own answer) c.if-is_granted.false
    (record { shown = _; shows = refl; says = c.answer-is_granted.ensures.says })))
    c.loop-wish.invariant.granted

pub returns-clause-all_are_granted : goal.returns-clause-all_are_granted
returns-clause-all_are_granted g c =
    let all = (wishes_by (λ wish. wish.must_open) (λ wish shown answer. (goal.Fn-dyn g).post (wish.test.vtable, wish.test.value) (shown, tt) answer) c.args.wishes.now) in
    subst (All (IsGranted all c.args.rows.now)) (take_all c.loop-wish.wish-index c.args.wishes.now c.loop-wish-test.false)
    c.loop-wish.invariant.granted
