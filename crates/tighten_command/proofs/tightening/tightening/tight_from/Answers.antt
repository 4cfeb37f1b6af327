use Rattle.std.proofs.Common.{[], ap, refl, subst, sym, ◌∙◌}
use Rattle.tighten_command.specs.tightening.Searching.{IsServing, tried_of}
use Rattle.tighten_command.specs.tightening.Wishes.{wishes_by}
use Rattle.tighten_command.specs.tightening.Items.{in_order, tightened}
use Rattle.tighten_command.proofs.Served.{all_asked, is_over, tight_is}
use Rattle.tighten_command.proofs.tightening.tightening.tight_from.Goals as goal

pub count_open-open_before-requires : goal.count_open-open_before-requires
count_open-open_before-requires g c =
    let tried = tried_of c.args.trial.now (wishes_by (λ wish. wish.must_open) (λ wish shown answer. (goal.Fn-dyn g).post (wish.test.vtable, wish.test.value) (shown, tt) answer) c.args.wishes.now) in
    record {
      bounded = c.requires.serves.is_bounded;
      all = all_asked tried c.args.own c.args.trial.now.questions.now
          (is_over tried (tightened tried.unit []) c.args.own c.requires.serves.launched c.requires.serves.is_bounded)
          c.requires.can_be_tried.all;
    }

pub most-requires : goal.most-requires
most-requires g c = record {
  can_be_tried = c.requires.can_be_tried;
  holds = subst (λ set. IsServing
      (tried_of c.args.trial.now
      (wishes_by (λ wish. wish.must_open)
      (λ wish shown answer. (goal.Fn-dyn g).post (wish.test.vtable, wish.test.value) (shown, tt) answer) c.args.wishes.now)) set
      c.args.own) (sym c.new.ensures.items) c.requires.serves;
}

pub count_open-open_after-requires : goal.count_open-open_after-requires
count_open-open_after-requires g c =
    let tried = tried_of c.args.trial.now (wishes_by (λ wish. wish.must_open) (λ wish shown answer. (goal.Fn-dyn g).post (wish.test.vtable, wish.test.value) (shown, tt) answer) c.args.wishes.now) in
    let most = c.in_ok-most.most in
    let holds = c.in_ok-most.ensures.none_can_be_added.holds in
    record {
      bounded = holds.is_bounded;
      all = all_asked tried most.bounded c.args.trial.now.questions.now
          (is_over tried (tightened tried.unit most.set.items) most.bounded holds.launched holds.is_bounded) c.requires.can_be_tried.all;
    }

pub returns : goal.returns
returns g c =
    let tried = tried_of c.args.trial.now (wishes_by (λ wish. wish.must_open) (λ wish shown answer. (goal.Fn-dyn g).post (wish.test.vtable, wish.test.value) (shown, tt) answer) c.args.wishes.now) in
    tight_is tried c.openness.ensures.each_listed c.args.trial.now.questions.now c.requires.can_be_tried.all c.args.own c.in_ok-most.most
    _ c.requires.serves c.in_ok-most.ensures.none_can_be_added
    (c.new-2.ensures.holds_them ∙ c.in_ok-in_order.ensures.in_order ∙ ap in_order c.deref.ensures.value)
    c.count_open-open_before.ensures.counts refl
    c.count_open-open_after.ensures.counts refl
