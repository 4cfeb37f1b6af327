use Rattle.std.proofs.Common.{◌-◌, ℕ, arith, subst}
use Rattle.tighten_command.specs.tightening.Searching.{TriesItems, tried_of}
use Rattle.tighten_command.specs.tightening.Wishes.{wishes_by}
use Rattle.tighten_command.proofs.Searched.{tried_more, tried_none}
use Rattle.tighten_command.proofs.tightening.trial.Trial.try_items.Goals as goal

pub loop-count-init : goal.loop-count-init
loop-count-init g c = tried_none
    (tried_of c.args.self.now
    (wishes_by (λ wish. wish.must_open) (λ wish shown answer. (goal.Fn-dyn g).post (wish.test.vtable, wish.test.value) (shown, tt) answer)
    c.args.wishes.now)) c.args.held c.requires.holds

pub loop-count-preserved : goal.loop-count-preserved
loop-count-preserved g c =
    tried_more (tried_of c.args.self.now
    (wishes_by (λ wish. wish.must_open)
    (λ wish shown answer. (goal.Fn-dyn g).post (wish.test.vtable, wish.test.value) (shown, tt) answer) c.args.wishes.now))
    c.args.held.set.items c.loop-count.count (17 - c.loop-count.count) c.loop-count-test.true
    (omega (arith, c.loop-count-test.true)) c.loop-count.kept c.in_ok-next.next c.loop-count.invariant c.in_ok-next.ensures

pub returns : goal.returns
returns g c =
    subst (λ (count : ℕ). TriesItems
    (tried_of c.args.self.now
    (wishes_by (λ wish. wish.must_open)
    (λ wish shown answer. (goal.Fn-dyn g).post (wish.test.vtable, wish.test.value) (shown, tt) answer) c.args.wishes.now))
    c.args.held.set.items count c.loop-count.kept) (omega (arith, c.loop-count-test.false, c.loop-count.auto.count-end))
    c.loop-count.invariant
