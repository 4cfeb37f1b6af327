use Rattle.tighten_command.specs.tightening.Searching.{TriesItems, tried_of}
use Rattle.tighten_command.specs.tightening.Wishes.{wishes_by}
use Rattle.tighten_command.proofs.tightening.trial.Trial.try_items.Given as goal

abbrev pub invariant-loop-count : goal.invariant-loop-count
invariant-loop-count g l =
    TriesItems (tried_of l.self
    (wishes_by (λ wish. wish.must_open)
    (λ wish shown answer. (goal.Fn-dyn g).post (wish.test.vtable, wish.test.value) (shown, tt) answer) l.wishes)) l.fn.held.set.items
    l.count l.kept
