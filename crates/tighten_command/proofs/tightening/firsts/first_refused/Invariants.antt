use Rattle.std.proofs.Common.{◌≡◌, take}
use Rattle.std.specs.List.{All}
use Rattle.tighten_command.specs.tightening.Tried.{IsGranted}
use Rattle.tighten_command.specs.tightening.Wishes.{wishes_by}
use Rattle.tighten_command.proofs.tightening.firsts.first_refused.Given as goal

-- those before are granted
abbrev pub invariant-loop-wish : goal.invariant-loop-wish
invariant-loop-wish g l = record {
  counted : l.before ≡ l.wish-index;
  granted : All (IsGranted (wishes_by (λ wish. wish.must_open)
      (λ wish shown answer. (goal.Fn-dyn g).post (wish.test.vtable, wish.test.value) (shown, tt) answer) l.wishes) l.rows)
      (take l.wish-index l.wishes);
}
