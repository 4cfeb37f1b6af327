use Rattle.tighten_command.specs.tightening.Searching.{tried_of}
use Rattle.tighten_command.specs.tightening.Wishes.{wishes_by}
use Rattle.tighten_command.proofs.Served.{displeases_for}
use Rattle.tighten_command.proofs.tightening.trial.Trial.unless_lacking.Goals as goal

pub returns-in-Some : goal.returns-in-Some
returns-in-Some g c = displeases_for (tried_of c.args.self.now (wishes_by (λ wish. wish.must_open) (λ wish shown answer. (goal.Fn-dyn g).post (wish.test.vtable, wish.test.value) (shown, tt) answer) c.args.wishes.now)) c.args.bounded.service.world c.in-Some.field-0 (rw c.in-Some.is at c.in_ok-lack.ensures.first_lack)
