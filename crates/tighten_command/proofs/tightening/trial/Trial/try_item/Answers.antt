use Rattle.tighten_command.proofs.tightening.trial.Trial.try_item.Goals as goal

pub returns-in-Some : goal.returns-in-Some
returns-in-Some g c = rw c.in-Some.is at c.in_ok-next.ensures

pub returns : goal.returns
returns g c = rw c.in-None.is at c.in_ok-next.ensures
