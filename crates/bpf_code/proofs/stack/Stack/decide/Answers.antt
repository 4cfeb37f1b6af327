use Rattle.std.proofs.Common.{◌∙◌, refl}
use Rattle.bpf_code.proofs.Stacks.{asked_decides}
use Rattle.bpf_code.proofs.stack.Stack.decide.Goals as goal

pub returns-in-None-clause-decides : goal.returns-in-None-clause-decides
returns-in-None-clause-decides c =
    asked_decides c.deref.result.now _ _ _ _ (c.deref.ensures.value ∙ c.self.view_is) c.in-None.ensures.deciding c.in-None.ensures.each refl

pub returns-in-Some-clause-decides : goal.returns-in-Some-clause-decides
returns-in-Some-clause-decides c =
    asked_decides c.deref.result.now _ _ _ _ (c.deref.ensures.value ∙ c.self.view_is) c.in-Some.ensures.deciding c.in-Some.ensures.each
    c.decision_for.ensures
