use Rattle.std.proofs.Common.{List, Ok, subst, sym, ◌∙◌}
use Rattle.std.specs.Prelude.{IfOk}
use Rattle.asked_service.specs.dropin_merge.declared.unit_values.value.Place.{Place}
use Rattle.asked_service.specs.launching.Starting.{StartsAs}
use Rattle.why_command.specs.deciding_lines.Deciding.{IsReasonAt}
use Rattle.why_command.specs.deciding_lines.Tried.{IsNotLaunched, inputs_without, tried_of}
use Rattle.why_command.proofs.Needed.{reason_without_all}
use Rattle.why_command.proofs.deciding_lines.trial.Trial.reason.Goals as goal

pub denying-requires-clause-starts : goal.denying-requires-clause-starts
denying-requires-clause-starts c = subst (λ (gone : List Place). StartsAs (inputs_without (tried_of c.args.self.now).inputs gone)
    (Ok c.in-Launched.service)) c.deref.ensures.value (rw c.in-Launched.is at c.in_ok-service.ensures.starts)

pub returns-in-Launched : goal.returns-in-Launched
returns-in-Launched c = record {
  is_the_reason = subst (λ (lines : List Place). IfOk c.denying.result (IsReasonAt (tried_of c.args.self.now) lines))
      c.in_ok-lines.ensures.all_but_the_command
      (reason_without_all (tried_of c.args.self.now) c.in_ok-lines.lines.items c.denying.result c.denying.ensures);
}

pub denying_but_needed-requires-clause-refused : goal.denying_but_needed-requires-clause-refused
denying_but_needed-requires-clause-refused c = subst (λ (gone : List Place). IsNotLaunched (tried_of c.args.self.now).name
    (inputs_without (tried_of c.args.self.now).inputs gone) c.in-Refused.line.items)
    (c.deref.ensures.value ∙ sym c.deref-in-Refused.ensures.value) (rw c.in-Refused.is at c.in_ok-service.ensures.starts)

pub returns-in-Refused : goal.returns-in-Refused
returns-in-Refused c = record {
  is_the_reason = subst (λ (lines : List Place). IfOk c.denying_but_needed.result (IsReasonAt (tried_of c.args.self.now) lines))
      (c.deref-in-Refused.ensures.value ∙ c.in_ok-lines.ensures.all_but_the_command) c.denying_but_needed.ensures;
}
