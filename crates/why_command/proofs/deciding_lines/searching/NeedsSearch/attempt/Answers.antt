use Rattle.std.proofs.Common.{List, Ok, subst, ◌∙◌}
use Rattle.asked_service.specs.dropin_merge.declared.unit_values.value.Place.{Place}
use Rattle.asked_service.specs.launching.Starting.{StartsAs}
use Rattle.why_command.specs.deciding_lines.Tried.{IsNotLaunched, inputs_without, tried_of}
use Rattle.why_command.proofs.deciding_lines.searching.NeedsSearch.attempt.Goals as goal

pub returns-in-Launched : goal.returns-in-Launched
returns-in-Launched c = record {
  tells = subst (λ (gone : List Place). StartsAs (inputs_without (tried_of c.args.self.now.trial.now).inputs gone)
      (Ok c.in-Launched.service))
      (c.deref.ensures.value ∙ c.in_ok-gone.ensures.the_others) (rw c.in-Launched.is at c.in_ok-service.ensures.starts);
}

pub returns : goal.returns
returns c = record {
  tells = (
    c.in-Refused.field-0.items,
    subst (λ (gone : List Place). IsNotLaunched (tried_of c.args.self.now.trial.now).name
        (inputs_without (tried_of c.args.self.now.trial.now).inputs gone) c.in-Refused.field-0.items)
        (c.deref.ensures.value ∙ c.in_ok-gone.ensures.the_others) (rw c.in-Refused.is at c.in_ok-service.ensures.starts),
  );
}
