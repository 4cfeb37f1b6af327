use Rattle.std.proofs.Common.{Some, false, ap, ◌∙◌}
use Rattle.std.specs.Prelude.{unwrap_or}
use Rattle.std.specs.List.{filter_map}
use Rattle.cred_settings.specs.unit_grammar.Before.{last_of}
use Rattle.cred_settings.specs.dropin_merge.unit_values.Assignments.{service_assignments}
use Rattle.exec_settings.specs.Profile.{asks}
use Rattle.exec_settings.proofs.Asked.{asked_of_written}
use Rattle.exec_settings.proofs.profile.is_asked.Goals as goal

pub returns : goal.returns
returns c =
    c.last_asks.ensures
    ∙ ap (λ values. unwrap_or (last_of (filter_map (λ value. Some (asks value.text)) values)) false)
    (c.as_slice.ensures.value ∙ c.in_ok-values.ensures.all_values_in_order)
    ∙ ap (λ said. unwrap_or (last_of said) false) (asked_of_written c.args.key.now (service_assignments c.args.unit.now))
