use Rattle.std.proofs.Common.{◌≡◌, Some, [], ◌∷◌, sym, ap, ◌∙◌}
use Rattle.launcher.specs.dropin_merge.declared.resolved.Resolved.{Resolved}
use Rattle.sample_inputs.specs.Unit.{sample_name, unit_path, unit_said}
use Rattle.sample_inputs.proofs.UnitRead.{name_reads, unit_reads}
use Rattle.sample_inputs.proofs.unit.sample_unit.Goals as goal

pub returns-clause-read : goal.returns-clause-read
returns-clause-read c =
    let named : c.in_ok-new.field-0.value.name ≡ sample_name = ap (λ (unit : Resolved). unit.name) c.in_ok-new.ensures.ok ∙ c.in_ok-name.ensures in
    let files : c.in_ok-new.field-0.value.files ≡ record { path = unit_path; text = unit_said c.args.n } ∷ [] = ap (λ (unit : Resolved). unit.files) c.in_ok-new.ensures.ok ∙ c.in_ok-files.ensures in
    record { said = unit_said c.args.n; reads = unit_reads c.args.n; name = name_reads ∙ ap Some (sym named); files = files }
