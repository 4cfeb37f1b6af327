use Rattle.std.proofs.Common.{◌≡◌, ◌∙◌, subst}
use Rattle.std.specs.Prelude.{IfOk}
use Rattle.asked_service.specs.launching.Longer.{with_file}
use Rattle.derive_command.proofs.trace_profile.extending.extended.Goals as goal

pub returns : goal.returns
returns c = record {
  drop_in_stands_last =
      subst (λ bytes. IfOk c.with_file.result (λ longer. longer ≡ with_file c.args.unit.now bytes))
      (c.as_slice.ensures.value ∙ c.in_ok-text.ensures.allows_exactly_these) c.with_file.ensures.file_stands_last;
}
