-- Nothing of a made unit is refused: no setting, no path and no step of its launch.
use Rattle.std.proofs.Common.{◌≡◌, ◌≢◌, ◌∙◌, ℕ, List, [], Some, None, Result, Ok, Err, ap, refl, sym, subst, length, arith}
use Rattle.asked_service.specs.call_table.Facts.{IsWhole}
use Rattle.asked_service.specs.call_table.Table as calls
use Rattle.sample_inputs.specs.cap_sets.Sets.{all, none, IsWithin}
use Rattle.sample_inputs.proofs.OfCapSets.Members.{none_within, within_self}
use Rattle.asked_service.specs.dropin_merge.declared.resolved.Resolved.{Resolved}
use Rattle.asked_service.specs.exec_settings.Mounts.{unit_mentions}
use Rattle.asked_service.specs.exec_settings.declared.service.Settings.{Settings}
use Rattle.asked_service.specs.kernel_model.kern_files.Looking.{flags_by}
use Rattle.asked_service.specs.kern_mounts.declared.step.MountStep.{MountStep}
use Rattle.asked_service.specs.launcher.declared.error.LaunchError.{LaunchError}
use Rattle.asked_service.specs.launcher.declared.error.LaunchError.TheVariants as error
use Rattle.asked_service.specs.launching.Launched.{IsNotLaunched, IsRefused, IsRefusedUnit, RefusesPath}
use Rattle.asked_service.specs.declared.launching.refusal.Refusal.TheVariants.{Settings as InSettings, Plan, Launch}
use Rattle.asked_service.specs.declared.launching.refusal.Refusal.TheVariants.{Memory}
use Rattle.asked_service.specs.mount_plan.Host.{host_of}
use Rattle.asked_service.specs.mount_plan.declared.error.PlanError.{PlanError}
use Rattle.asked_service.specs.mount_plan.declared.error.PlanError.TheVariants as plan
use Rattle.sample_inputs.specs.sample_launch.EndsWell.{ArePlain, IsNeverRefused, PlainSettingsAreLaunched, ShowsProgram}
use Rattle.sample_inputs.specs.Facts.{HasSampleRows, SaysSample, plain_exe, program}
use Rattle.sample_inputs.specs.sample_launch.Planned.{FindsItsProgram, PathsAreNotRefused, ProgramsAreFound}
use Rattle.sample_inputs.specs.sample_launch.Settled.{AreSampleSettings, SettingsAreNotRefused, SettingsAreTheSamples}
use Rattle.asked_service.specs.site_table.Table.{Site}
use Rattle.sample_command.specs.Accepted as sample

are_plain : (n : ℕ) (settings : Settings) → AreSampleSettings n settings → ArePlain settings
are_plain n settings own = record {
  filters = own.filters;
  plain = record {
    programs = refl;
    uid = omega (arith, own.uid);
    groups = (let few : length settings.groups ≡ 0 = ap length own.groups in omega (arith, few));
    ambient = subst (λ set. IsWithin set settings.bounding) (sym own.ambient) (none_within settings.bounding);
    bounding = subst (λ set. IsWithin set all) (sym own.bounding) (within_self all);
    keeps = own.keeps;
    memory = own.memory;
  };
}

shows : (site : Site) (steps : List MountStep) → FindsItsProgram site steps → ShowsProgram site steps program
unfolding none
shows site steps found = record {
  program = plain_exe program;
  found = found.found;
  exe = refl;
  plain = refl;
  runs = ap (λ entry. (flags_by entry).no_exec) found.entry;
}

-- what is never refused has no refusal
never : (table : calls.Table) (site : Site) (settings : Settings) (steps : List MountStep) → IsNeverRefused table site settings steps
    → (why : LaunchError) → IsRefused table site settings steps why → ⊥
never table site settings steps n (error.PrivilegedProgram path) is = n.not_privileged path is
never table site settings steps n (error.Refused step errno) is = n.not_refused step errno is
never table site settings steps n (error.Killed step) is = n.not_killed step is
never table site settings steps n error.Memory is = is

module _ (n : ℕ) (unit : Resolved) (table : calls.Table) (site : Site) (says : SaysSample n unit) (has_rows : HasSampleRows site) where
  no_path : PathsAreNotRefused → (error : PlanError) → RefusesPath (host_of site) (unit_mentions unit site) error → ⊥
  no_path law (plan.Missing path) is = (let both = sym (law n unit site says has_rows).1 ∙ is in cc)
  no_path law (plan.Kind path) is = (let both = sym (law n unit site says has_rows).1 ∙ is in cc)
  no_path law plan.Memory is = is

  no_launch : IsWhole table → SettingsAreTheSamples → ProgramsAreFound → PlainSettingsAreLaunched → (why : LaunchError)
      → IsRefusedUnit unit table site why → ⊥
  no_launch whole settled found law why is =
      let own = settled n unit table site is.settings says has_rows is.are_settings in
      never table site is.settings is.plan
      (law table site is.settings is.plan whole is.is_plan.can_be_mounted (are_plain n is.settings own)
      (subst (ShowsProgram site is.plan) (sym own.launches)
      (shows site is.plan (found n unit site is.plan says has_rows is.is_plan.is_planned))))
      why is.refused

  pub never_refused : IsWhole table → SettingsAreNotRefused → SettingsAreTheSamples → PathsAreNotRefused → ProgramsAreFound
      → PlainSettingsAreLaunched → sample.IsNeverRefused unit table site
  never_refused whole accepted settled paths found law (InSettings error) ne is = (let both = sym (accepted n unit table site says has_rows) ∙ is in cc)
  never_refused whole accepted settled paths found law (Plan error) ne is = no_path paths error is.1
  never_refused whole accepted settled paths found law (Launch why) ne is = no_launch whole settled found law why is
  never_refused whole accepted settled paths found law Memory ne is = ne refl
