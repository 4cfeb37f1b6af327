-- A launch of the settings of a unit leaves what a judgement stands on.
use Rattle.std.proofs.Common.{◌≡◌, ℕ, List, [], ◌∷◌, Option, Some, sym, ◌∙◌, subst, ◌<◌}
use Rattle.std.specs.Prelude.{◌^◌}
use Rattle.std.specs.List.{AllByRecursion}
use Rattle.std.proofs.lemmas.List.Elements.{recursion_from_All}
use Rattle.kernel_laws.specs.bpf_code.declared.machine.Insn.{Insn}
use Rattle.kernel_laws.specs.call_table.Facts.{IsWhole}
use Rattle.kernel_laws.specs.call_table.Table as calls
use Rattle.exec_settings.specs.dropin_merge.declared.resolved.Resolved.{Resolved}
use Rattle.exec_settings.specs.AreSettings.{AreSettings, HasWantedRules}
use Rattle.exec_settings.specs.Dynamic.{unit_filters}
use Rattle.exec_settings.specs.declared.service.Settings.{Settings}
use Rattle.exec_settings.specs.filter_settings.declared.filter_rules.settings.FilterSettings.{FilterSettings}
use Rattle.kernel_laws.specs.kern_mounts.Launch.{CanBeMounted}
use Rattle.kernel_laws.specs.kern_mounts.Split.{Table}
use Rattle.kernel_laws.specs.FirstChoice.{Means}
use Rattle.kernel_laws.specs.Launched.{IsLaunchedWorld}
use Rattle.mount_plan.specs.Host.{host_of}
use Rattle.exec_settings.specs.site_table.Table.{Site}
use Rattle.launcher.specs.Alike.{HasWordArchs}
use Rattle.launcher.specs.declared.launched.Launched.{Launched as Service}
use Rattle.launcher.specs.Answers.{LaunchesTo, codes_of, given_bytes, wanted_of}
use Rattle.launcher.specs.Conditions.{CanBeLaunched}
use Rattle.launcher.specs.LaunchedWorlds.{IsMeant}
use Rattle.launcher.specs.Launches.{AreRead}
use Rattle.launcher.proofs.Conditions.{keeps_for_user}
use Rattle.launcher.proofs.LaunchedWorlds.{launched_is_world}
use Rattle.launcher.proofs.Matching.{means}
use Rattle.launcher.proofs.TwoAbis.{filters_there}
use Rattle.launcher.proofs.Programs.{they_are_read, they_match}

same_code : (one other : List Insn) → ◌≡◌ {A = Option (List Insn)} (Some one) (Some other) → one ≡ other
same_code one other e = cc

-- bytes that are read as programs of the settings mean them
meant : (settings : FilterSettings) (table : calls.Table) (programs : List (List ℕ)) (stack : List (List Insn)) → AreRead programs stack
    → AllByRecursion (Means settings table) stack → AllByRecursion (IsMeant settings table) programs
meant settings table [] [] read each = tt
meant settings table [] (code ∷ stack) read each = absurd read
meant settings table (bytes ∷ programs) [] read each = absurd read
meant settings table (bytes ∷ programs) (code ∷ stack) read each =
    ((λ own is. subst (Means settings table) (same_code code own (sym read.0 ∙ is)) each.0), meant settings table programs stack read.1 each.1)

pub unit_launched : (unit : Resolved) (table : calls.Table) (site : Site) (settings : Settings) (plan : Table) (service : Service)
    → IsWhole table → HasWordArchs table → CanBeMounted (host_of site) plan → CanBeLaunched settings
    → AreSettings unit table site settings → LaunchesTo table site settings plan service → IsLaunchedWorld service.world
unit_launched unit table site settings plan service whole arch can fit are l =
    let own = unit_filters unit table in
    let filters = are.filters_as_wanted in
    let wanted = recursion_from_All (HasWantedRules own table) settings.filters.items filters.do_as_wanted in
    let each = means own table settings.filters.items (codes_of service.filters) wanted (filters_there own table settings.filters.items filters.exactly_those_on) (they_match settings.filters.items service.filters l.filters) in
    launched_is_world own table site (wanted_of settings (given_bytes service.filters)) plan service.world service.steps whole arch
    filters.refuse_by_numbers can fit.uid (keeps_for_user settings (given_bytes service.filters) fit)
    (meant own table (given_bytes service.filters) (codes_of service.filters)
    (they_are_read settings.filters.items service.filters l.filters) each) l.ends
