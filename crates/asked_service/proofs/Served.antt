-- A launch of the settings of a unit leaves a world in which what is open can be shown.
use Rattle.std.proofs.Common.{◌≡◌, ℕ, List, [], ◌∷◌, Option, Some, sym, ◌∙◌, subst}
use Rattle.std.specs.List.{AllByRecursion}
use Rattle.std.proofs.lemmas.List.Elements.{recursion_from_All}
use Rattle.judge.specs.abs_path.Paths.{Path}
use Rattle.judge.specs.bpf_code.declared.machine.Insn.{Insn}
use Rattle.judge.specs.call_table.Facts.{IsWhole}
use Rattle.judge.specs.call_table.Table as calls
use Rattle.judge.specs.dropin_merge.declared.resolved.Resolved.{Resolved}
use Rattle.judge.specs.exec_settings.AreSettings.{AreSettings, HasWantedRules}
use Rattle.judge.specs.exec_settings.Dynamic.{unit_filters}
use Rattle.judge.specs.exec_settings.declared.service.Settings.{Settings}
use Rattle.report_text.specs.filter_settings.declared.filter_rules.settings.FilterSettings.{FilterSettings}
use Rattle.judge.specs.kern_mounts.Launch.{CanBeMounted}
use Rattle.judge.specs.kern_mounts.Split.{Table}
use Rattle.judge.specs.kernel_model.kernel_calls.Calls.{IsPath}
use Rattle.judge.specs.kernel_laws.FirstChoice.{Means}
use Rattle.judge.specs.kernel_laws.Launched.{launch_of}
use Rattle.judge.specs.kernel_ways.Laws.{IsServedWorld}
use Rattle.judge.specs.kernel_ways.Offers.{RunsProgram}
use Rattle.judge.proofs.OfKernelWays.Serving.{launched_is_served, launched_runs_program}
use Rattle.judge.specs.mount_plan.Host.{host_of}
use Rattle.judge.specs.site_table.Table.{Site, IsSite}
use Rattle.judge.specs.launcher.declared.launched.Launched.{Launched as Service}
use Rattle.judge.specs.launcher.Answers.{LaunchesTo, codes_of, given_bytes, wanted_of}
use Rattle.judge.specs.launcher.LaunchedWorlds.{IsMeant}
use Rattle.judge.specs.launcher.Launches.{AreRead}
use Rattle.judge.proofs.OfLauncher.Conditions.{keeps_for_user, settings_can_be_launched}
use Rattle.judge.proofs.OfLauncher.Matching.{means}
use Rattle.judge.proofs.OfLauncher.Programs.{they_are_read, they_match}
use Rattle.judge.proofs.OfLauncher.TwoAbis.{filters_there}
use Rattle.judge.specs.launcher.Alike.{HasWordArchs}

same_code : (one other : List Insn) → ◌≡◌ {A = Option (List Insn)} (Some one) (Some other) → one ≡ other
same_code one other e = cc

-- bytes that are read as programs of the settings mean them
meant : (settings : FilterSettings) (table : calls.Table) (programs : List (List ℕ)) (stack : List (List Insn)) → AreRead programs stack
    → AllByRecursion (Means settings table) stack → AllByRecursion (IsMeant settings table) programs
meant settings table [] [] read each = tt
meant settings table [] (code ∷ stack) read each = absurd read
meant settings table (bytes ∷ programs) [] read each = absurd read
meant settings table (bytes ∷ programs) (code ∷ stack) read each =
    ((λ own is. subst (Means settings table) (same_code code own (sym read.0 ∙ is)) each.0), meant settings table programs stack read.1 each.1)

module _ (unit : Resolved) (table : calls.Table) (site : Site) (settings : Settings) (plan : Table) (service : Service)
    (whole : IsWhole table) (arch : HasWordArchs table) (sound : IsSite site) (can : CanBeMounted (host_of site) plan)
    (are : AreSettings unit table site settings) (launches : LaunchesTo table site settings plan service) where
  abbrev own : FilterSettings
  own = unit_filters unit table

  each : AllByRecursion (IsMeant own table) (given_bytes service.filters)
  each =
      let wanted = recursion_from_All (HasWantedRules own table) settings.filters.items are.filters_as_wanted.do_as_wanted in
      let decide = means own table settings.filters.items (codes_of service.filters) wanted (filters_there own table settings.filters.items are.filters_as_wanted.exactly_those_on) (they_match settings.filters.items service.filters launches.filters) in
      meant own table (given_bytes service.filters) (codes_of service.filters)
      (they_are_read settings.filters.items service.filters launches.filters) decide

  pub served : IsServedWorld service.world
  served =
      let fit = settings_can_be_launched unit table site settings sound are in
      launched_is_served own table site (wanted_of settings (given_bytes service.filters)) plan service.world service.steps whole arch
      sound are.filters_as_wanted.refuse_by_numbers can fit.uid (keeps_for_user settings (given_bytes service.filters) fit) each launches.ends

  pub runs_program : IsPath settings.program → RunsProgram (launch_of service.world) service.program
  runs_program named =
      let fit = settings_can_be_launched unit table site settings sound are in
      let runs = launched_runs_program own table site (wanted_of settings (given_bytes service.filters)) plan service.world service.steps whole arch sound are.filters_as_wanted.refuse_by_numbers can fit.uid (keeps_for_user settings (given_bytes service.filters) fit) each named launches.ends in
      let P : Path → Type 0 = λ path. RunsProgram (launch_of service.world) path in
      subst P (sym launches.program) runs
