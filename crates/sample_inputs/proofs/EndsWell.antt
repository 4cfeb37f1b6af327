-- A launch without filters of a program that its plan shows ends well, so no answer of its settings is a refusal.
use Rattle.std.proofs.Common.{◌≡◌, ℕ, false, cond, List, [], ◌∷◌, ◌++◌, Err, ap, ◌∙◌, sym, subst, length, arith}
use Rattle.std.specs.Prelude.{◌&&◌, ◌+◌}
use Rattle.launcher.specs.abs_path.Paths.{Path}
use Rattle.launcher.specs.call_table.Facts.{IsWhole}
use Rattle.launcher.specs.call_table.Table as calls
use Rattle.launcher.specs.cap_sets.Sets.{all, union, cut, minus}
use Rattle.launcher.specs.exec_settings.declared.service.Settings.{Settings}
use Rattle.launcher.specs.filter_settings.declared.filter_rules.installed.Filter.{Filter}
use Rattle.launcher.specs.kern_mounts.Finds.{finds}
use Rattle.launcher.specs.kern_mounts.Launch.{CanBeMounted}
use Rattle.launcher.specs.kern_mounts.Split.{Table}
use Rattle.launcher.specs.kernel_model.World.{World, start_world}
use Rattle.launcher.specs.Answers.{EndsAs, EndsWithAll, launch_with, wanted_of}
use Rattle.launcher.specs.Launch.{Wanted, LaunchStep, LaunchOutcome, Launched, StepRefused, StepKilled, PrivilegedProgram, launch, launch_from}
use Rattle.launcher.specs.Launch.{launch_steps, mount_steps, with_unshare, identity_steps, filter_steps, program_steps, last_steps}
use Rattle.launcher.specs.Launch.{given_up_steps, capset_step, held, with_held, is_privileged_row}
use Rattle.launcher.specs.Matching.{AreMatching}
use Rattle.launcher.proofs.HostRoot.{begins_at_host}
use Rattle.launcher.proofs.LaunchCalls.{launch_calls}
use Rattle.launcher.proofs.LaunchCreds.{starts}
use Rattle.launcher.proofs.LaunchWorld.{ready_at}
use Rattle.launcher.proofs.Leading.{Leads, append_none, append_parts}
use Rattle.launcher.specs.declared.error.LaunchError.TheVariants as error
use Rattle.launcher.proofs.OfCapSets.Members.{within_through}
use Rattle.launcher.specs.mount_plan.Host.{host_of}
use Rattle.launcher.specs.site_table.Kinds.{is_exe}
use Rattle.launcher.specs.site_table.Table.{Site, row_at}
use Rattle.sample_inputs.specs.sample_launch.EndsWell.{ShowsProgram, IsPlain, PlainLaunchEndsWell, ArePlain, IsNeverRefused}
use Rattle.sample_inputs.specs.sample_launch.EndsWell.{PlainSettingsAreLaunched}
use Rattle.sample_inputs.proofs.Going.{goes_on, leads_append, leads_launch}
use Rattle.sample_inputs.proofs.MadeSteps.{goes_mounts, runs_program}
use Rattle.sample_inputs.proofs.Launching.{Root, Any, goes_identity}
use Rattle.launcher.proofs.Solo.{At}
use Rattle.launcher.proofs.LaunchCreds.{IsReady}

from_nothing : (count : ℕ) → 0 + count ≡ count
from_nothing count = omega arith

-- the steps of a launch without filters
unfiltered : (lines : _) (wanted : Wanted) (plan : Table) → wanted.programs ≡ [] → wanted.keeps_capabilities ≡ false
    → launch_steps lines wanted plan ≡ (with_unshare lines (mount_steps plan) ++ identity_steps lines wanted) ++ program_steps lines
    wanted.program
unfiltered lines wanted plan none' off =
    let mounting = with_unshare lines (mount_steps plan) in
    let identity = identity_steps lines wanted in
    let program = program_steps lines wanted.program in
    ap (λ (programs : List (List ℕ)). mounting ++ ((identity ++ filter_steps lines programs) ++ last_steps lines wanted)) none'
    ∙ ap (λ keeps. mounting ++ ((identity ++ []) ++ (cond keeps (given_up_steps lines (minus held wanted.bounding)
    ++ capset_step lines wanted.ambient wanted.ambient (union wanted.ambient (cut held wanted.bounding)) ∷ []) [] ++ program))) off
    ∙ sym (append_parts mounting identity [] program)
    ∙ ap (λ (steps : List LaunchStep). steps ++ program) (append_none (mounting ++ identity))

module _ (table : calls.Table) (site : Site) (wanted : Wanted) (plan : Table) (whole : IsWhole table) (can : CanBeMounted (host_of site) plan) (plain : IsPlain wanted) (shows : ShowsProgram site plan wanted.program) where
  made : (last : World) × Leads (start_world table site) (launch_steps table.calls wanted plan) last
  made =
      let lines = table.calls in
      let calls' = launch_calls table whole in
      let begins = begins_at_host (host_of site) plan can in
      let start = start_world table site in
      let mounting = with_unshare lines (mount_steps plan) in
      let ambient = within_through wanted.ambient wanted.bounding all plain.ambient plain.bounding in
      let before = goes_on (At table site (Root table site calls' wanted plan plain) [] plan) (At table site (Any table site calls' wanted plan plain) [] plan) start mounting (identity_steps lines wanted)
      (goes_mounts table site calls' (Root table site calls' wanted plan plain) plan begins (starts, ambient))
      (goes_identity table site calls' wanted plan plain) in
      let ready = ready_at table site calls' wanted plan before.last begins plain.uid before.leads in
      let after = runs_program table site calls' (IsReady wanted.uid wanted.ambient (with_held wanted.keeps_capabilities wanted.ambient)) plan wanted.program before.last shows ready in
      let leads = leads_append start before.last after.0 (mounting ++ identity_steps lines wanted) (program_steps lines wanted.program) before.leads after.1 in
      (after.0, subst (λ (steps : List LaunchStep). Leads start steps after.0) (sym (unfiltered lines wanted plan plain.programs plain.keeps)) leads)

  unprivileged : is_privileged_row (finds (row_at site.rows) plan wanted.program) ≡ false
  unprivileged =
      ap is_privileged_row shows.found
      ∙ ap (λ b. is_exe shows.program.kind && b) shows.plain ∙ ap (λ b. b && false) shows.exe

  ends_well : (last : World) × (launch table site wanted plan ≡ Launched last (length (launch_steps table.calls wanted plan)))
  ends_well =
      let steps = launch_steps table.calls wanted plan in (
        made.0,
        ap (λ b. cond b (PrivilegedProgram wanted.program) (launch_from (start_world table site) steps 0)) unprivileged
            ∙ leads_launch (start_world table site) steps 0 made.0 made.1 ∙ ap (Launched made.0) (from_nothing (length steps)),
      )

pub plain_launch_ends_well : PlainLaunchEndsWell
plain_launch_ends_well table site wanted plan whole can plain shows = ends_well table site wanted plan whole can plain shows

module _ (table : calls.Table) (site : Site) (settings : Settings) (plan : Table) (whole : IsWhole table) (can : CanBeMounted (host_of site) plan) (are : ArePlain settings) (shows : ShowsProgram site plan settings.program) where
  abbrev steps_of : ℕ
  steps_of = length (launch_steps table.calls (wanted_of settings []) plan)

  own : (last : World) × (launch_with table site settings plan [] ≡ Launched last steps_of)
  own = plain_launch_ends_well table site (wanted_of settings []) plan whole can are.plain shows

  -- no programs match no filters
  none_match : AreMatching settings.filters.items []
  none_match = subst (λ (filters : List Filter). AreMatching filters []) (sym are.filters) tt

  ends_so : (outcome : LaunchOutcome) → EndsWithAll table site settings plan outcome → launch_with table site settings plan [] ≡ outcome
  ends_so outcome ends = ends.each [] [] tt none_match

  no_privileged : (path : Path) → EndsAs table site settings plan (Err (error.PrivilegedProgram path)) → ⊥
  no_privileged path ends = differ (sym own.1 ∙ ends [])
    where
      differ : (Launched own.0 steps_of ≡ PrivilegedProgram path) → ⊥
      differ e = cc

  no_refused : (step errno : ℕ) → EndsAs table site settings plan (Err (error.Refused step errno)) → ⊥
  no_refused step errno ends = differ (sym own.1 ∙ ends_so (StepRefused step errno) ends)
    where
      differ : (Launched own.0 steps_of ≡ StepRefused step errno) → ⊥
      differ e = cc

  no_killed : (step : ℕ) → EndsAs table site settings plan (Err (error.Killed step)) → ⊥
  no_killed step ends = differ (sym own.1 ∙ ends_so (StepKilled step) ends)
    where
      differ : (Launched own.0 steps_of ≡ StepKilled step) → ⊥
      differ e = cc

  never : IsNeverRefused table site settings plan
  never = record { not_privileged = no_privileged; not_refused = no_refused; not_killed = no_killed }

pub plain_settings_are_launched : PlainSettingsAreLaunched
plain_settings_are_launched table site settings plan whole can are shows = never table site settings plan whole can are shows
