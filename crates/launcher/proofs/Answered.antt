-- What the steps of a launch come to is what the launch answers.
use Rattle.std.proofs.Common.{◌≡◌, ℕ, false, cond, List, ◌++◌, Result, Ok, Err, ap, ◌∙◌, sym, subst, arith}
use Rattle.std.specs.Prelude.{IsErrAnd}
use Rattle.kernel_laws.specs.bpf_code.declared.machine.Insn.{Insn}
use Rattle.kernel_laws.specs.call_table.Facts.{IsWhole}
use Rattle.kernel_laws.specs.call_table.Table as calls
use Rattle.exec_settings.specs.declared.service.Settings.{Settings}
use Rattle.kernel_laws.specs.kern_mounts.Finds.{finds}
use Rattle.kernel_laws.specs.kern_mounts.Launch.{CanBeMounted}
use Rattle.kernel_laws.specs.kern_mounts.Split.{Table}
use Rattle.kernel_laws.specs.kernel_model.World.{World, start_world}
use Rattle.mount_plan.specs.Host.{host_of}
use Rattle.exec_settings.specs.site_table.Table.{Site, row_at}
use Rattle.launcher.specs.Alike.{HasWordArchs}
use Rattle.launcher.specs.declared.error.LaunchError.{LaunchError}
use Rattle.launcher.specs.declared.error.LaunchError.TheVariants as error
use Rattle.launcher.specs.declared.filters.FilterProgram.{FilterProgram}
use Rattle.launcher.specs.declared.launched.Launched.{Launched as Service}
use Rattle.launcher.specs.Answers.{AreProgramsOf, EndsAs, LaunchesTo, LeavesService, codes_of, given_bytes, launch_with, wanted_of}
use Rattle.launcher.specs.Conditions.{CanBeLaunched}
use Rattle.launcher.specs.Ends.{Ends}
use Rattle.launcher.specs.Launch.{LaunchStep, LaunchOutcome, Launched, StepRefused, StepKilled, PrivilegedProgram, call_steps, is_privileged_row}
use Rattle.launcher.specs.Launch.{launch_from, launch_steps, mount_steps, with_unshare}
use Rattle.launcher.specs.Launches.{AreRead}
use Rattle.launcher.specs.LaunchesAlike.{AreInstalled, EndAlike}
use Rattle.launcher.specs.Matching.{AreMatching}
use Rattle.launcher.proofs.Conditions.{keeps_for_user}
use Rattle.launcher.proofs.LaunchesAlike.{launches_alike}
use Rattle.launcher.proofs.LaunchWorld.{launch_leaves}
use Rattle.launcher.proofs.Matching.{alike, room}
use Rattle.launcher.proofs.Programs.{read_once, they_are_read, they_match}

-- an error that is handed on
pub at_error : {R : Type 0} (P : Result R LaunchError → Type 0) (result : Result R LaunchError) (e : LaunchError)
    → IsErrAnd result (λ own. own ≡ e) → P (Err e) → P result
at_error P (Ok service) e is holds = absurd is
at_error P (Err own) e is holds = subst (λ (one : LaunchError). P (Err one)) (sym is) holds

-- launches that end alike are refused at one step, or killed at one
refused_alike : (one other : List (List Insn)) (x y : LaunchOutcome) (step errno : ℕ) → x ≡ StepRefused step errno → EndAlike one other x y
    → y ≡ StepRefused step errno
refused_alike one other x y step errno is same = by y (subst (λ (z : LaunchOutcome). EndAlike one other z y) is same)
  where
    by : (y : LaunchOutcome) → EndAlike one other (StepRefused step errno) y → y ≡ StepRefused step errno
    by (Launched world count) h = absurd h
    by (StepRefused at number) h = ap (λ n. StepRefused n number) (sym h.0) ∙ ap (StepRefused step) (sym h.1)
    by (StepKilled at) h = absurd h
    by (PrivilegedProgram path) h = absurd h

killed_alike : (one other : List (List Insn)) (x y : LaunchOutcome) (step : ℕ) → x ≡ StepKilled step → EndAlike one other x y → y ≡ StepKilled step
killed_alike one other x y step is same = by y (subst (λ (z : LaunchOutcome). EndAlike one other z y) is same)
  where
    by : (y : LaunchOutcome) → EndAlike one other (StepKilled step) y → y ≡ StepKilled step
    by (Launched world count) h = absurd h
    by (StepRefused at number) h = absurd h
    by (StepKilled at) h = ap StepKilled (sym h)
    by (PrivilegedProgram path) h = absurd h

module _ (table : calls.Table) (site : Site) (settings : Settings) (plan : Table) (whole : IsWhole table) (arch : HasWordArchs table) (can : CanBeMounted (host_of site) plan) (fit : CanBeLaunched settings) where
  -- a program that has no privileges is launched by the steps
  by_steps : (programs : List (List ℕ)) → is_privileged_row (finds (row_at site.rows) plan settings.program) ≡ false
      → launch_with table site settings plan programs ≡ launch_from (start_world table site)
      (launch_steps table.calls (wanted_of settings programs) plan) 0
  by_steps programs plain =
      ap (λ b. cond b (PrivilegedProgram settings.program)
      (launch_from (start_world table site) (launch_steps table.calls (wanted_of settings programs) plan) 0)) plain

  module _ (made : List FilterProgram) (are : AreProgramsOf settings.filters.items made) (plain : is_privileged_row (finds (row_at site.rows) plan settings.program) ≡ false) where
    installed : (programs : List (List ℕ)) (stack : List (List Insn)) → AreRead programs stack → AreMatching settings.filters.items stack
        → AreInstalled programs stack
    installed programs stack read match =
        let own = room settings.filters.items stack match in
        let most = fit.fit_into_a_stack in
        record { read = read; room = omega (arith, own, most) }

    ends_alike : (programs : List (List ℕ)) (stack : List (List Insn)) → AreRead programs stack → AreMatching settings.filters.items stack
        → EndAlike (codes_of made) stack (launch_with table site settings plan (given_bytes made))
        (launch_with table site settings plan programs)
    ends_alike programs stack read match =
        let own = they_match settings.filters.items made are in
        launches_alike table site (wanted_of settings (given_bytes made)) plan programs (codes_of made) stack whole arch can fit.uid
        (installed (given_bytes made) (codes_of made) (they_are_read settings.filters.items made are) own) (installed programs stack read match) (alike settings.filters.items (codes_of made) stack own match)

    pub ends_refused : (e : LaunchError) (left : World) → Ends (launch_with table site settings plan (given_bytes made)) (Err e) left
        → EndsAs table site settings plan (Err e)
    ends_refused (error.Refused step errno) left ends = record {
      codes = codes_of made;
      matching = they_match settings.filters.items made are;
      read = they_are_read settings.filters.items made are;
      each = λ programs stack read match. refused_alike (codes_of made) stack (launch_with table site settings plan (given_bytes made)) (launch_with table site settings plan programs) step errno ends (ends_alike programs stack read match);
    }
    ends_refused (error.Killed step) left ends = record {
      codes = codes_of made;
      matching = they_match settings.filters.items made are;
      read = they_are_read settings.filters.items made are;
      each = λ programs stack read match. killed_alike (codes_of made) stack (launch_with table site settings plan (given_bytes made)) (launch_with table site settings plan programs) step ends (ends_alike programs stack read match);
    }
    ends_refused (error.PrivilegedProgram path) left ends = absurd ends
    ends_refused error.Memory left ends = tt

    -- the steps end as the launch
    pub steps_end : (list : List LaunchStep) (start : World) (result : Result ℕ LaunchError) (after : World)
        → start ≡ start_world table site → list ≡ call_steps table.calls (wanted_of settings (given_bytes made))
        → Ends (launch_from start (with_unshare start.calls.calls (mount_steps plan) ++ list) 0) result after
        → Ends (launch_with table site settings plan (given_bytes made)) result after
    steps_end list start result after starts is ends =
        let same : launch_from start (with_unshare start.calls.calls (mount_steps plan) ++ list) 0 ≡ launch_with table site settings plan (given_bytes made) =
        ap (λ (w : World). launch_from w (with_unshare w.calls.calls (mount_steps plan) ++ list) 0) starts
        ∙ ap (λ (steps : List LaunchStep). launch_from (start_world table site) (with_unshare table.calls (mount_steps plan) ++ steps) 0) is
        ∙ sym (by_steps (given_bytes made) plain) in
        subst (λ (outcome : LaunchOutcome). Ends outcome result after) same ends

  -- what a launched service is
  pub service_left : (service : Service) → LaunchesTo table site settings plan service → LeavesService table site settings plan service
  service_left service l =
      let left = launch_leaves table site (wanted_of settings (given_bytes service.filters)) plan service.world service.steps whole can fit.uid (keeps_for_user settings (given_bytes service.filters) fit) l.ends in
      let own = left.0 in
      record {
        leaves = own;
        programs = read_once (given_bytes service.filters) own.stack (codes_of service.filters) own.read
            (they_are_read settings.filters.items service.filters l.filters);
        every_step = left.1;
      }
