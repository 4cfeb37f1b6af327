-- Launches by other programs that match go on alike.
use Rattle.std.proofs.Common.{◌≡◌, ℕ, ◌≤◌, List, refl, sym, ap, ◌∙◌, subst, arith}
use Rattle.judge.specs.bpf_code.declared.machine.Insn.{Insn}
use Rattle.judge.specs.bpf_code.Stack.{room_of}
use Rattle.judge.specs.call_table.Facts.{IsWhole}
use Rattle.judge.specs.call_table.Table as calls
use Rattle.judge.specs.dropin_merge.declared.resolved.Resolved.{Resolved}
use Rattle.judge.specs.exec_settings.AreSettings.{AreSettings}
use Rattle.judge.specs.exec_settings.declared.service.Settings.{Settings}
use Rattle.report_text.specs.filter_settings.filter_rules.Costs.{most_room}
use Rattle.report_text.specs.filter_settings.declared.filter_rules.installed.Filter.{Filter}
use Rattle.judge.specs.kern_mounts.Launch.{CanBeMounted}
use Rattle.judge.specs.kern_mounts.Split.{Table}
use Rattle.judge.specs.kernel_model.World.{World}
use Rattle.judge.specs.linux_numbers.Limits.{max_insns_per_path}
use Rattle.judge.specs.mount_plan.Host.{host_of}
use Rattle.judge.specs.site_table.Table.{Site, IsSite}
use Rattle.judge.specs.launcher.Alike.{AnswerAlike, HasWordArchs, SameReplies, above}
use Rattle.judge.specs.launcher.Answers.{LaunchesTo, codes_of, given_bytes, launch_with, wanted_of}
use Rattle.judge.specs.launcher.Conditions.{CanBeLaunched}
use Rattle.judge.specs.launcher.Launch.{LaunchOutcome, Launched, StepRefused, StepKilled, PrivilegedProgram}
use Rattle.judge.specs.launcher.Launches.{AreRead}
use Rattle.judge.specs.launcher.LaunchesAlike.{AreInstalled, EndAlike}
use Rattle.judge.specs.launcher.Matching.{AreMatching}
use Rattle.judge.specs.launcher.declared.launched.Launched.{Launched as Service}
use Rattle.judge.proofs.OfLauncher.Alike.{alike_replies, alike_runs, full_by_own, room_by_bounds}
use Rattle.judge.proofs.OfLauncher.Conditions.{settings_can_be_launched}
use Rattle.judge.proofs.OfLauncher.LaunchesAlike.{launches_alike}
use Rattle.judge.proofs.OfLauncher.Matching.{alike, room}
use Rattle.judge.proofs.OfLauncher.Programs.{they_are_read, they_match}
use Rattle.asked_service.specs.launching.OtherPrograms.{AreOthers, GoesOnAlike, HasRoomByBounds, WhicheverPrograms}

-- programs that match have room in one stack
module _ (filters : List Filter) (fit : most_room filters ≤ max_insns_per_path) where
  pub installed : (programs : List (List ℕ)) (codes : List (List Insn)) → AreMatching filters codes → AreRead programs codes
      → AreInstalled programs codes
  installed programs codes matching read =
      let few : room_of codes ≤ most_room filters = room filters codes matching in
      record { read = read; room = omega (arith, few, fit) }

module _ (table : calls.Table) (site : Site) (settings : Settings) (plan : Table) (service : Service) (arch : HasWordArchs table) where
  told : (base : World) (codes : List (List Insn)) → service.world ≡ above codes base → service.world.calls ≡ table
      → HasWordArchs base.calls
  told base codes own tables =
      let same : base.calls ≡ table = sym (ap (λ (world : World). world.calls) own) ∙ tables in
      subst HasWordArchs (sym same) arch

  -- a launch that ends alike
  alike_there : (programs : List (List ℕ)) (codes : List (List Insn)) (other : LaunchOutcome) → AnswerAlike (codes_of service.filters) codes
      → launch_with table site settings plan programs ≡ other → service.world.calls ≡ table
      → EndAlike (codes_of service.filters) codes (Launched service.world service.steps) other
      → GoesOnAlike table site settings plan service programs codes
  alike_there programs codes (Launched world count) answers is tables (same, base, own, there) = record {
    base = base;
    own = own;
    other = is ∙ ap (λ w. Launched w count) there ∙ ap (λ n. Launched (above codes base) n) (sym same);
    same_replies = λ calls are. subst (λ w. SameReplies w (above codes base) calls) (sym own)
        (alike_replies (codes_of service.filters) codes base calls answers (told base (codes_of service.filters) own tables) are);
    same_worlds = λ calls are. alike_runs (codes_of service.filters) codes base calls answers
        (told base (codes_of service.filters) own tables) are;
  }
  alike_there programs codes (StepRefused count errno) answers is tables end = absurd end
  alike_there programs codes (StepKilled count) answers is tables end = absurd end
  alike_there programs codes (PrivilegedProgram path) answers is tables end = absurd end

  module _ (unit : Resolved) (whole : IsWhole table) (sound : IsSite site) (can : CanBeMounted (host_of site) plan)
      (are : AreSettings unit table site settings)
      (launches : LaunchesTo table site settings plan service) (tables : service.world.calls ≡ table) where
    fit : CanBeLaunched settings
    fit = settings_can_be_launched unit table site settings sound are

    goes_on : (programs : List (List ℕ)) (codes : List (List Insn)) → AreOthers settings programs codes
        → GoesOnAlike table site settings plan service programs codes
    goes_on programs codes others =
        let mine = they_match settings.filters.items service.filters launches.filters in
        let answers : AnswerAlike (codes_of service.filters) codes = alike settings.filters.items (codes_of service.filters) codes mine others.matching in
        let ends : EndAlike (codes_of service.filters) codes (launch_with table site settings plan (given_bytes service.filters)) (launch_with table site settings plan programs) =
        launches_alike table site (wanted_of settings (given_bytes service.filters)) plan programs
        (codes_of service.filters) codes whole arch can fit.uid
        (installed settings.filters.items fit.fit_into_a_stack (given_bytes service.filters) (codes_of service.filters) mine
        (they_are_read settings.filters.items service.filters launches.filters))
        (installed settings.filters.items fit.fit_into_a_stack programs codes others.matching others.read) answers in
        alike_there programs codes (launch_with table site settings plan programs) answers refl tables
        (subst (λ e. EndAlike (codes_of service.filters) codes e (launch_with table site settings plan programs)) launches.ends ends)

    has_room : (codes : List (List Insn)) → AreMatching settings.filters.items codes → HasRoomByBounds settings codes
    has_room codes matching = record {
      full = full_by_own codes;
      room = λ world call process code pushes fits. room_by_bounds codes (most_room settings.filters.items) world call process code pushes
          (room settings.filters.items codes matching) fits;
    }

    pub whichever : WhicheverPrograms table site settings plan service
    whichever programs codes others = (goes_on programs codes others, has_room codes others.matching)
