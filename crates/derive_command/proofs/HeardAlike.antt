-- What is heard of one service foretells the replies of another, whose launch differs in the programs alone.
use Rattle.std.proofs.Common.{◌≡◌, inl, ℕ, ◌<◌, ◌^◌, Bool, true, false, List, [], ◌∷◌, Option, Some, None, refl, ap, ◌∙◌, sym, subst}
use Rattle.std.specs.Prelude.{IfSome, IsTrue}
use Rattle.asked_service.specs.bpf_code.declared.machine.Insn.{Insn}
use Rattle.asked_service.specs.bpf_code.declared.machine.CallData.{CallData}
use Rattle.asked_service.specs.call_table.Facts.{IsWhole}
use Rattle.asked_service.specs.call_table.Table as calls
use Rattle.asked_service.specs.dropin_merge.declared.resolved.Resolved.{Resolved}
use Rattle.asked_service.specs.kernel_model.declared.kernel_calls.call.Call.{Call}
use Rattle.asked_service.specs.kernel_model.declared.process.Process.{Process}
use Rattle.asked_service.specs.kernel_model.declared.reply.Reply.{Reply}
use Rattle.asked_service.specs.kernel_model.Runs.{replies}
use Rattle.asked_service.specs.kernel_model.World.{World, of_number, process_of}
use Rattle.asked_service.specs.launching.Launched.{IsLaunchedUnit}
use Rattle.asked_service.specs.launcher.Alike.{HasWordArchs, above}
use Rattle.asked_service.specs.launcher.Answers.{codes_of, given_bytes, wanted_of}
use Rattle.asked_service.specs.launcher.declared.launched.Launched.{Launched as Service}
use Rattle.asked_service.specs.site_table.Table.{IsSite, Site}
use Rattle.asked_service.proofs.OfLauncher.Conditions.{settings_can_be_launched}
use Rattle.asked_service.proofs.OfLauncher.Programs.{they_are_read, they_match}
use Rattle.asked_service.proofs.OfLauncher.TwoAbis.{word_archs}
use Rattle.derive_command.specs.declared.trace_profile.fates.Fate.{Fate}
use Rattle.derive_command.specs.declared.trace_profile.searching.Trial.{Trial}
use Rattle.derive_command.specs.trace_profile.Derived.{KeepAlike}
use Rattle.derive_command.specs.trace_profile.Extended.{extended}
use Rattle.derive_command.specs.trace_profile.Foretelling.{fates, foretells}
use Rattle.derive_command.specs.trace_profile.Names.{AreNames}
use Rattle.derive_command.specs.trace_profile.PlainNames.{HasPlainNames}
use Rattle.derive_command.specs.trace_profile.Replies.{Compares}
use Rattle.derive_command.specs.trace_profile.Scripts.{first_seccomp}
use Rattle.derive_command.specs.trace_profile.Searching.{IsHeard, LaunchedBy, tried_of}
use Rattle.derive_command.specs.trace_profile.allow_laws.Either.{AnswerSame}
use Rattle.derive_command.specs.trace_profile.allow_laws.Launches.{LaunchAsEither, LaunchesBy}
use Rattle.derive_command.proofs.AsEither.{same_long}
use Rattle.derive_command.proofs.Foretold.{are_foretold}
use Rattle.derive_command.proofs.Launches.{either_launches}
use Rattle.derive_command.proofs.NonePushed.{AreBare, bare_alone}
use Rattle.derive_command.proofs.OneList.{alike_by, base, has_programs, installed_by, mentions, same_launch}
use Rattle.derive_command.proofs.PushesNone.{pushes_none}

-- a list of programs answers as itself
as_itself : (input : CallData) (codes : List (List Insn)) → AnswerSame input codes codes
as_itself input [] = tt
as_itself input (code ∷ codes) = (refl, as_itself input codes)

module _ (unit : Resolved) (table : calls.Table) (site : Site) (sound : IsSite site) (whole : IsWhole table) (arch : HasWordArchs table) (plain : HasPlainNames table)
    (names others : List ℕ) (are : AreNames table names) (are_too : AreNames table others) (alike : KeepAlike unit table names others)
    (service other : Service) (launched : IsLaunchedUnit (extended unit table names) table site service)
    (launched_too : IsLaunchedUnit (extended unit table others) table site other) where
  -- the launches differ in the programs alone
  together : LaunchAsEither table site (wanted_of launched.settings []) launched.plan (given_bytes service.filters) (codes_of service.filters) (codes_of service.filters) (codes_of other.filters) service.world other.world
  together =
      let l = launched.launched in
      let m = launched_too.launched in
      let own_settings = launched.settings in
      let other_settings = launched_too.settings in
      let own_match = they_match own_settings.filters.items service.filters l.launches.filters in
      let other_match = they_match other_settings.filters.items other.filters m.launches.filters in
      let own_read = they_are_read own_settings.filters.items service.filters l.launches.filters in
      let other_read = they_are_read other_settings.filters.items other.filters m.launches.filters in
      let own_has = has_programs unit table site sound whole arch plain names are own_settings launched.are_settings (codes_of service.filters) own_match in
      let other_has = has_programs unit table site sound whole arch plain others are_too other_settings launched_too.are_settings (codes_of other.filters) other_match in
      let can = settings_can_be_launched (extended unit table names) table site own_settings sound launched.are_settings in
      let own_installed = installed_by unit table site sound whole arch plain names are own_settings launched.are_settings (given_bytes service.filters) (codes_of service.filters) own_read own_match in
      let own_launch : LaunchesBy table site (wanted_of own_settings []) launched.plan (given_bytes service.filters) (codes_of service.filters) service.world = record {
        installed = own_installed;
        steps = service.steps;
        launched = l.launches.ends;
      } in
      let other_launch : LaunchesBy table site (wanted_of own_settings []) launched.plan (given_bytes other.filters) (codes_of other.filters) other.world = record {
        installed = installed_by unit table site sound whole arch plain others are_too other_settings launched_too.are_settings
            (given_bytes other.filters) (codes_of other.filters) other_read other_match;
        steps = other.steps;
        launched = same_launch unit table site sound whole arch plain names others are are_too alike own_settings other_settings launched.plan
            launched_too.plan launched.are_settings launched_too.are_settings launched.is_plan.is_planned launched_too.is_plan.is_planned (given_bytes other.filters)
            ∙ m.launches.ends;
      } in
      either_launches table site (wanted_of own_settings []) launched.plan (given_bytes service.filters) (given_bytes service.filters)
      (given_bytes other.filters) (codes_of service.filters) (codes_of service.filters) (codes_of other.filters) service.world other.world
      whole arch launched.is_plan.can_be_mounted can.uid own_installed refl
      (same_long table (base unit table site sound whole arch plain) (mentions unit table site sound whole arch plain names are)
      (mentions unit table site sound whole arch plain others are_too) (codes_of service.filters) (codes_of other.filters) own_has other_has)
      (λ input fit. inl (as_itself input (codes_of service.filters))) own_launch other_launch

  pub as_heard : (script : List Call) → first_seccomp table script ≡ None → (tells : Bool)
      → foretells table (codes_of other.filters) script (fates service.world script) (replies service.world script) ≡ Some tells
      → Compares (replies other.world script) (replies service.world script) tells
  as_heard script none tells h =
      let start : World = together.base in
      let leaves = launched.launched.leaves_one_process in
      let alone = leaves.leaves.alone in
      let bare : AreBare start = bare_alone (codes_of service.filters) _ start (ap (λ (world : World). world.processes) (sym together.as_one) ∙ alone) leaves.programs in
      let told : start.calls ≡ table = ap (λ (world : World). world.calls) (sym together.as_one) ∙ ap (λ seen. seen.calls) leaves.leaves.is in
      let own = are_foretold (codes_of service.filters) (codes_of other.filters) table start script told bare (pushes_none table script none) tells
      (ap (λ (world : World). foretells table (codes_of other.filters) script (fates world script) (replies world script)) (sym together.as_one) ∙ h) in
      subst (λ (world : World). Compares (replies other.world script) (replies world script) tells) (sym together.as_one)
      (subst (λ (world : World). Compares (replies world script) (replies (above (codes_of service.filters) start) script) tells) (sym together.as_other) own)

-- process 1 of a launched service has its programs
module _ (unit : Resolved) (table : calls.Table) (site : Site) (service : Service) (launched : IsLaunchedUnit unit table site service) where
  pub stack_of_first : (process : Process) → Some process ≡ process_of service.world 1 → process.stack ≡ codes_of service.filters
  stack_of_first process is =
      let leaves = launched.launched.leaves_one_process in
      let found = is ∙ ap (λ (ps : List Process). of_number ps 1) leaves.leaves.alone in
      ap (λ (p : Process). p.stack) (one_is _ _ found) ∙ leaves.programs
    where
      one_is : (a b : Process) → Some a ≡ Some b → a ≡ b
      one_is a b e = cc

module _ (trial : Trial) (heard : IsHeard trial) (service : Service) (launched : LaunchedBy (tried_of trial) service) (sound : IsSite trial.site.now) (whole : IsWhole trial.calls.now) (native : trial.calls.now.arch < 2 ^ 32) (second : calls.arch_of trial.calls.now 1 < 2 ^ 32) (is : IsTrue trial.is_foretold) where
  pub told_by : (process : Process) → Some process ≡ process_of service.world 1 → (o : Option Bool)
      → o ≡ foretells trial.calls.now process.stack trial.script.now trial.fates.now trial.said.now
      → IfSome o (Compares (replies service.world trial.script.now) trial.said.now)
  told_by process first None e = tt
  told_by process first (Some tells) e =
      let serves = heard.heard.serves in
      let alike = heard.alike is in
      let keep : KeepAlike trial.unit.now trial.calls.now heard.names launched.names =
      alike_by trial.unit.now trial.calls.now trial.site.now sound whole (word_archs trial.calls.now native second) alike.plain heard.names launched.names (λ known uid. let clash : false ≡ true = sym alike.keeps_none ∙ known in cc) in
      let stack = stack_of_first (extended trial.unit.now trial.calls.now launched.names) trial.calls.now trial.site.now service launched.launched process first in
      subst (λ (said : List Reply). Compares (replies service.world trial.script.now) said tells) serves.replies
      (as_heard trial.unit.now trial.calls.now trial.site.now sound whole (word_archs trial.calls.now native second) alike.plain
      heard.names launched.names heard.are_names launched.are_names keep serves.service service serves.launched launched.launched
      trial.script.now heard.pushes_none tells
      (ap (λ (own : List (List Insn)). foretells trial.calls.now own trial.script.now (fates serves.service.world trial.script.now)
      (replies serves.service.world trial.script.now)) (sym stack)
      ∙ ap (λ (done : List Fate). foretells trial.calls.now process.stack trial.script.now done
      (replies serves.service.world trial.script.now)) (sym heard.heard.of_its_service)
      ∙ ap (foretells trial.calls.now process.stack trial.script.now trial.fates.now) serves.replies
      ∙ sym e))
