-- A launch makes one mount namespace at most.
use Rattle.std.proofs.Common.{◌≡◌, ℕ, Bool, true, false, cond, codes, List, [], ◌∷◌, ◌++◌, Option, Some, None, Result, Ok, Err, refl, ap}
use Rattle.std.proofs.Common.{◌∙◌, sym, length, ◌≤◌, arith, eqb}
use Rattle.std.specs.Prelude.{◌+◌, ◌-◌, ◌&&◌, ◌||◌, nat_le, nat_lt, map, filter, not}
use Rattle.std.specs.List.{AllByRecursion}
use Rattle.launcher.specs.bpf_code.declared.machine.Insn.{Insn}
use Rattle.launcher.specs.bpf_code.ProgramOf.{program_of}
use Rattle.launcher.specs.bpf_code.Stack.{room_of}
use Rattle.launcher.specs.call_table.declared.call_names.rule.CallRule.TheVariants as known
use Rattle.launcher.specs.call_table.declared.listed.CallLine.{CallLine}
use Rattle.launcher.specs.call_table.Lookups.{numbered}
use Rattle.launcher.specs.call_table.Table as calls
use Rattle.launcher.specs.cap_sets.Sets.{has, union, cut, minus}
use Rattle.launcher.specs.kern_creds.declared.creds.Creds.{Creds}
use Rattle.launcher.specs.kern_creds.Capset.{after_capset}
use Rattle.launcher.specs.kern_creds.Prctl.{after_drop_bounding, after_raise, after_lower, after_clear_ambient, after_set_keepcaps}
use Rattle.launcher.specs.kern_creds.Prctl.{after_set_no_new_privs, after_set_mdwe}
use Rattle.launcher.specs.kern_creds.Ring.{after_set_up_ring}
use Rattle.launcher.specs.kern_creds.Setgroups.{after_setgroups}
use Rattle.launcher.specs.kern_creds.Setresuid.{after_setresuid, after_setresgid}
use Rattle.launcher.specs.kern_creds.Setuid.{after_setuid, after_setgid}
use Rattle.launcher.specs.kernel_model.kern_files.Executing.{exec_answer_in}
use Rattle.launcher.specs.kernel_model.kern_files.Looking.{flags_at, see_answer, write_answer, open_answer}
use Rattle.launcher.specs.kernel_model.kern_files.MountCall.{after_mount}
use Rattle.launcher.specs.kernel_model.kern_files.UmountCall.{umount_answer}
use Rattle.launcher.specs.kern_mounts.Mounts.{Mounts as Mounts', steps_of}
use Rattle.launcher.specs.kern_mounts.Finds.{finds}
use Rattle.launcher.specs.kern_mounts.Split.{Table}
use Rattle.launcher.specs.kernel_model.kernel_calls.Operation as d
use Rattle.launcher.specs.kernel_model.kernel_calls.Operation.{Operation, Does, operation_by, asked_by, asked_if, asked_of}
use Rattle.launcher.specs.kernel_model.kernel_calls.Rules.{rule_at}
use Rattle.launcher.specs.kernel_model.declared.kernel_calls.call.Call.{Call}
use Rattle.launcher.specs.kernel_model.declared.kernel_calls.payload.Payload.{Payload}
use Rattle.launcher.specs.kernel_model.declared.kernel_calls.payload.Payload.TheVariants.{Nothing, OnePath, Sets, Ids, Code}
use Rattle.launcher.specs.kernel_model.declared.kernel_calls.rule.Rule.{Rule}
use Rattle.launcher.specs.kernel_model.declared.kernel_calls.rule.Rule.TheVariants.{Known}
use Rattle.launcher.specs.kernel_model.Effects as f
use Rattle.launcher.specs.kernel_model.Effects.{Effect, Host, Caller, looks, creds_effect, table_effect, with_cap_of, with_admin}
use Rattle.launcher.specs.kernel_model.Effects.{first_alone, schedule_answer, socket_effect, is_set_effect, ambient_effect}
use Rattle.launcher.specs.kernel_model.Effects.{no_new_privs_effect, keepcaps_effect, prctl_effect, push_effect, seccomp_effect, effect_of}
use Rattle.launcher.specs.kernel_model.kern_files.Bits.{has_all}
use Rattle.launcher.specs.kernel_model.Effects.{socketcall_effect, protect_effect, attach_effect, set_mdwe_effect, prctl_effect_of}
use Rattle.launcher.specs.kernel_model.Effects.{attributes_effect, sockets_effect, socketpair_effect, no_pair, request_effect}
use Rattle.launcher.specs.kernel_model.declared.kernel_calls.request.Request.{Request}
use Rattle.launcher.specs.kernel_model.declared.kernel_calls.request.Request.TheVariants as ask
use Rattle.launcher.specs.kernel_model.MountStep.{with_step, stepped_by}
use Rattle.launcher.specs.kernel_model.Step.{step}
use Rattle.launcher.specs.kernel_model.StepCases as case
use Rattle.launcher.specs.kernel_model.StepCases.{EffectCase, StepCase}
use Rattle.launcher.specs.kernel_model.MountNamespaces.{copy_for, with_other_table}
use Rattle.launcher.specs.kernel_model.World.{World, living_of, namespace_of, mounts_of, host_of, caller_of, start_world}
use Rattle.launcher.specs.kernel_model.declared.process.Process.{Process}
use Rattle.launcher.specs.kernel_model.declared.reply.Reply.{Reply}
use Rattle.launcher.proofs.OfKernelModel.Cases.{steps_by_cases}
use Rattle.launcher.proofs.OfKernelModel.Kernels.{told_stays}
use Rattle.launcher.proofs.OfKernelModel.Lists.{each-append, length-set, length-push}
use Rattle.launcher.specs.kernel_laws.Questions.{if_so, count_from}
use Rattle.launcher.specs.Launch.{Wanted, LaunchStep, Makes, Mounts, number_of, first_call, makes, capset_step, prctl_step, launch_step}
use Rattle.launcher.specs.Launch.{launch_steps, mount_steps, with_unshare, group_steps, drop_steps, inherit_steps, user_steps, raise_steps}
use Rattle.launcher.specs.Launch.{left_steps, privilege_steps, memory_steps, identity_steps, filter_steps, program_steps, give_up_steps}
use Rattle.launcher.specs.Launch.{given_up_steps, last_steps, call_steps, held, with_held, set_keepcaps}
use Rattle.launcher.specs.Launch.{capbset_drop, set_no_new_privs, cap_ambient, ambient_raise, set_mdwe, refuse_exec_gain, set_mode_filter}
use Rattle.launcher.specs.Launches.{HasLaunchCalls}
use Rattle.launcher.proofs.Leading.{Leads, leads_parts}
use Rattle.launcher.specs.linux_numbers.Capabilities.{cap_sys_admin, cap_last_cap}
use Rattle.launcher.specs.linux_numbers.Errnos.{eperm, ebadf, eacces, einval, enomem}
use Rattle.launcher.specs.linux_numbers.Limits.{max_insns_per_path, no_id}
use Rattle.launcher.specs.site_table.Table.{Site}

-- clone(2) and unshare(2), which alone make namespaces
abbrev pub parts : Operation → Bool
parts (d.Clone flags) = true
parts (d.Unshare flags) = true
parts _ = false

-- an effect that makes no namespace
abbrev Stays : Effect → Type 0
Stays (f.Child own) = own ≡ false
Stays f.OwnTable = ⊥
Stays (f.UserChild own) = own ≡ false
Stays (f.OwnUser own) = own ≡ false
Stays _ = Unit {0}

stays_looks : (r : Result ℕ ℕ) → Stays (looks r)
stays_looks (Ok value) = tt
stays_looks (Err errno) = tt

stays_creds : (r : Result Creds ℕ) → Stays (creds_effect r)
stays_creds (Ok creds) = tt
stays_creds (Err errno) = tt

stays_table : (r : Result Mounts' ℕ) → Stays (table_effect r)
stays_table (Ok table) = tt
stays_table (Err errno) = tt

either : (b : Bool) (one other : Effect) → Stays one → Stays other → Stays (cond b one other)
either true one other h g = h
either false one other h g = g

stays_cap : (o : Option ℕ) (creds : Creds) (value : ℕ) → Stays (with_cap_of o creds (f.Answer value))
stays_cap None creds value = tt
stays_cap (Some number) creds value = either (has creds.effective number) (f.Answer value) (f.Refuse eperm) tt tt

stays_alone : (newer : Bool) (o : Option ℕ) (creds : Creds) (value : ℕ) → Stays (first_alone newer o (with_cap_of o creds (f.Answer value)))
stays_alone false o creds value = stays_cap o creds value
stays_alone true None creds value = tt
stays_alone true (Some number) creds value = tt

stays_attributes : (newer : Bool) (creds : Creds) (policy : ℕ) → Stays (attributes_effect newer creds policy)
stays_attributes true creds policy = tt
stays_attributes false creds policy =
    either (has creds.effective 23) (looks (schedule_answer policy)) (f.Refuse eperm) (stays_looks (schedule_answer policy)) tt

stays_sockets : (value : ℕ) (newer : Bool) (creds : Creds) (o : Option CallLine) → Stays (sockets_effect value newer creds o)
stays_sockets value newer creds None = tt
stays_sockets value newer creds (Some line) = stays_alone newer line.cap creds value

stays_socket : (newer : Bool) (creds : Creds) (o : Option CallLine) → Stays (socket_effect newer creds o)
stays_socket newer creds o = stays_sockets 3 newer creds o

stays_unpaired : (o : Option CallLine) → Stays (no_pair o)
stays_unpaired None = tt
stays_unpaired (Some line) = tt

stays_socketpair : (newer : Bool) (creds : Creds) (family : ℕ) (o : Option CallLine) → Stays (socketpair_effect newer creds family o)
stays_socketpair newer creds family o =
    either (eqb family 1) (sockets_effect 0 newer creds o) (no_pair o) (stays_sockets 0 newer creds o) (stays_unpaired o)

stays_ids : (real effective saved : ℕ)
    → Stays (cond ((eqb real no_id && eqb effective no_id) && eqb saved no_id) (f.Answer 0) (f.Refuse einval))
stays_ids real effective saved = either ((eqb real no_id && eqb effective no_id) && eqb saved no_id) (f.Answer 0) (f.Refuse einval) tt tt

stays_socketcall : (newer : Bool) (creds : Creds) (op : ℕ) (o : Option CallLine) → Stays (socketcall_effect newer creds op o)
stays_socketcall newer creds op o =
    let other : Effect = cond (nat_le 2 op && nat_le op 20) (f.Answer 0) (f.Refuse einval) in
    either (eqb op 1) (socket_effect newer creds o) other (stays_socket newer creds o)
    (either (nat_le 2 op && nat_le op 20) (f.Answer 0) (f.Refuse einval) tt tt)

stays_push : (stack : List (List Insn)) (o : Option (List Insn)) → Stays (push_effect stack o)
stays_push stack None = tt
stays_push stack (Some program) = either (nat_le (room_of stack + length program) max_insns_per_path) (f.Push program)
    (f.Refuse enomem) tt tt

stays_admin : (creds : Creds) (r : Result Mounts' ℕ) → Stays (with_admin creds (table_effect r))
stays_admin creds r = either (has creds.effective cap_sys_admin) (table_effect r) (f.Refuse eperm) (stays_table r) tt

stays_ambient : (creds : Creds) (op cap' : ℕ) → Stays (ambient_effect creds op cap')
stays_ambient creds op cap' =
    let set : Effect = is_set_effect creds cap' in
    let raise : Effect = creds_effect (after_raise creds cap') in
    let lower : Effect = creds_effect (after_lower creds cap') in
    let clear : Effect = f.SetCreds 0 (after_clear_ambient creds) in
    let four : Effect = cond (eqb op 4) clear (f.Refuse einval) in
    let three : Effect = cond (eqb op 3) lower four in
    let two : Effect = cond (eqb op 2) raise three in
    either (eqb op 1) set two
    (either (nat_lt cap_last_cap cap') (f.Refuse einval) (f.Answer (cond (has creds.ambient cap') 1 0)) tt tt)
    (either (eqb op 2) raise three (stays_creds (after_raise creds cap'))
    (either (eqb op 3) lower four (stays_creds (after_lower creds cap'))
    (either (eqb op 4) clear (f.Refuse einval) tt tt)))

stays_prctl : (creds : Creds) (option value third : ℕ) → Stays (prctl_effect creds option value third)
stays_prctl creds option value third =
    let mark : Effect = no_new_privs_effect creds value in
    let marked : Effect = f.Answer (cond creds.no_new_privs 1 0) in
    let keep : Effect = keepcaps_effect creds value in
    let drop : Effect = creds_effect (after_drop_bounding creds value) in
    let five : Effect = cond (eqb option 47) (ambient_effect creds value third) (f.Refuse einval) in
    let four : Effect = cond (eqb option 24) drop five in
    let three : Effect = cond (eqb option 8) keep four in
    let two : Effect = cond (eqb option 39) marked three in
    either (eqb option 38) mark two (either (eqb value 1) (f.SetCreds 0 (after_set_no_new_privs creds)) (f.Refuse einval) tt tt)
    (either (eqb option 39) marked three tt
    (either (eqb option 8) keep four (either (nat_lt value 2) (f.SetCreds 0 (after_set_keepcaps creds (eqb value 1))) (f.Refuse einval) tt tt)
    (either (eqb option 24) drop five (stays_creds (after_drop_bounding creds value))
    (either (eqb option 47) (ambient_effect creds value third) (f.Refuse einval) (stays_ambient creds value third) tt))))

stays_prctl_of : (mdwe : Bool) (creds : Creds) (option value third fourth fifth : ℕ)
    → Stays (prctl_effect_of mdwe creds option value third fourth fifth)
stays_prctl_of mdwe creds option value third fourth fifth =
    let alone = (eqb third 0 && eqb fourth 0) && eqb fifth 0 in
    let rest : Effect = prctl_effect creds option value third in
    let get : Effect = f.Answer (cond creds.mdwe 1 0) in
    either (eqb option 65 && mdwe) (set_mdwe_effect creds value alone) (cond (eqb option 66 && mdwe) get rest) (stays_set alone)
    (either (eqb option 66 && mdwe) get rest tt (stays_prctl creds option value third))
  where
    stays_set : (alone : Bool) → Stays (set_mdwe_effect creds value alone)
    stays_set false = tt
    stays_set true =
        let clear : Effect = cond creds.mdwe (f.Refuse eperm) (f.Answer 0) in
        let two : Effect = cond (eqb value 0) clear (f.Refuse einval) in
        either (eqb value 1) (f.SetCreds 0 (after_set_mdwe creds)) two tt
        (either (eqb value 0) clear (f.Refuse einval) (either creds.mdwe (f.Refuse eperm) (f.Answer 0) tt tt) tt)

stays_protect : (creds : Creds) (protection : ℕ) → Stays (protect_effect creds protection)
stays_protect creds protection = either (has_all 6 protection && creds.mdwe) (f.Refuse eacces) (f.Answer 0) tt tt

stays_attach : (creds : Creds) (flags : ℕ) → Stays (attach_effect creds flags)
stays_attach creds flags = either ((has_all 0x8000 flags && not (has_all 0x1000 flags)) && creds.mdwe) (f.Refuse eacces) (f.Answer 0) tt tt

stays_seccomp : (creds : Creds) (stack : List (List Insn)) (op flags : ℕ) (code : List ℕ)
    → Stays (seccomp_effect creds stack op flags code)
stays_seccomp creds stack op flags code =
    let pushed : Effect = push_effect stack (program_of code) in
    let allowed : Effect = cond (not (creds.no_new_privs || has creds.effective cap_sys_admin)) (f.Refuse eacces) pushed in
    either (not (eqb op 1 && eqb flags 0)) (f.Refuse einval) allowed tt
    (either (not (creds.no_new_privs || has creds.effective cap_sys_admin)) (f.Refuse eacces) pushed tt
    (stays_push stack (program_of code)))

stays_request : (host : Host) (caller : Caller) (request : Request) → Stays (request_effect host caller request)
stays_request host caller (ask.Stat path) = stays_looks (see_answer 0 (finds host.rows (steps_of caller.table) path))
stays_request host caller (ask.Open path flags) = stays_looks
    (open_answer flags (flags_at (steps_of caller.table) path) (finds host.rows (steps_of caller.table) path))
stays_request host caller (ask.Socket family) = stays_socket caller.newer caller.creds (numbered family host.families)
stays_request host caller (ask.Mode mode) = tt

effect_stays : (host : Host) (caller : Caller) (operation : Operation) → parts operation ≡ false → Stays (effect_of host caller operation)
effect_stays host caller (d.See path) e = stays_looks (see_answer 0 (finds host.rows (steps_of caller.table) path))
effect_stays host caller (d.Open flags mode path) e = stays_looks
    (open_answer flags (flags_at (steps_of caller.table) path) (finds host.rows (steps_of caller.table) path))
effect_stays host caller (d.Create mode path) e =
    stays_looks (write_answer 3 (flags_at (steps_of caller.table) path) (finds host.rows (steps_of caller.table) path))
effect_stays host caller (d.Truncate path) e =
    stays_looks (write_answer 0 (flags_at (steps_of caller.table) path) (finds host.rows (steps_of caller.table) path))
effect_stays host caller (d.Execve path) e =
    stays_creds (exec_answer_in caller.newer caller.creds (flags_at (steps_of caller.table) path)
    (finds host.rows (steps_of caller.table) path))
effect_stays host caller (d.SetMode mode) e = tt
effect_stays host caller (d.Map protection) e = stays_protect caller.creds protection
effect_stays host caller (d.Protect protection) e = stays_protect caller.creds protection
effect_stays host caller (d.Attach flags) e = stays_attach caller.creds flags
effect_stays host caller (d.Schedule policy) e = stays_looks (schedule_answer policy)
effect_stays host caller (d.Personality persona) e = tt
effect_stays host caller (d.SetAttributes policy) e = stays_attributes caller.newer caller.creds policy
effect_stays host caller (d.Socket family) e = stays_socket caller.newer caller.creds (numbered family host.families)
effect_stays host caller (d.Socketcall op family) e =
    stays_socketcall caller.newer caller.creds op (numbered family host.families)
effect_stays host caller (d.Socketpair family) e =
    stays_socketpair caller.newer caller.creds family (numbered family host.families)
effect_stays host caller d.Enter e = tt
effect_stays host caller d.Fork e = refl
effect_stays host caller (d.Clone flags) e = cc
effect_stays host caller (d.Unshare flags) e = cc
effect_stays host caller d.Exit e = tt
effect_stays host caller (d.Mount source target flags) e = either caller.owns
    (with_admin caller.creds (table_effect (after_mount host.rows caller.table source target flags))) (f.Refuse eperm)
    (stays_admin caller.creds (after_mount host.rows caller.table source target flags)) tt
effect_stays host caller (d.Umount path flags) e = either caller.owns
    (with_admin caller.creds (table_effect (umount_answer caller.table path flags))) (f.Refuse eperm)
    (stays_admin caller.creds (umount_answer caller.table path flags)) tt
effect_stays host caller (d.Setuid id) e = either caller.newer (f.Refuse einval) (creds_effect (after_setuid caller.creds id)) tt
    (stays_creds (after_setuid caller.creds id))
effect_stays host caller (d.Setgid id) e = either caller.newer (f.Refuse einval) (creds_effect (after_setgid caller.creds id)) tt
    (stays_creds (after_setgid caller.creds id))
effect_stays host caller (d.Setresuid real effective saved) e =
    either caller.newer (cond ((eqb real no_id && eqb effective no_id) && eqb saved no_id) (f.Answer 0) (f.Refuse einval))
    (creds_effect (after_setresuid caller.creds real effective saved)) (stays_ids real effective saved)
    (stays_creds (after_setresuid caller.creds real effective saved))
effect_stays host caller (d.Setresgid real effective saved) e =
    either caller.newer (cond ((eqb real no_id && eqb effective no_id) && eqb saved no_id) (f.Answer 0) (f.Refuse einval))
    (creds_effect (after_setresgid caller.creds real effective saved)) (stays_ids real effective saved)
    (stays_creds (after_setresgid caller.creds real effective saved))
effect_stays host caller (d.Setgroups ids) e = either caller.newer (f.Refuse eperm) (creds_effect (after_setgroups caller.creds ids)) tt
    (stays_creds (after_setgroups caller.creds ids))
effect_stays host caller (d.Capset permitted effective inheritable) e =
    stays_creds (after_capset caller.creds permitted effective inheritable)
effect_stays host caller (d.Prctl option value third fourth fifth) e =
    stays_prctl_of host.mdwe caller.creds option value third fourth fifth
effect_stays host caller (d.Seccomp op flags code) e = stays_seccomp caller.creds caller.stack op flags code
effect_stays host caller d.SetUpRing e = either host.rings (f.SetCreds 3 (after_set_up_ring caller.creds)) (f.Refuse eperm) tt tt
effect_stays host caller (d.Submit request) e =
    either caller.creds.ring (request_effect host caller request) (f.Refuse ebadf) (stays_request host caller request) tt
effect_stays host caller (d.Plain cap') e = stays_alone caller.newer cap' caller.creds 0

-- ---- a step
module _ (world : World) where
  effect_count : {pid : ℕ} {process : Process} {effect : Effect} {out : Reply × World} → EffectCase world pid process effect out
      → Stays effect → length out.1.namespaces ≡ length world.namespaces
  effect_count (case.refuses errno) h = refl
  effect_count (case.answers value) h = refl
  effect_count (case.takes_creds value creds) h = refl
  effect_count {process = process} (case.takes_table table) h = length-set world.namespaces (process.namespace - 1) (with_other_table (namespace_of world process.namespace) table)
  effect_count (case.takes_program program) h = refl
  effect_count (case.no_process_left own full) h = refl
  effect_count (case.shares few) h = refl
  effect_count (case.no_namespace_for_child few full) h = refl
  effect_count (case.gives_copy few room) h = cc
  effect_count (case.no_namespace_left full) h = refl
  effect_count (case.moves room) h = absurd h
  effect_count (case.no_user_for_child own full) h = refl
  effect_count (case.no_process_for_user own left full) h = refl
  effect_count (case.gives_user left room) h = refl
  effect_count (case.no_namespace_for_user left room full) h = refl
  effect_count (case.gives_user_and_copy left room space) h = cc
  effect_count (case.no_user_left own full) h = refl
  effect_count (case.enters left) h = refl
  effect_count (case.no_namespace_behind_user left full) h = refl
  effect_count (case.enters_and_moves left space) h = cc
  effect_count case.ends h = refl

  effect_more : {pid : ℕ} {process : Process} {effect : Effect} {out : Reply × World} → EffectCase world pid process effect out
      → length out.1.namespaces ≤ length world.namespaces + 1
  effect_more (case.refuses errno) = omega arith
  effect_more (case.answers value) = omega arith
  effect_more (case.takes_creds value creds) = omega arith
  effect_more {process = process} (case.takes_table table) = let e = length-set world.namespaces (process.namespace - 1) (with_other_table (namespace_of world process.namespace) table) in omega (arith, e)
  effect_more (case.takes_program program) = omega arith
  effect_more (case.no_process_left own full) = omega arith
  effect_more (case.shares few) = omega arith
  effect_more (case.no_namespace_for_child few full) = omega arith
  effect_more {process = process} (case.gives_copy few room) = let e = length-push world.namespaces (copy_for (namespace_of world process.namespace) process.user) in omega (arith, e)
  effect_more (case.no_namespace_left full) = omega arith
  effect_more {process = process} (case.moves room) = let e = length-push world.namespaces (copy_for (namespace_of world process.namespace) process.user) in omega (arith, e)
  effect_more (case.no_user_for_child own full) = omega arith
  effect_more (case.no_process_for_user own left full) = omega arith
  effect_more (case.gives_user left room) = omega arith
  effect_more (case.no_namespace_for_user left room full) = omega arith
  effect_more {process = process} (case.gives_user_and_copy left room space) = let e = length-push world.namespaces (copy_for (namespace_of world process.namespace) (world.users + 2)) in omega (arith, e)
  effect_more (case.no_user_left own full) = omega arith
  effect_more (case.enters left) = omega arith
  effect_more (case.no_namespace_behind_user left full) = omega arith
  effect_more {process = process} (case.enters_and_moves left space) = let e = length-push world.namespaces (copy_for (namespace_of world process.namespace) (world.users + 2)) in omega (arith, e)
  effect_more case.ends = omega arith

  case_count : {call : Call} {out : Reply × World} → StepCase world call out
      → ((operation : Operation) → asked_of world.calls call ≡ Does operation → parts operation ≡ false) → length out.1.namespaces ≡ length world.namespaces
  case_count (case.absent e) h = refl
  case_count (case.filtered process errno e g) h = refl
  case_count (case.killed process e g) h = refl
  case_count (case.lacking process passes e) h = refl
  case_count (case.misformed process passes e) h = refl
  case_count (case.does process operation out passes e c) h = effect_count c
      (effect_stays (host_of world) (caller_of world process) operation (h operation e))

  case_more : {call : Call} {out : Reply × World} → StepCase world call out → length out.1.namespaces ≤ length world.namespaces + 1
  case_more (case.absent e) = omega arith
  case_more (case.filtered process errno e g) = omega arith
  case_more (case.killed process e g) = omega arith
  case_more (case.lacking process passes e) = omega arith
  case_more (case.misformed process passes e) = omega arith
  case_more (case.does process operation out passes e c) = effect_more c

-- ---- steps of a launch
module _ (table : calls.Table) where
  -- a step that makes no namespace
  abbrev IsQuiet : LaunchStep → Type 0
  IsQuiet (Makes call) = (operation : Operation) → asked_of table call ≡ Does operation → parts operation ≡ false
  IsQuiet (Mounts entry) = Unit {0}

  abbrev AreQuiet : List LaunchStep → Type 0
  AreQuiet steps = AllByRecursion IsQuiet steps

  told_after : (world : World) (own : LaunchStep) → (launch_step world own).1.calls ≡ world.calls
  told_after world (Makes call) = (told_stays world (call ∷ [])).0
  told_after world (Mounts entry) = by (living_of world 1)
    where
      by : (o : Option Process) → (stepped_by world entry o).calls ≡ world.calls
      by None = refl
      by (Some process) = refl

  quiet_step : (world : World) (own : LaunchStep) → world.calls ≡ table → IsQuiet own
      → length (launch_step world own).1.namespaces ≡ length world.namespaces
  quiet_step world (Makes call) is quiet = case_count world (steps_by_cases world call)
      (λ operation e. quiet operation (ap (λ (t : calls.Table). asked_of t call) (sym is) ∙ e))
  quiet_step world (Mounts entry) is quiet = by (living_of world 1)
    where
      by : (o : Option Process) → length (stepped_by world entry o).namespaces ≡ length world.namespaces
      by None = refl
      by (Some process) = length-set world.namespaces (process.namespace - 1) (with_other_table (namespace_of world process.namespace) (with_step (mounts_of world process.namespace) entry))

  quiet_steps : (world last : World) (steps : List LaunchStep) → world.calls ≡ table → AreQuiet steps → Leads world steps last
      → length last.namespaces ≡ length world.namespaces
  quiet_steps world last [] is quiet l = ap (λ (w : World). length w.namespaces) (sym l)
  quiet_steps world last (own ∷ steps) is quiet l = quiet_steps (launch_step world own).1 last steps
      (told_after world own ∙ is) quiet.1 l.1 ∙ quiet_step world own is quiet.0

  told_steps : (world last : World) (steps : List LaunchStep) → Leads world steps last → last.calls ≡ world.calls
  told_steps world last [] l = ap (λ (w : World). w.calls) (sym l)
  told_steps world last (own ∷ steps) l = told_steps (launch_step world own).1 last steps l.1 ∙ told_after world own

  -- calls by their names
  quiet_call : (name args : List ℕ) (payload : Payload) (rule : Rule) (operation : Operation)
      → rule_at table.calls (number_of table.calls name) ≡ Some rule → operation_by rule args payload ≡ Some operation → parts operation ≡ false
      → IsQuiet (Makes (first_call table.calls name args payload))
  quiet_call name args payload rule operation at is off other e =
      let own : asked_of table (first_call table.calls name args payload) ≡ Does operation = ap (λ (r : Option Rule). asked_by r (first_call table.calls name args payload)) at ∙ ap asked_if is in
      let same : operation ≡ other = does_same operation other (sym own ∙ e) in
      ap parts (sym same) ∙ off
    where
      does_same : (one other : Operation) → Does one ≡ Does other → one ≡ other
      does_same one other e = cc

  each_made : {X : Type 0} (own : X → LaunchStep) → ((x : X) → IsQuiet (own x)) → (xs : List X) → AreQuiet (map own xs)
  each_made own h [] = tt
  each_made own h (x ∷ xs) = (h x, each_made own h xs)

  if_quiet : (b : Bool) (own : LaunchStep) → IsQuiet own → AreQuiet (if_so b own)
  if_quiet true own h = (h, tt)
  if_quiet false own h = tt

  unless_quiet : (b : Bool) (steps : List LaunchStep) → AreQuiet steps → AreQuiet (cond b [] steps)
  unless_quiet true steps h = tt
  unless_quiet false steps h = h

  mounts_quiet : (plan : Table) → AreQuiet (mount_steps plan)
  mounts_quiet [] = tt
  mounts_quiet (first ∷ rest) = each-append IsQuiet (if_so _ (Mounts first)) (map Mounts rest) (if_quiet _ (Mounts first) tt)
      (each_made Mounts (λ entry. tt) rest)

  module _ (calls' : HasLaunchCalls table.calls) (wanted : Wanted) where
    prctl_quiet : (option value third : ℕ) → IsQuiet (prctl_step table.calls option value third)
    prctl_quiet option value third = quiet_call (codes "prctl") _ Nothing (Known known.Prctl) _ calls'.prctl refl refl

    capset_quiet : (p e i : ℕ) → IsQuiet (capset_step table.calls p e i)
    capset_quiet p e i = quiet_call (codes "capset") _ (Sets p e i) (Known known.Capset) (d.Capset p e i) calls'.capset refl refl

    join : (one other : List LaunchStep) → AreQuiet one → AreQuiet other → AreQuiet (one ++ other)
    join one other h g = each-append IsQuiet one other h g

    given_quiet : (b : Bool) → AreQuiet (cond b (given_up_steps table.calls (minus held wanted.bounding)
        ++ capset_step table.calls wanted.ambient wanted.ambient (union wanted.ambient (cut held wanted.bounding)) ∷ []) [])
    given_quiet false = tt
    given_quiet true = join (given_up_steps table.calls (minus held wanted.bounding)) _
        (each_made (λ cap. prctl_step table.calls capbset_drop cap 0) (λ cap. prctl_quiet capbset_drop cap 0)
        (filter (has (minus held wanted.bounding)) (count_from 0 41))) (capset_quiet _ _ _, tt)

    calls_quiet : AreQuiet (call_steps table.calls wanted)
    calls_quiet =
        let lines = table.calls in
        let groups : AreQuiet (group_steps lines wanted) = (quiet_call (codes "setgroups") _ (Ids wanted.groups) (Known known.Setgroups) _ calls'.setgroups refl refl, (quiet_call (codes "setresgid") _ Nothing (Known known.Setresgid) _ calls'.setresgid refl refl, tt)) in
        let drops : AreQuiet (drop_steps lines wanted) = each_made (λ cap. prctl_step lines capbset_drop cap 0) (λ cap. prctl_quiet capbset_drop cap 0) (filter (λ cap. not (has (with_held wanted.keeps_capabilities wanted.bounding) cap)) (count_from 0 41)) in
        let inherits : AreQuiet (inherit_steps lines wanted) = (capset_quiet _ _ _, tt) in
        let users : AreQuiet (user_steps lines wanted) = unless_quiet (eqb wanted.uid 0) _ (prctl_quiet set_keepcaps 1 0, (quiet_call (codes "setresuid") _ Nothing (Known known.Setresuid) _ calls'.setresuid refl refl, tt)) in
        let raises : AreQuiet (raise_steps lines wanted) = each_made (λ cap. prctl_step lines cap_ambient ambient_raise cap) (λ cap. prctl_quiet cap_ambient ambient_raise cap) (filter (has wanted.ambient) (count_from 0 41)) in
        let left' : AreQuiet (left_steps lines wanted) = unless_quiet (eqb wanted.uid 0) _ (capset_quiet _ _ _, tt) in
        let marks : AreQuiet (privilege_steps lines wanted) = if_quiet wanted.no_new_privs _ (prctl_quiet set_no_new_privs 1 0) in
        let memory : AreQuiet (memory_steps lines wanted) = if_quiet wanted.mdwe _ (prctl_quiet set_mdwe refuse_exec_gain 0) in
        let filters : AreQuiet (filter_steps lines wanted.programs) = each_made (λ bytes. makes lines (codes "seccomp") set_mode_filter 0 0 (Code bytes)) (λ bytes. quiet_call (codes "seccomp") _ (Code bytes) (Known known.Seccomp) _ calls'.seccomp refl refl) wanted.programs in
        let program : AreQuiet (program_steps lines wanted.program) = (quiet_call (codes "execve") _ (OnePath wanted.program) (Known known.Execve) (d.Execve wanted.program) calls'.execve refl refl, tt) in
        let one = join (group_steps lines wanted) (drop_steps lines wanted) groups drops in
        let two = join (group_steps lines wanted ++ drop_steps lines wanted) (inherit_steps lines wanted) one inherits in
        let three = join (group_steps lines wanted ++ drop_steps lines wanted ++ inherit_steps lines wanted) (user_steps lines wanted) two users in
        let four = join (group_steps lines wanted ++ drop_steps lines wanted ++ inherit_steps lines wanted ++ user_steps lines wanted) (raise_steps lines wanted) three raises in
        let five = join (group_steps lines wanted ++ drop_steps lines wanted ++ inherit_steps lines wanted ++ user_steps lines wanted ++ raise_steps lines wanted) (left_steps lines wanted) four left' in
        let six = join (group_steps lines wanted ++ drop_steps lines wanted ++ inherit_steps lines wanted ++ user_steps lines wanted ++ raise_steps lines wanted ++ left_steps lines wanted) (privilege_steps lines wanted) five marks in
        let seven = join (group_steps lines wanted ++ drop_steps lines wanted ++ inherit_steps lines wanted ++ user_steps lines wanted ++ raise_steps lines wanted ++ left_steps lines wanted ++ privilege_steps lines wanted) (memory_steps lines wanted) six memory in
        let eight = join (identity_steps lines wanted) (filter_steps lines wanted.programs) seven filters in
        join (identity_steps lines wanted ++ filter_steps lines wanted.programs) (last_steps lines wanted) eight
        (join (give_up_steps lines wanted) (program_steps lines wanted.program) (given_quiet wanted.keeps_capabilities) program)

    -- the mounts in a namespace of their own
    unshared : (steps : List LaunchStep) (world mid : World) → world.calls ≡ table → AreQuiet steps
        → Leads world (with_unshare table.calls steps) mid → length mid.namespaces ≤ length world.namespaces + 1
    unshared [] world mid is quiet l = let e = ap (λ (w : World). length w.namespaces) l in omega (arith, e)
    unshared (own ∷ steps) world mid is quiet l =
        let call : Call = first_call table.calls (codes "unshare") (0x2_0000 ∷ 0 ∷ 0 ∷ 0 ∷ 0 ∷ 0 ∷ []) Nothing in
        let more = case_more world (steps_by_cases world call) in
        let rest = quiet_steps (step world call).1 mid (own ∷ steps) (told_after world (Makes call) ∙ is) quiet l.1 in
        omega (arith, more, rest)

    pub few_tables : (site : Site) (plan : Table) (last : World)
        → Leads (start_world table site) (launch_steps table.calls wanted plan) last → length last.namespaces ≤ 2
    few_tables site plan last l =
        let own = leads_parts (start_world table site) (with_unshare table.calls (mount_steps plan)) (call_steps table.calls wanted) last l in
        let first = unshared (mount_steps plan) (start_world table site) own.mid refl (mounts_quiet plan) own.before in
        let told = told_steps (start_world table site) own.mid (with_unshare table.calls (mount_steps plan)) own.before in
        let rest = quiet_steps own.mid last (call_steps table.calls wanted) told calls_quiet own.after in
        omega (arith, first, rest)
