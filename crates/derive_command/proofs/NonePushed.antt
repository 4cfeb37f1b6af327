-- Processes without programs of their own have none after calls that push none.
use Rattle.std.proofs.Common.{◌≡◌, ℕ, zero, suc, Bool, true, false, cond, List, [], ◌∷◌, ◌++◌, Option, Some, None, Result, Ok, Err, refl, ap}
use Rattle.std.proofs.Common.{◌∙◌, length, arith, eqb, length-append}
use Rattle.std.specs.Prelude.{◌+◌, ◌-◌, ◌&&◌, nat_le, nat_lt, map, not, slice_get, slice_set}
use Rattle.std.specs.List.{AllByRecursion}
use Rattle.asked_service.specs.bpf_code.declared.decision.Decision.{Decision}
use Rattle.asked_service.specs.bpf_code.declared.decision.Decision.TheVariants as decision
use Rattle.asked_service.specs.bpf_code.declared.machine.Insn.{Insn}
use Rattle.asked_service.specs.call_table.declared.listed.CallLine.{CallLine}
use Rattle.asked_service.specs.call_table.Lookups.{numbered}
use Rattle.asked_service.specs.call_table.Table.{Table}
use Rattle.asked_service.specs.cap_sets.Sets.{has}
use Rattle.asked_service.specs.kern_creds.declared.creds.Creds.{Creds}
use Rattle.asked_service.specs.kern_creds.Capset.{after_capset}
use Rattle.asked_service.specs.kern_creds.Prctl.{after_drop_bounding, after_raise, after_lower, after_clear_ambient, after_set_keepcaps}
use Rattle.asked_service.specs.kern_creds.Prctl.{after_set_no_new_privs, after_set_mdwe}
use Rattle.asked_service.specs.kern_creds.Ring.{after_set_up_ring}
use Rattle.asked_service.specs.kern_creds.Setgroups.{after_setgroups}
use Rattle.asked_service.specs.kern_creds.Setresuid.{after_setresuid, after_setresgid}
use Rattle.asked_service.specs.kern_creds.Setuid.{after_setuid, after_setgid}
use Rattle.asked_service.specs.kern_mounts.Finds.{finds}
use Rattle.asked_service.specs.kern_mounts.Mounts.{Mounts, steps_of}
use Rattle.asked_service.specs.kernel_model.kern_files.Bits.{has_all, has_some}
use Rattle.asked_service.specs.kernel_model.kern_files.Executing.{exec_answer_in}
use Rattle.asked_service.specs.kernel_model.kern_files.Looking.{flags_at, see_answer, write_answer, open_answer}
use Rattle.asked_service.specs.kernel_model.kern_files.MountCall.{after_mount}
use Rattle.asked_service.specs.kernel_model.kern_files.UmountCall.{umount_answer}
use Rattle.asked_service.specs.kernel_model.kernel_calls.Operation as d
use Rattle.asked_service.specs.kernel_model.kernel_calls.Operation.{Operation, Asked, Lacking, Misformed, Does, asked_of}
use Rattle.asked_service.specs.kernel_model.declared.kernel_calls.call.Call.{Call}
use Rattle.asked_service.specs.kernel_model.declared.kernel_calls.request.Request.{Request}
use Rattle.asked_service.specs.kernel_model.declared.kernel_calls.request.Request.TheVariants as ask
use Rattle.asked_service.specs.kernel_model.declared.process.Process.{Process}
use Rattle.asked_service.specs.kernel_model.declared.reply.Reply.{Reply}
use Rattle.asked_service.specs.kernel_model.declared.reply.Reply.TheVariants as w
use Rattle.asked_service.specs.kernel_model.Effects as f
use Rattle.asked_service.specs.kernel_model.Effects.{Effect, Host, Caller, looks, creds_effect, table_effect, with_cap_of, with_admin}
use Rattle.asked_service.specs.kernel_model.Effects.{first_alone, schedule_answer, socket_effect, is_set_effect, ambient_effect}
use Rattle.asked_service.specs.kernel_model.Effects.{no_new_privs_effect, keepcaps_effect, prctl_effect, effect_of}
use Rattle.asked_service.specs.kernel_model.Effects.{socketcall_effect, protect_effect, attach_effect, set_mdwe_effect, prctl_effect_of}
use Rattle.asked_service.specs.kernel_model.Effects.{attributes_effect, sockets_effect, socketpair_effect, no_pair, clone_effect}
use Rattle.asked_service.specs.kernel_model.Effects.{request_effect}
use Rattle.asked_service.specs.kernel_model.Effects.{unshare_effect, newns, newuser, other_spaces, no_spaces, thread_flag}
use Rattle.asked_service.specs.kernel_model.Step.{applied, child_in, child_of, decision_of, has_user_left, moved_in}
use Rattle.asked_service.specs.kernel_model.World.{World, ended, entered_by, host_of, if_alive, living_of, moved_to, process_of, with_child}
use Rattle.asked_service.specs.kernel_model.World.{with_copy, with_process, with_user}
use Rattle.asked_service.specs.launcher.Alike.{above, over}
use Rattle.asked_service.specs.linux_numbers.Capabilities.{cap_sys_admin, cap_last_cap}
use Rattle.asked_service.specs.linux_numbers.Errnos.{eagain, eperm, ebadf, eacces, einval, enospc}
use Rattle.asked_service.specs.linux_numbers.Limits.{no_id}
use Rattle.asked_service.proofs.OfLauncher.Alike.{caller_over, own_answered, own_by, own_decided, own_step}
use Rattle.derive_command.specs.trace_profile.allow_laws.Either.{PushesNone}

-- ---- effects
-- an effect that pushes no program
abbrev Stays : Effect → Type 0
Stays (f.Push program) = ⊥
Stays _ = Unit {0}

stays_looks : (r : Result ℕ ℕ) → Stays (looks r)
stays_looks (Ok value) = tt
stays_looks (Err errno) = tt

stays_creds : (r : Result Creds ℕ) → Stays (creds_effect r)
stays_creds (Ok creds) = tt
stays_creds (Err errno) = tt

stays_table : (r : Result Mounts ℕ) → Stays (table_effect r)
stays_table (Ok table) = tt
stays_table (Err errno) = tt

either : (b : Bool) (one other : Effect) → Stays one → Stays other → Stays (cond b one other)
either true one other h g = h
either false one other h g = g

stays_cap : (o : Option ℕ) (creds : Creds) (value : ℕ) → Stays (with_cap_of o creds (f.Answer value))
stays_cap None creds value = tt
stays_cap (Some number) creds value = either (has creds.effective number) (f.Answer value) (f.Refuse eperm) tt tt

stays_alone : (newer : Bool) (o : Option ℕ) (creds : Creds) (value : ℕ) → Stays (first_alone newer o (with_cap_of o creds (f.Answer value)))
stays_alone false o creds value = stays_cap o creds value
stays_alone true None creds value = tt
stays_alone true (Some number) creds value = tt

stays_attributes : (newer : Bool) (creds : Creds) (policy : ℕ) → Stays (attributes_effect newer creds policy)
stays_attributes true creds policy = tt
stays_attributes false creds policy =
    either (has creds.effective 23) (looks (schedule_answer policy)) (f.Refuse eperm) (stays_looks (schedule_answer policy)) tt

stays_sockets : (value : ℕ) (newer : Bool) (creds : Creds) (o : Option CallLine) → Stays (sockets_effect value newer creds o)
stays_sockets value newer creds None = tt
stays_sockets value newer creds (Some line) = stays_alone newer line.cap creds value

stays_socket : (newer : Bool) (creds : Creds) (o : Option CallLine) → Stays (socket_effect newer creds o)
stays_socket newer creds o = stays_sockets 3 newer creds o

stays_unpaired : (o : Option CallLine) → Stays (no_pair o)
stays_unpaired None = tt
stays_unpaired (Some line) = tt

stays_socketpair : (newer : Bool) (creds : Creds) (family : ℕ) (o : Option CallLine) → Stays (socketpair_effect newer creds family o)
stays_socketpair newer creds family o =
    either (eqb family 1) (sockets_effect 0 newer creds o) (no_pair o) (stays_sockets 0 newer creds o) (stays_unpaired o)

stays_ids : (real effective saved : ℕ)
    → Stays (cond ((eqb real no_id && eqb effective no_id) && eqb saved no_id) (f.Answer 0) (f.Refuse einval))
stays_ids real effective saved = either ((eqb real no_id && eqb effective no_id) && eqb saved no_id) (f.Answer 0) (f.Refuse einval) tt tt

stays_socketcall : (newer : Bool) (creds : Creds) (op : ℕ) (o : Option CallLine) → Stays (socketcall_effect newer creds op o)
stays_socketcall newer creds op o =
    let other : Effect = cond (nat_le 2 op && nat_le op 20) (f.Answer 0) (f.Refuse einval) in
    either (eqb op 1) (socket_effect newer creds o) other (stays_socket newer creds o)
    (either (nat_le 2 op && nat_le op 20) (f.Answer 0) (f.Refuse einval) tt tt)

stays_admin : (creds : Creds) (r : Result Mounts ℕ) → Stays (with_admin creds (table_effect r))
stays_admin creds r = either (has creds.effective cap_sys_admin) (table_effect r) (f.Refuse eperm) (stays_table r) tt

stays_ambient : (creds : Creds) (op cap' : ℕ) → Stays (ambient_effect creds op cap')
stays_ambient creds op cap' =
    let set : Effect = is_set_effect creds cap' in
    let raise : Effect = creds_effect (after_raise creds cap') in
    let lower : Effect = creds_effect (after_lower creds cap') in
    let clear : Effect = f.SetCreds 0 (after_clear_ambient creds) in
    let four : Effect = cond (eqb op 4) clear (f.Refuse einval) in
    let three : Effect = cond (eqb op 3) lower four in
    let two : Effect = cond (eqb op 2) raise three in
    either (eqb op 1) set two
    (either (nat_lt cap_last_cap cap') (f.Refuse einval) (f.Answer (cond (has creds.ambient cap') 1 0)) tt tt)
    (either (eqb op 2) raise three (stays_creds (after_raise creds cap'))
    (either (eqb op 3) lower four (stays_creds (after_lower creds cap'))
    (either (eqb op 4) clear (f.Refuse einval) tt tt)))

stays_prctl : (creds : Creds) (option value third : ℕ) → Stays (prctl_effect creds option value third)
stays_prctl creds option value third =
    let mark : Effect = no_new_privs_effect creds value in
    let marked : Effect = f.Answer (cond creds.no_new_privs 1 0) in
    let keep : Effect = keepcaps_effect creds value in
    let drop : Effect = creds_effect (after_drop_bounding creds value) in
    let five : Effect = cond (eqb option 47) (ambient_effect creds value third) (f.Refuse einval) in
    let four : Effect = cond (eqb option 24) drop five in
    let three : Effect = cond (eqb option 8) keep four in
    let two : Effect = cond (eqb option 39) marked three in
    either (eqb option 38) mark two (either (eqb value 1) (f.SetCreds 0 (after_set_no_new_privs creds)) (f.Refuse einval) tt tt)
    (either (eqb option 39) marked three tt
    (either (eqb option 8) keep four (either (nat_lt value 2) (f.SetCreds 0 (after_set_keepcaps creds (eqb value 1))) (f.Refuse einval) tt tt)
    (either (eqb option 24) drop five (stays_creds (after_drop_bounding creds value))
    (either (eqb option 47) (ambient_effect creds value third) (f.Refuse einval) (stays_ambient creds value third) tt))))

stays_prctl_of : (mdwe : Bool) (creds : Creds) (option value third fourth fifth : ℕ)
    → Stays (prctl_effect_of mdwe creds option value third fourth fifth)
stays_prctl_of mdwe creds option value third fourth fifth =
    let alone = (eqb third 0 && eqb fourth 0) && eqb fifth 0 in
    let rest : Effect = prctl_effect creds option value third in
    let get : Effect = f.Answer (cond creds.mdwe 1 0) in
    either (eqb option 65 && mdwe) (set_mdwe_effect creds value alone) (cond (eqb option 66 && mdwe) get rest) (stays_set alone)
    (either (eqb option 66 && mdwe) get rest tt (stays_prctl creds option value third))
  where
    stays_set : (alone : Bool) → Stays (set_mdwe_effect creds value alone)
    stays_set false = tt
    stays_set true =
        let clear : Effect = cond creds.mdwe (f.Refuse eperm) (f.Answer 0) in
        let two : Effect = cond (eqb value 0) clear (f.Refuse einval) in
        either (eqb value 1) (f.SetCreds 0 (after_set_mdwe creds)) two tt
        (either (eqb value 0) clear (f.Refuse einval) (either creds.mdwe (f.Refuse eperm) (f.Answer 0) tt tt) tt)

stays_protect : (creds : Creds) (protection : ℕ) → Stays (protect_effect creds protection)
stays_protect creds protection = either (has_all 6 protection && creds.mdwe) (f.Refuse eacces) (f.Answer 0) tt tt

stays_attach : (creds : Creds) (flags : ℕ) → Stays (attach_effect creds flags)
stays_attach creds flags = either ((has_all 0x8000 flags && not (has_all 0x1000 flags)) && creds.mdwe) (f.Refuse eacces) (f.Answer 0) tt tt

stays_clone : (creds : Creds) (flags : ℕ) → Stays (clone_effect creds flags)
stays_clone creds flags =
    let child : Effect = f.Child (has_some newns flags) in
    let two : Effect = cond (has_some other_spaces flags) (with_admin creds child) (f.Child false) in
    let one : Effect = cond (has_some newuser flags) (f.UserChild (has_some newns flags)) two in
    either (has_some thread_flag flags) (f.Refuse einval) one tt
    (either (has_some newuser flags) (f.UserChild (has_some newns flags)) two tt
    (either (has_some other_spaces flags) (with_admin creds child) (f.Child false)
    (either (has creds.effective cap_sys_admin) child (f.Refuse eperm) tt tt) tt))

stays_unshare : (creds : Creds) (flags : ℕ) → Stays (unshare_effect creds flags)
stays_unshare creds flags =
    let own : Effect = cond (has_some newns flags) f.OwnTable (f.Answer 0) in
    let two : Effect = cond (has_some other_spaces flags) (with_admin creds own) (f.Answer 0) in
    let one : Effect = cond (has_some newuser flags) (f.OwnUser (has_some newns flags)) two in
    either (has_some no_spaces flags) (f.Refuse einval) one tt
    (either (has_some newuser flags) (f.OwnUser (has_some newns flags)) two tt
    (either (has_some other_spaces flags) (with_admin creds own) (f.Answer 0)
    (either (has creds.effective cap_sys_admin) own (f.Refuse eperm) (either (has_some newns flags) f.OwnTable (f.Answer 0) tt tt) tt) tt))

stays_request : (host : Host) (caller : Caller) (request : Request) → Stays (request_effect host caller request)
stays_request host caller (ask.Stat path) = stays_looks (see_answer 0 (finds host.rows (steps_of caller.table) path))
stays_request host caller (ask.Open path flags) = stays_looks
    (open_answer flags (flags_at (steps_of caller.table) path) (finds host.rows (steps_of caller.table) path))
stays_request host caller (ask.Socket family) = stays_socket caller.newer caller.creds (numbered family host.families)
stays_request host caller (ask.Mode mode) = tt

effect_stays : (table : Table) (call : Call) (nothing : PushesNone table call) (host : Host) (caller : Caller) (operation : Operation) → asked_of table call ≡ Does operation → Stays (effect_of host caller operation)
effect_stays table call nothing host caller (d.See path) e = stays_looks (see_answer 0 (finds host.rows (steps_of caller.table) path))
effect_stays table call nothing host caller (d.Open flags mode path) e = stays_looks
    (open_answer flags (flags_at (steps_of caller.table) path) (finds host.rows (steps_of caller.table) path))
effect_stays table call nothing host caller (d.Create mode path) e =
    stays_looks (write_answer 3 (flags_at (steps_of caller.table) path) (finds host.rows (steps_of caller.table) path))
effect_stays table call nothing host caller (d.Truncate path) e =
    stays_looks (write_answer 0 (flags_at (steps_of caller.table) path) (finds host.rows (steps_of caller.table) path))
effect_stays table call nothing host caller (d.Execve path) e =
    stays_creds (exec_answer_in caller.newer caller.creds (flags_at (steps_of caller.table) path)
    (finds host.rows (steps_of caller.table) path))
effect_stays table call nothing host caller (d.SetMode mode) e = tt
effect_stays table call nothing host caller (d.Map protection) e = stays_protect caller.creds protection
effect_stays table call nothing host caller (d.Protect protection) e = stays_protect caller.creds protection
effect_stays table call nothing host caller (d.Attach flags) e = stays_attach caller.creds flags
effect_stays table call nothing host caller (d.Schedule policy) e = stays_looks (schedule_answer policy)
effect_stays table call nothing host caller (d.Personality persona) e = tt
effect_stays table call nothing host caller (d.SetAttributes policy) e = stays_attributes caller.newer caller.creds policy
effect_stays table call nothing host caller (d.Socket family) e = stays_socket caller.newer caller.creds (numbered family host.families)
effect_stays table call nothing host caller (d.Socketcall op family) e =
    stays_socketcall caller.newer caller.creds op (numbered family host.families)
effect_stays table call nothing host caller (d.Socketpair family) e =
    stays_socketpair caller.newer caller.creds family (numbered family host.families)
effect_stays table call nothing host caller d.Enter e = tt
effect_stays table call nothing host caller d.Fork e = tt
effect_stays table call nothing host caller (d.Clone flags) e = stays_clone caller.creds flags
effect_stays table call nothing host caller (d.Unshare flags) e = stays_unshare caller.creds flags
effect_stays table call nothing host caller d.Exit e = tt
effect_stays table call nothing host caller (d.Mount source target flags) e = either caller.owns
    (with_admin caller.creds (table_effect (after_mount host.rows caller.table source target flags))) (f.Refuse eperm)
    (stays_admin caller.creds (after_mount host.rows caller.table source target flags)) tt
effect_stays table call nothing host caller (d.Umount path flags) e = either caller.owns
    (with_admin caller.creds (table_effect (umount_answer caller.table path flags))) (f.Refuse eperm)
    (stays_admin caller.creds (umount_answer caller.table path flags)) tt
effect_stays table call nothing host caller (d.Setuid id) e = either caller.newer (f.Refuse einval) (creds_effect (after_setuid caller.creds id)) tt
    (stays_creds (after_setuid caller.creds id))
effect_stays table call nothing host caller (d.Setgid id) e = either caller.newer (f.Refuse einval) (creds_effect (after_setgid caller.creds id)) tt
    (stays_creds (after_setgid caller.creds id))
effect_stays table call nothing host caller (d.Setresuid real effective saved) e =
    either caller.newer (cond ((eqb real no_id && eqb effective no_id) && eqb saved no_id) (f.Answer 0) (f.Refuse einval))
    (creds_effect (after_setresuid caller.creds real effective saved)) (stays_ids real effective saved)
    (stays_creds (after_setresuid caller.creds real effective saved))
effect_stays table call nothing host caller (d.Setresgid real effective saved) e =
    either caller.newer (cond ((eqb real no_id && eqb effective no_id) && eqb saved no_id) (f.Answer 0) (f.Refuse einval))
    (creds_effect (after_setresgid caller.creds real effective saved)) (stays_ids real effective saved)
    (stays_creds (after_setresgid caller.creds real effective saved))
effect_stays table call nothing host caller (d.Setgroups ids) e = either caller.newer (f.Refuse eperm) (creds_effect (after_setgroups caller.creds ids)) tt
    (stays_creds (after_setgroups caller.creds ids))
effect_stays table call nothing host caller (d.Capset permitted effective inheritable) e =
    stays_creds (after_capset caller.creds permitted effective inheritable)
effect_stays table call nothing host caller (d.Prctl option value third fourth fifth) e =
    stays_prctl_of host.mdwe caller.creds option value third fourth fifth
effect_stays table call nothing host caller (d.Seccomp op flags code) e = absurd (nothing op flags code e)
effect_stays table call nothing host caller d.SetUpRing e =
    either host.rings (f.SetCreds 3 (after_set_up_ring caller.creds)) (f.Refuse eperm) tt tt
effect_stays table call nothing host caller (d.Submit request) e =
    either caller.creds.ring (request_effect host caller request) (f.Refuse ebadf) (stays_request host caller request) tt
effect_stays table call nothing host caller (d.Plain cap') e = stays_alone caller.newer cap' caller.creds 0

-- ---- processes
-- no process has programs of its own
abbrev pub HasNone : Process → Type 0
HasNone process = process.stack ≡ []

abbrev pub AreBare : World → Type 0
AreBare world = AllByRecursion HasNone world.processes

abbrev pub IsBareCaller : Option Process → Type 0
IsBareCaller None = Unit {0}
IsBareCaller (Some process) = HasNone process

each_set : (xs : List Process) (i : ℕ) (x : Process) → AllByRecursion HasNone xs → HasNone x → AllByRecursion HasNone (slice_set xs i x)
each_set [] i x all is = tt
each_set (y ∷ xs) zero x all is = (is, all.1)
each_set (y ∷ xs) (suc i) x all is = (all.0, each_set xs i x all.1 is)

each_push : (xs : List Process) (x : Process) → AllByRecursion HasNone xs → HasNone x → AllByRecursion HasNone (xs ++ x ∷ [])
each_push [] x all is = (is, tt)
each_push (y ∷ xs) x all is = (all.0, each_push xs x all.1 is)

at_place : (xs : List Process) (i : ℕ) → AllByRecursion HasNone xs → IsBareCaller (slice_get xs i)
at_place [] i all = tt
at_place (x ∷ xs) zero all = all.0
at_place (x ∷ xs) (suc i) all = at_place xs i all.1

if_living : (o : Option Process) → IsBareCaller o → IsBareCaller (if_alive o)
if_living None is = tt
if_living (Some process) is = by process.alive
  where
    by : (b : Bool) → IsBareCaller (cond b (Some process) None)
    by true = is
    by false = tt

pub bare_caller : (world : World) (pid : ℕ) → AreBare world → IsBareCaller (living_of world pid)
bare_caller world pid bare = if_living (process_of world pid) (by (eqb pid 0))
  where
    by : (b : Bool) → IsBareCaller (cond b None (slice_get world.processes (pid - 1)))
    by true = tt
    by false = at_place world.processes (pid - 1) bare

-- ---- a step
bare_child : (old world : World) (child : Process) (own : Bool) → AreBare old → AreBare world → HasNone child
    → AreBare (child_in old world child own).1
bare_child old world child false was bare is = each_push world.processes child bare is
bare_child old world child true was bare is = by (nat_lt (length world.namespaces) 64)
  where
    by : (b : Bool) → AreBare (cond {A = Reply × World} b (w.Done (length world.processes + 1), with_child (with_copy world child.namespace child.user) (moved_to child (length world.namespaces))) (w.Refused enospc, old)).1
    by true = each_push world.processes (moved_to child (length world.namespaces)) bare is
    by false = was

bare_moved : (old world : World) (pid : ℕ) (process : Process) (own : Bool) → AreBare old → AreBare world → HasNone process
    → AreBare (moved_in old world pid process own).1
bare_moved old world pid process false was bare is = each_set world.processes (pid - 1) process bare is
bare_moved old world pid process true was bare is = by (nat_lt (length world.namespaces) 64)
  where
    by : (b : Bool) → AreBare (cond {A = Reply × World} b
        (w.Done 0, with_process (with_copy world process.namespace process.user) pid (moved_to process (length world.namespaces)))
        (w.Refused enospc, old)).1
    by true = each_set world.processes (pid - 1) (moved_to process (length world.namespaces)) bare is
    by false = was

bare_applied : (world : World) (pid : ℕ) (process : Process) (effect : Effect) → Stays effect → AreBare world → HasNone process
    → AreBare (applied world pid process effect).1
bare_applied world pid process (f.Refuse errno) stays bare is = bare
bare_applied world pid process (f.Answer value) stays bare is = bare
bare_applied world pid process (f.SetCreds value creds) stays bare is = each_set world.processes (pid - 1) (record process { creds = creds }) bare is
bare_applied world pid process (f.SetTable table) stays bare is = bare
bare_applied world pid process (f.Push program) stays bare is = absurd stays
bare_applied world pid process (f.Child own) stays bare is = by (nat_lt (length world.processes) 1024)
  where
    by : (b : Bool) → AreBare (cond {A = Reply × World} b (child_of world process own) (w.Refused eagain, world)).1
    by true = bare_child world world process own bare bare is
    by false = bare
bare_applied world pid process f.OwnTable stays bare is = bare_moved world world pid process true bare bare is
bare_applied world pid process (f.UserChild own) stays bare is = by (has_user_left world) (nat_lt (length world.processes) 1024)
  where
    by : (a b : Bool) → AreBare (cond {A = Reply × World} a
        (cond {A = Reply × World} b (child_in world (with_user world) (entered_by process world.users) own) (w.Refused eagain, world))
        (w.Refused enospc, world)).1
    by true true = bare_child world (with_user world) (entered_by process world.users) own bare bare is
    by true false = bare
    by false b = bare
bare_applied world pid process (f.OwnUser own) stays bare is = by (has_user_left world)
  where
    by : (a : Bool) → AreBare (cond {A = Reply × World} a (moved_in world (with_user world) pid (entered_by process world.users) own) (w.Refused enospc, world)).1
    by true = bare_moved world (with_user world) pid (entered_by process world.users) own bare bare is
    by false = bare
bare_applied world pid process f.End stays bare is = each_set world.processes (pid - 1) (ended process) bare is

module _ (programs : List (List Insn)) (world : World) (call : Call) (nothing : PushesNone world.calls call) (bare : AreBare world) where
  bare_answered : (process : Process) → HasNone process → (asked : Asked) → asked_of world.calls call ≡ asked
      → AreBare (own_answered programs world call.pid process asked).1
  bare_answered process is Lacking e = bare
  bare_answered process is Misformed e = bare
  bare_answered process is (Does operation) e =
      bare_applied world call.pid process (effect_of (host_of world) (caller_over programs world process) operation)
      (effect_stays world.calls call nothing (host_of world) (caller_over programs world process) operation e) bare is

  bare_decided : (process : Process) → HasNone process → (c : Decision) → AreBare (own_decided programs world call process c).1
  bare_decided process is decision.Pass = bare_answered process is (asked_of world.calls call) refl
  bare_decided process is (decision.Errno errno) = bare
  bare_decided process is decision.Kill = each_set world.processes (call.pid - 1) (ended process) bare is

  bare_by : (o : Option Process) → IsBareCaller o → AreBare (own_by programs world call o).1
  bare_by None is = bare
  bare_by (Some process) is = bare_decided process is (decision_of world call (over programs process))

  pub bare_step : AreBare (own_step programs world call).1
  bare_step = bare_by (living_of world call.pid) (bare_caller world call.pid bare)

-- ---- a launched world
none_behind : (one own : List (List Insn)) → one ++ own ≡ one → own ≡ []
none_behind one [] e = refl
none_behind one (code ∷ own) e =
    let long = length-append one (code ∷ own) in
    let same = ap length e in
    absurd (omega (arith, long, same))

-- process 1 alone has these programs and no others
pub bare_alone : (programs : List (List Insn)) (process : Process) (base : World) → (above programs base).processes ≡ process ∷ []
    → process.stack ≡ programs → AreBare base
bare_alone programs process base alone is = by base.processes alone
  where
    by : (own : List Process) → map (over programs) own ≡ process ∷ [] → AllByRecursion HasNone own
    by [] e = tt
    by (one ∷ []) e =
        let same : over programs one ≡ process = cc in
        (none_behind programs one.stack (ap (λ (p : Process). p.stack) same ∙ is), tt)
    by (one ∷ more ∷ rest) e = cc
