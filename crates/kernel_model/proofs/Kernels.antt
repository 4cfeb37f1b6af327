-- What holds of every world stays, whatever is called.
use Rattle.std.proofs.Common.{◌≡◌, ℕ, ◌<◌, ◌≤◌, ◌-◌, ◌+◌, ◌==◌, zero, suc, Bool, true, false, cond, List, [], ◌∷◌, ◌++◌, length, Option}
use Rattle.std.proofs.Common.{Some, None, Result, Ok, Err, refl, sym, ◌∙◌, subst, arith}
use Rattle.std.specs.Prelude.{slice_get, nat_lt, nat_le, not, ◌&&◌, ◌||◌}
use Rattle.std.specs.List.{AllByRecursion}
use Rattle.bpf_code.specs.declared.machine.Insn.{Insn}
use Rattle.bpf_code.specs.ProgramOf.{program_of}
use Rattle.bpf_code.specs.Stack.{room_of}
use Rattle.site_table.specs.cap_sets.Sets.{has}
use Rattle.kern_mounts.specs.linux_numbers.Errnos.{eperm, ebadf, eacces, einval, enomem}
use Rattle.kern_mounts.specs.linux_numbers.Capabilities.{cap_sys_admin, cap_last_cap}
use Rattle.kern_mounts.specs.linux_numbers.Limits.{max_insns_per_path, no_id}
use Rattle.kernel_model.specs.kern_files.Bits.{has_some, has_all}
use Rattle.call_table.specs.declared.listed.CallLine.{CallLine}
use Rattle.kern_creds.specs.declared.creds.Creds.{Creds}
use Rattle.kern_creds.specs.Prctl.{after_drop_bounding, after_raise, after_lower, after_clear_ambient, after_set_keepcaps}
use Rattle.kern_creds.specs.Prctl.{after_set_no_new_privs, after_set_mdwe}
use Rattle.kern_creds.specs.Ring.{after_set_up_ring}
use Rattle.kern_creds.specs.Setuid.{after_setuid, after_setgid}
use Rattle.kern_creds.specs.Setresuid.{after_setresuid, after_setresgid}
use Rattle.kern_creds.specs.Setgroups.{after_setgroups}
use Rattle.kern_mounts.specs.Copying.{locked_copy, copied}
use Rattle.kern_mounts.specs.Mounts.{Mounts as Table}
use Rattle.kernel_model.specs.kern_files.MountCall.{after_mount}
use Rattle.kernel_model.specs.kern_files.UmountCall.{umount_answer}
use Rattle.kernel_model.specs.declared.kernel_calls.call.Call.{Call}
use Rattle.kernel_model.specs.kernel_calls.Operation as d
use Rattle.kernel_model.specs.kernel_calls.Operation.{Operation}
use Rattle.kernel_model.specs.declared.mount_namespace.MountNamespace.{MountNamespace}
use Rattle.kernel_model.specs.declared.kernel_calls.request.Request.{Request}
use Rattle.kernel_model.specs.declared.kernel_calls.request.Request.TheVariants as ask
use Rattle.kernel_model.specs.declared.process.Process.{Process}
use Rattle.kernel_model.specs.MountNamespaces.{copy_for, namespace_or, with_other_table}
use Rattle.kernel_model.specs.declared.reply.Reply.{Reply}
use Rattle.kernel_model.specs.Effects as f
use Rattle.kernel_model.specs.Effects.{Effect, Host, Caller, thread_flag, newns, newuser, other_spaces, no_spaces, effect_of, looks}
use Rattle.kernel_model.specs.Effects.{creds_effect, table_effect, with_cap, with_cap_of, with_admin, socket_effect, sockets_effect, clone_effect}
use Rattle.kernel_model.specs.Effects.{unshare_effect, is_set_effect, ambient_effect, no_new_privs_effect, keepcaps_effect, prctl_effect}
use Rattle.kernel_model.specs.Effects.{push_effect, seccomp_effect, first_alone, socketcall_effect, socketpair_effect, no_pair, af_unix, protect_effect}
use Rattle.kernel_model.specs.Effects.{attach_effect, attributes_effect, schedule_answer}
use Rattle.kernel_model.specs.Effects.{set_mdwe_effect, prctl_effect_of, set_up_effect, request_effect, submit_effect}
use Rattle.kernel_model.specs.World.{World, living_of, of_number, namespace_of, mounts_of, with_process, with_table, with_child, with_copy}
use Rattle.kernel_model.specs.World.{moved_to, ended, host_of, caller_of, owner_of, with_user, entered_by}
use Rattle.kernel_model.specs.Step.{step, most_processes, most_namespaces}
use Rattle.kernel_model.specs.StepCases as case
use Rattle.kernel_model.specs.StepCases.{StepCase, EffectCase}
use Rattle.kern_mounts.proofs.Mounts.{locked_steps}
use Rattle.kernel_model.specs.Worlds.{AreRooted, HasRoot, HasSpace, IsRooted, IsKernel}
use Rattle.kernel_model.specs.Laws.{WorldsStay, ToldStays}
use Rattle.kernel_model.proofs.Lists.{each-set, each-append, each-get, each-map, length-set, length-push}
use Rattle.kernel_model.proofs.Places.{living_get}
use Rattle.kernel_model.proofs.Rooted.{rooted_mount, rooted_umount_call}
use Rattle.kernel_model.proofs.Cases.{steps_by_cases}

abbrev pub Kernel : World → Type 0
Kernel world = IsKernel world.processes world.namespaces

-- a table that the effect makes is rooted
abbrev pub Roots : Effect → Type 0
Roots (f.SetTable table) = IsRooted table
Roots (f.Refuse errno) = Unit {0}
Roots (f.Answer value) = Unit {0}
Roots (f.SetCreds value creds) = Unit {0}
Roots (f.Push program) = Unit {0}
Roots (f.Child own) = Unit {0}
Roots f.OwnTable = Unit {0}
Roots (f.UserChild own) = Unit {0}
Roots (f.OwnUser own) = Unit {0}
Roots f.End = Unit {0}

pub record MakesRooted (effect : Effect) : Type 0 where
  pub rooted : Roots effect

refuses : (errno : ℕ) → MakesRooted (f.Refuse errno)
refuses errno = record { rooted = tt }

gives : (value : ℕ) → MakesRooted (f.Answer value)
gives value = record { rooted = tt }

roots_if : (b : Bool) (x y : Effect) → MakesRooted x → MakesRooted y → MakesRooted (cond b x y)
roots_if true x y p q = p
roots_if false x y p q = q

roots_looks : (answer : Result ℕ ℕ) → MakesRooted (looks answer)
roots_looks (Ok value) = gives value
roots_looks (Err errno) = refuses errno

roots_creds : (answer : Result Creds ℕ) → MakesRooted (creds_effect answer)
roots_creds (Ok creds) = record { rooted = tt }
roots_creds (Err errno) = refuses errno

roots_table : (answer : Result Table ℕ) → ((next : Table) → answer ≡ Ok next → IsRooted next) → MakesRooted (table_effect answer)
roots_table (Ok table) h = record { rooted = h table refl }
roots_table (Err errno) h = refuses errno

roots_cap : (cap : ℕ) (creds : Creds) (effect : Effect) → MakesRooted effect → MakesRooted (with_cap cap creds effect)
roots_cap cap creds effect h = roots_if (has creds.effective cap) effect (f.Refuse eperm) h (refuses eperm)

roots_cap_of : (cap : Option ℕ) (creds : Creds) (value : ℕ) → MakesRooted (with_cap_of cap creds (f.Answer value))
roots_cap_of None creds value = gives value
roots_cap_of (Some cap) creds value = roots_cap cap creds (f.Answer value) (gives value)

roots_alone : (newer : Bool) (cap : Option ℕ) (creds : Creds) (value : ℕ)
    → MakesRooted (first_alone newer cap (with_cap_of cap creds (f.Answer value)))
roots_alone false cap creds value = roots_cap_of cap creds value
roots_alone true None creds value = gives value
roots_alone true (Some cap) creds value = refuses eperm

roots_attributes : (newer : Bool) (creds : Creds) (policy : ℕ) → MakesRooted (attributes_effect newer creds policy)
roots_attributes true creds policy = refuses eperm
roots_attributes false creds policy = roots_cap 23 creds (looks (schedule_answer policy)) (roots_looks (schedule_answer policy))

roots_sockets : (value : ℕ) (newer : Bool) (creds : Creds) (line : Option CallLine) → MakesRooted (sockets_effect value newer creds line)
roots_sockets value newer creds None = refuses _
roots_sockets value newer creds (Some line) = roots_alone newer line.cap creds value

roots_socket : (newer : Bool) (creds : Creds) (line : Option CallLine) → MakesRooted (socket_effect newer creds line)
roots_socket newer creds line = roots_sockets 3 newer creds line

roots_unpaired : (line : Option CallLine) → MakesRooted (no_pair line)
roots_unpaired None = refuses _
roots_unpaired (Some line) = refuses _

roots_socketpair : (newer : Bool) (creds : Creds) (family : ℕ) (line : Option CallLine)
    → MakesRooted (socketpair_effect newer creds family line)
roots_socketpair newer creds family line = roots_if (family == af_unix) (sockets_effect 0 newer creds line) (no_pair line)
    (roots_sockets 0 newer creds line) (roots_unpaired line)

-- where ids are not mapped
roots_ids : (real effective saved : ℕ)
    → MakesRooted (cond ((real == no_id && effective == no_id) && saved == no_id) (f.Answer 0) (f.Refuse einval))
roots_ids real effective saved = roots_if ((real == no_id && effective == no_id) && saved == no_id) (f.Answer 0) (f.Refuse einval)
    (gives 0) (refuses einval)

roots_socketcall : (newer : Bool) (creds : Creds) (op : ℕ) (line : Option CallLine)
    → MakesRooted (socketcall_effect newer creds op line)
roots_socketcall newer creds op line =
    let other : Effect = cond (nat_le 2 op && nat_le op 20) (f.Answer 0) (f.Refuse einval) in
    roots_if (op == 1) (socket_effect newer creds line) other (roots_socket newer creds line)
    (roots_if (nat_le 2 op && nat_le op 20) (f.Answer 0) (f.Refuse einval) (gives 0) (refuses einval))

child : (own : Bool) → MakesRooted (f.Child own)
child own = record { rooted = tt }

user_child : (own : Bool) → MakesRooted (f.UserChild own)
user_child own = record { rooted = tt }

own_user : (own : Bool) → MakesRooted (f.OwnUser own)
own_user own = record { rooted = tt }

own_table : MakesRooted f.OwnTable
own_table = record { rooted = tt }

roots_clone : (creds : Creds) (flags : ℕ) → MakesRooted (clone_effect creds flags)
roots_clone creds flags = thread (has_some thread_flag flags)
  where
    spaces : (b : Bool) → MakesRooted (cond b (with_admin creds (f.Child (has_some newns flags))) (f.Child false))
    spaces true = roots_cap cap_sys_admin creds (f.Child (has_some newns flags)) (child (has_some newns flags))
    spaces false = child false

    user : (b : Bool) → MakesRooted
        (cond b (f.UserChild (has_some newns flags))
        (cond (has_some other_spaces flags) (with_admin creds (f.Child (has_some newns flags))) (f.Child false)))
    user true = user_child (has_some newns flags)
    user false = spaces (has_some other_spaces flags)

    thread : (b : Bool) → MakesRooted
        (cond b (f.Refuse einval)
        (cond (has_some newuser flags) (f.UserChild (has_some newns flags))
        (cond (has_some other_spaces flags) (with_admin creds (f.Child (has_some newns flags))) (f.Child false))))
    thread true = refuses einval
    thread false = user (has_some newuser flags)

roots_unshare : (creds : Creds) (flags : ℕ) → MakesRooted (unshare_effect creds flags)
roots_unshare creds flags = outside (has_some no_spaces flags)
  where
    table : (b : Bool) → MakesRooted (cond b f.OwnTable (f.Answer 0))
    table true = own_table
    table false = gives 0

    spaces : (b : Bool) → MakesRooted (cond b (with_admin creds (cond (has_some newns flags) f.OwnTable (f.Answer 0))) (f.Answer 0))
    spaces true = roots_cap cap_sys_admin creds (cond (has_some newns flags) f.OwnTable (f.Answer 0)) (table (has_some newns flags))
    spaces false = gives 0

    user : (b : Bool) → MakesRooted
        (cond b (f.OwnUser (has_some newns flags))
        (cond (has_some other_spaces flags) (with_admin creds (cond (has_some newns flags) f.OwnTable (f.Answer 0))) (f.Answer 0)))
    user true = own_user (has_some newns flags)
    user false = spaces (has_some other_spaces flags)

    outside : (b : Bool) → MakesRooted
        (cond b (f.Refuse einval)
        (cond (has_some newuser flags) (f.OwnUser (has_some newns flags))
        (cond (has_some other_spaces flags) (with_admin creds (cond (has_some newns flags) f.OwnTable (f.Answer 0))) (f.Answer 0))))
    outside true = refuses einval
    outside false = user (has_some newuser flags)

roots_is_set : (creds : Creds) (cap : ℕ) → MakesRooted (is_set_effect creds cap)
roots_is_set creds cap = roots_if (nat_lt cap_last_cap cap) (f.Refuse einval) (f.Answer (cond (has creds.ambient cap) 1 0))
    (refuses einval) (gives (cond (has creds.ambient cap) 1 0))

roots_clear : (value : ℕ) (creds : Creds) → MakesRooted (f.SetCreds value creds)
roots_clear value creds = record { rooted = tt }

roots_ambient : (creds : Creds) (op cap : ℕ) → MakesRooted (ambient_effect creds op cap)
roots_ambient creds op cap = is_set (op == 1)
  where
    clear : (b : Bool) → MakesRooted (cond b (f.SetCreds 0 (after_clear_ambient creds)) (f.Refuse einval))
    clear true = roots_clear 0 (after_clear_ambient creds)
    clear false = refuses einval

    lower : (b : Bool) → MakesRooted
        (cond b (creds_effect (after_lower creds cap)) (cond (op == 4) (f.SetCreds 0 (after_clear_ambient creds)) (f.Refuse einval)))
    lower true = roots_creds (after_lower creds cap)
    lower false = clear (op == 4)

    raise : (b : Bool) → MakesRooted
        (cond b (creds_effect (after_raise creds cap))
        (cond (op == 3) (creds_effect (after_lower creds cap))
        (cond (op == 4) (f.SetCreds 0 (after_clear_ambient creds)) (f.Refuse einval))))
    raise true = roots_creds (after_raise creds cap)
    raise false = lower (op == 3)

    is_set : (b : Bool)
        → MakesRooted (cond b (is_set_effect creds cap)
        (cond (op == 2) (creds_effect (after_raise creds cap))
        (cond (op == 3) (creds_effect (after_lower creds cap))
        (cond (op == 4) (f.SetCreds 0 (after_clear_ambient creds)) (f.Refuse einval)))))
    is_set true = roots_is_set creds cap
    is_set false = raise (op == 2)

roots_no_new_privs : (creds : Creds) (value : ℕ) → MakesRooted (no_new_privs_effect creds value)
roots_no_new_privs creds value = roots_if (value == 1) (f.SetCreds 0 (after_set_no_new_privs creds)) (f.Refuse einval)
    (roots_clear 0 (after_set_no_new_privs creds)) (refuses einval)

roots_keepcaps : (creds : Creds) (value : ℕ) → MakesRooted (keepcaps_effect creds value)
roots_keepcaps creds value = roots_if (nat_lt value 2) (f.SetCreds 0 (after_set_keepcaps creds (value == 1))) (f.Refuse einval)
    (roots_clear 0 (after_set_keepcaps creds (value == 1))) (refuses einval)

roots_prctl : (creds : Creds) (option value third : ℕ) → MakesRooted (prctl_effect creds option value third)
roots_prctl creds option value third = set (option == 38)
  where
    ambient : (b : Bool) → MakesRooted (cond b (ambient_effect creds value third) (f.Refuse einval))
    ambient true = roots_ambient creds value third
    ambient false = refuses einval

    drop : (b : Bool) → MakesRooted
        (cond b (creds_effect (after_drop_bounding creds value)) (cond (option == 47) (ambient_effect creds value third) (f.Refuse einval)))
    drop true = roots_creds (after_drop_bounding creds value)
    drop false = ambient (option == 47)

    keep : (b : Bool) → MakesRooted
        (cond b (keepcaps_effect creds value)
        (cond (option == 24) (creds_effect (after_drop_bounding creds value))
        (cond (option == 47) (ambient_effect creds value third) (f.Refuse einval))))
    keep true = roots_keepcaps creds value
    keep false = drop (option == 24)

    get : (b : Bool)
        → MakesRooted (cond b (f.Answer (cond creds.no_new_privs 1 0))
        (cond (option == 8) (keepcaps_effect creds value)
        (cond (option == 24) (creds_effect (after_drop_bounding creds value))
        (cond (option == 47) (ambient_effect creds value third) (f.Refuse einval)))))
    get true = gives (cond creds.no_new_privs 1 0)
    get false = keep (option == 8)

    set : (b : Bool)
        → MakesRooted (cond b (no_new_privs_effect creds value)
        (cond (option == 39) (f.Answer (cond creds.no_new_privs 1 0))
        (cond (option == 8) (keepcaps_effect creds value)
        (cond (option == 24) (creds_effect (after_drop_bounding creds value))
        (cond (option == 47) (ambient_effect creds value third) (f.Refuse einval))))))
    set true = roots_no_new_privs creds value
    set false = get (option == 39)

roots_set_mdwe : (creds : Creds) (value : ℕ) (alone : Bool) → MakesRooted (set_mdwe_effect creds value alone)
roots_set_mdwe creds value false = refuses einval
roots_set_mdwe creds value true =
    roots_if (value == 1) (f.SetCreds 0 (after_set_mdwe creds)) (cond (value == 0) (cond creds.mdwe (f.Refuse eperm) (f.Answer 0)) (f.Refuse einval))
    (roots_clear 0 (after_set_mdwe creds))
    (roots_if (value == 0) (cond creds.mdwe (f.Refuse eperm) (f.Answer 0)) (f.Refuse einval)
    (roots_if creds.mdwe (f.Refuse eperm) (f.Answer 0) (refuses eperm) (gives 0)) (refuses einval))

roots_prctl_of : (mdwe : Bool) (creds : Creds) (option value third fourth fifth : ℕ)
    → MakesRooted (prctl_effect_of mdwe creds option value third fourth fifth)
roots_prctl_of mdwe creds option value third fourth fifth =
    let alone = (third == 0 && fourth == 0) && fifth == 0 in
    let rest : Effect = prctl_effect creds option value third in
    let get : Effect = f.Answer (cond creds.mdwe 1 0) in
    roots_if (option == 65 && mdwe) (set_mdwe_effect creds value alone) (cond (option == 66 && mdwe) get rest) (roots_set_mdwe creds value alone)
    (roots_if (option == 66 && mdwe) get rest (gives (cond creds.mdwe 1 0)) (roots_prctl creds option value third))

roots_protect : (creds : Creds) (protection : ℕ) → MakesRooted (protect_effect creds protection)
roots_protect creds protection = roots_if (has_all 6 protection && creds.mdwe) (f.Refuse eacces) (f.Answer 0) (refuses eacces) (gives 0)

roots_attach : (creds : Creds) (flags : ℕ) → MakesRooted (attach_effect creds flags)
roots_attach creds flags = roots_if ((has_all 0x8000 flags && not (has_all 0x1000 flags)) && creds.mdwe) (f.Refuse eacces) (f.Answer 0)
    (refuses eacces) (gives 0)

pushes : (program : List Insn) → MakesRooted (f.Push program)
pushes program = record { rooted = tt }

roots_push : (stack : List (List Insn)) (program : Option (List Insn)) → MakesRooted (push_effect stack program)
roots_push stack None = refuses einval
roots_push stack (Some program) = roots_if (nat_le (room_of stack + length program) max_insns_per_path) (f.Push program) (f.Refuse enomem)
    (pushes program) (refuses enomem)

roots_seccomp : (creds : Creds) (stack : List (List Insn)) (op flags : ℕ) (bytes : List ℕ)
    → MakesRooted (seccomp_effect creds stack op flags bytes)
roots_seccomp creds stack op flags bytes = mode (not (op == 1 && flags == 0))
  where
    may : (b : Bool) → MakesRooted (cond b (f.Refuse eacces) (push_effect stack (program_of bytes)))
    may true = refuses eacces
    may false = roots_push stack (program_of bytes)

    mode : (b : Bool) → MakesRooted
        (cond b (f.Refuse einval)
        (cond (not (creds.no_new_privs || has creds.effective cap_sys_admin)) (f.Refuse eacces) (push_effect stack (program_of bytes))))
    mode true = refuses einval
    mode false = may (not (creds.no_new_privs || has creds.effective cap_sys_admin))

roots_set_up : (rings : Bool) (creds : Creds) → MakesRooted (set_up_effect rings creds)
roots_set_up rings creds = roots_if rings (f.SetCreds 3 (after_set_up_ring creds)) (f.Refuse eperm)
    (roots_clear 3 (after_set_up_ring creds)) (refuses eperm)

roots_request : (host : Host) (caller : Caller) (request : Request) → MakesRooted (request_effect host caller request)
roots_request host caller (ask.Stat path) = roots_looks _
roots_request host caller (ask.Open path flags) = roots_looks _
roots_request host caller (ask.Socket family) = roots_socket caller.newer caller.creds _
roots_request host caller (ask.Mode mode) = gives 0

roots_submit : (host : Host) (caller : Caller) (request : Request) → MakesRooted (submit_effect host caller request)
roots_submit host caller request = roots_if caller.creds.ring (request_effect host caller request) (f.Refuse ebadf)
    (roots_request host caller request) (refuses ebadf)

pub roots_effect : (host : Host) (caller : Caller) (operation : Operation) → IsRooted caller.table → MakesRooted (effect_of host caller operation)
roots_effect host caller (d.See path) h = roots_looks _
roots_effect host caller (d.Open flags mode path) h = roots_looks _
roots_effect host caller (d.Create mode path) h = roots_looks _
roots_effect host caller (d.Truncate path) h = roots_looks _
roots_effect host caller (d.Execve path) h = roots_creds _
roots_effect host caller (d.SetMode mode) h = gives 0
roots_effect host caller (d.Map protection) h = roots_protect caller.creds protection
roots_effect host caller (d.Protect protection) h = roots_protect caller.creds protection
roots_effect host caller (d.Attach flags) h = roots_attach caller.creds flags
roots_effect host caller (d.Schedule policy) h = roots_looks _
roots_effect host caller (d.Personality persona) h = gives 0
roots_effect host caller (d.SetAttributes policy) h = roots_attributes caller.newer caller.creds policy
roots_effect host caller (d.Socket family) h = roots_socket caller.newer caller.creds _
roots_effect host caller (d.Socketcall op family) h = roots_socketcall caller.newer caller.creds op _
roots_effect host caller (d.Socketpair family) h = roots_socketpair caller.newer caller.creds family _
roots_effect host caller d.Enter h = refuses _
roots_effect host caller d.Fork h = child false
roots_effect host caller (d.Clone flags) h = roots_clone caller.creds flags
roots_effect host caller (d.Unshare flags) h = roots_unshare caller.creds flags
roots_effect host caller d.Exit h = record { rooted = tt }
roots_effect host caller (d.Mount source target flags) h =
    roots_if caller.owns (with_admin caller.creds (table_effect (after_mount host.rows caller.table source target flags)))
    (f.Refuse eperm) (roots_cap cap_sys_admin caller.creds
    (table_effect (after_mount host.rows caller.table source target flags))
    (roots_table (after_mount host.rows caller.table source target flags)
    (λ next e. rooted_mount host.rows caller.table next source target flags h e))) (refuses eperm)
roots_effect host caller (d.Umount path flags) h =
    roots_if caller.owns (with_admin caller.creds (table_effect (umount_answer caller.table path flags))) (f.Refuse eperm)
    (roots_cap cap_sys_admin caller.creds (table_effect (umount_answer caller.table path flags))
    (roots_table (umount_answer caller.table path flags) (λ next e. rooted_umount_call caller.table next path flags h e)))
    (refuses eperm)
roots_effect host caller (d.Setuid id) h = roots_if caller.newer (f.Refuse einval) (creds_effect (after_setuid caller.creds id))
    (refuses einval) (roots_creds _)
roots_effect host caller (d.Setgid id) h = roots_if caller.newer (f.Refuse einval) (creds_effect (after_setgid caller.creds id))
    (refuses einval) (roots_creds _)
roots_effect host caller (d.Setresuid real effective saved) h =
    roots_if caller.newer (cond ((real == no_id && effective == no_id) && saved == no_id) (f.Answer 0) (f.Refuse einval))
    (creds_effect (after_setresuid caller.creds real effective saved)) (roots_ids real effective saved) (roots_creds _)
roots_effect host caller (d.Setresgid real effective saved) h =
    roots_if caller.newer (cond ((real == no_id && effective == no_id) && saved == no_id) (f.Answer 0) (f.Refuse einval))
    (creds_effect (after_setresgid caller.creds real effective saved)) (roots_ids real effective saved) (roots_creds _)
roots_effect host caller (d.Setgroups ids) h = roots_if caller.newer (f.Refuse eperm) (creds_effect (after_setgroups caller.creds ids))
    (refuses eperm) (roots_creds _)
roots_effect host caller (d.Capset permitted effective inheritable) h = roots_creds _
roots_effect host caller (d.Prctl option value third fourth fifth) h = roots_prctl_of host.mdwe caller.creds option value third fourth fifth
roots_effect host caller (d.Seccomp op flags bytes) h = roots_seccomp caller.creds caller.stack op flags bytes
roots_effect host caller d.SetUpRing h = roots_set_up host.rings caller.creds
roots_effect host caller (d.Submit request) h = roots_submit host caller request
roots_effect host caller (d.Plain cap) h = roots_alone caller.newer cap caller.creds 0

-- a process in its namespace, whatever else of it changes
pub spaced : (count : ℕ) (process now : Process) → HasSpace count process → now.namespace ≡ process.namespace → HasSpace count now
spaced count process now h e =
    record { numbered = subst (λ (n : ℕ). 1 ≤ n) (sym e) h.numbered; within = subst (λ (n : ℕ). n ≤ count) (sym e) h.within }

more_space : (count : ℕ) (process : Process) → HasSpace count process → HasSpace (count + 1) process
more_space count process h = record { numbered = h.numbered; within = omega (arith, h.within) }

new_space : (count : ℕ) (process : Process) → HasSpace (count + 1) (moved_to process count)
new_space count process = record { numbered = omega arith; within = omega arith }

pub kernel_process : (world : World) (pid : ℕ) (process : Process) → Kernel world → HasSpace (length world.namespaces) process
    → Kernel (with_process world pid process)
kernel_process world pid process k h = record {
  few_processes = subst (λ (n : ℕ). n ≤ most_processes) (sym (length-set world.processes (pid - 1) process)) k.few_processes;
  few_namespaces = k.few_namespaces;
  spaces = each-set (HasSpace (length world.namespaces)) world.processes (pid - 1) process k.spaces h;
  roots = k.roots;
}

pub kernel_table : (world : World) (namespace : ℕ) (table : Table) → Kernel world → IsRooted table
    → Kernel (with_table world namespace table)
kernel_table world namespace table k h =
    let put = with_other_table (namespace_of world namespace) table in
    let same = length-set world.namespaces (namespace - 1) put in
    record {
      few_processes = k.few_processes;
      few_namespaces = subst (λ (n : ℕ). n ≤ most_namespaces) (sym same) k.few_namespaces;
      spaces = subst (λ (n : ℕ). AllByRecursion (HasSpace n) world.processes) (sym same) k.spaces;
      roots = each-set HasRoot world.namespaces (namespace - 1) put k.roots h;
    }

kernel_child : (world : World) (child : Process) → Kernel world → length world.processes < most_processes
    → HasSpace (length world.namespaces) child → Kernel (with_child world child)
kernel_child world child k room h = record {
  few_processes = subst (λ (n : ℕ). n ≤ most_processes) (sym (length-push world.processes child)) (let more : length world.processes + 1 ≤ most_processes = omega (arith, room) in more);
  few_namespaces = k.few_namespaces;
  spaces = each-append (HasSpace (length world.namespaces)) world.processes (child ∷ []) k.spaces (h, tt);
  roots = k.roots;
}

-- a locked copy has its entries at the same places
rooted_locked : (table : Table) → IsRooted table → IsRooted (locked_copy table)
rooted_locked table h = subst AreRooted (sym (locked_steps table)) h

rooted_copied : (locked : Bool) (table : Table) → IsRooted table → IsRooted (copied locked table)
rooted_copied false table h = h
rooted_copied true table h = rooted_locked table h

kernel_copy : (world : World) (namespace user : ℕ) → Kernel world → length world.namespaces < most_namespaces
    → IsRooted (mounts_of world namespace) → Kernel (with_copy world namespace user)
kernel_copy world namespace user k room h =
    let copy = copy_for (namespace_of world namespace) user in
    let more = length-push world.namespaces copy in
    record {
      few_processes = k.few_processes;
      few_namespaces = subst (λ (n : ℕ). n ≤ most_namespaces) (sym more) (let fits : length world.namespaces + 1 ≤ most_namespaces = omega (arith, room) in fits);
      spaces = subst (λ (n : ℕ). AllByRecursion (HasSpace n) world.processes) (sym more)
          (each-map (HasSpace (length world.namespaces)) (HasSpace (length world.namespaces + 1)) world.processes
          (more_space (length world.namespaces)) k.spaces);
      roots = each-append HasRoot world.namespaces (copy ∷ []) k.roots
          (rooted_copied (not (owner_of world namespace == user)) (mounts_of world namespace) h, tt);
    }

-- the process in the new namespace
moved_space : (world : World) (namespace user : ℕ) (process : Process)
    → HasSpace (length (with_copy world namespace user).namespaces) (moved_to process (length world.namespaces))
moved_space world namespace user process =
    subst (λ (n : ℕ). HasSpace n (moved_to process (length world.namespaces)))
    (sym (length-push world.namespaces (copy_for (namespace_of world namespace) user)))
    (new_space (length world.namespaces) process)

kernel_effect : (world : World) (pid : ℕ) (process : Process) (effect : Effect) (out : Reply × World) → Kernel world
    → HasSpace (length world.namespaces) process → IsRooted (mounts_of world process.namespace) → MakesRooted effect
    → EffectCase world pid process effect out → Kernel out.1
kernel_effect world pid process effect out k h t r (case.refuses errno) = k
kernel_effect world pid process effect out k h t r (case.answers value) = k
kernel_effect world pid process effect out k h t r (case.takes_creds value creds) =
    kernel_process world pid (record process { creds = creds }) k
    (spaced (length world.namespaces) process (record process { creds = creds }) h refl)
kernel_effect world pid process effect out k h t r (case.takes_table table) = kernel_table world process.namespace table k r.rooted
kernel_effect world pid process effect out k h t r (case.takes_program program) =
    kernel_process world pid (record process { stack = process.stack ++ program ∷ [] }) k
    (spaced (length world.namespaces) process (record process { stack = process.stack ++ program ∷ [] }) h refl)
kernel_effect world pid process effect out k h t r (case.no_process_left own full) = k
kernel_effect world pid process effect out k h t r (case.shares room) = kernel_child world process k room h
kernel_effect world pid process effect out k h t r (case.no_namespace_for_child room full) = k
kernel_effect world pid process effect out k h t r (case.gives_copy room space) =
    kernel_child (with_copy world process.namespace process.user) (moved_to process (length world.namespaces))
    (kernel_copy world process.namespace process.user k space t) room (moved_space world process.namespace process.user process)
kernel_effect world pid process effect out k h t r (case.no_namespace_left full) = k
kernel_effect world pid process effect out k h t r (case.moves space) =
    kernel_process (with_copy world process.namespace process.user) pid (moved_to process (length world.namespaces))
    (kernel_copy world process.namespace process.user k space t) (moved_space world process.namespace process.user process)
kernel_effect world pid process effect out k h t r (case.no_user_for_child own full) = k
kernel_effect world pid process effect out k h t r (case.no_process_for_user own left full) = k
kernel_effect world pid process effect out k h t r (case.gives_user left room) =
    kernel_child (with_user world) (entered_by process world.users) k room
    (spaced (length world.namespaces) process (entered_by process world.users) h refl)
kernel_effect world pid process effect out k h t r (case.no_namespace_for_user left room full) = k
kernel_effect world pid process effect out k h t r (case.gives_user_and_copy left room space) =
    kernel_child (with_copy (with_user world) process.namespace (world.users + 2))
    (moved_to (entered_by process world.users) (length world.namespaces))
    (kernel_copy (with_user world) process.namespace (world.users + 2) k space t) room
    (moved_space (with_user world) process.namespace (world.users + 2) (entered_by process world.users))
kernel_effect world pid process effect out k h t r (case.no_user_left own full) = k
kernel_effect world pid process effect out k h t r (case.enters left) =
    kernel_process (with_user world) pid (entered_by process world.users) k
    (spaced (length world.namespaces) process (entered_by process world.users) h refl)
kernel_effect world pid process effect out k h t r (case.no_namespace_behind_user left full) = k
kernel_effect world pid process effect out k h t r (case.enters_and_moves left space) =
    kernel_process (with_copy (with_user world) process.namespace (world.users + 2)) pid
    (moved_to (entered_by process world.users) (length world.namespaces))
    (kernel_copy (with_user world) process.namespace (world.users + 2) k space t)
    (moved_space (with_user world) process.namespace (world.users + 2) (entered_by process world.users))
kernel_effect world pid process effect out k h t r case.ends =
    kernel_process world pid (ended process) k (spaced (length world.namespaces) process (ended process) h refl)

-- a process of a kernel has a table, and it is rooted
rooted_or : (namespaces : List MountNamespace) (number : ℕ) → AllByRecursion HasRoot namespaces → 1 ≤ number → number ≤ length namespaces
    → HasRoot (namespace_or (of_number namespaces number))
rooted_or namespaces number all one within = by (number - 1) (length namespaces) namespaces (nonzero number one) (omega (arith, one, within)) refl all
  where
    nonzero : (n : ℕ) → 1 ≤ n → (n == 0) ≡ false
    nonzero n h = grind (arith, h)

    get : (xs : List MountNamespace) (i : ℕ) → i < length xs → AllByRecursion HasRoot xs → HasRoot (namespace_or (slice_get xs i))
    get [] i lt all = absurd (omega (arith, lt))
    get (x ∷ xs) zero lt all = all.0
    get (x ∷ xs) (suc i) lt all = let less : i < length xs = omega (arith, lt) in get xs i less all.1

    by : (i n : ℕ) (xs : List MountNamespace) → (number == 0) ≡ false → i < n → n ≡ length xs → AllByRecursion HasRoot xs
        → HasRoot (namespace_or (cond (number == 0) None (slice_get xs i)))
    by i n xs zero_not lt is all = rw zero_not (get xs i (subst (λ (m : ℕ). i < m) is lt) all)

pub rooted_table : (world : World) (process : Process) → Kernel world → HasSpace (length world.namespaces) process
    → IsRooted (mounts_of world process.namespace)
rooted_table world process k h = rooted_or world.namespaces process.namespace k.roots h.numbered h.within

pub living_space : (world : World) (pid : ℕ) (process : Process) → Kernel world → living_of world pid ≡ Some process
    → HasSpace (length world.namespaces) process
living_space world pid process k living = each-get (HasSpace (length world.namespaces)) world.processes (pid - 1) process k.spaces
    (living_get world pid process living)

kernel_case : (world : World) (call : Call) (out : Reply × World) → Kernel world → StepCase world call out → Kernel out.1
kernel_case world call out k (case.absent e) = k
kernel_case world call out k (case.filtered process errno living e) = k
kernel_case world call out k (case.killed process living e) =
    kernel_process world call.pid (ended process) k
    (spaced (length world.namespaces) process (ended process) (living_space world call.pid process k living) refl)
kernel_case world call out k (case.lacking process passes e) = k
kernel_case world call out k (case.misformed process passes e) = k
kernel_case world call out k (case.does process operation made passes e h) =
    let space = living_space world call.pid process k passes.living in
    let table = rooted_table world process k space in
    kernel_effect world call.pid process (effect_of (host_of world) (caller_of world process) operation) made k space table
    (roots_effect (host_of world) (caller_of world process) operation table) h

pub kernel_step : (world : World) (call : Call) → Kernel world → Kernel (step world call).1
kernel_step world call k = kernel_case world call (step world call) k (steps_by_cases world call)

pub worlds_stay : WorldsStay
worlds_stay world k [] = k
worlds_stay world k (call ∷ calls) = worlds_stay (step world call).1 (kernel_step world call k) calls

-- and what the kernel is told

told_effect : (world : World) (pid : ℕ) (process : Process) (effect : Effect) (out : Reply × World)
    → EffectCase world pid process effect out → (out.1.calls ≡ world.calls) × (out.1.site ≡ world.site)
told_effect world pid process effect out (case.refuses errno) = (refl, refl)
told_effect world pid process effect out (case.answers value) = (refl, refl)
told_effect world pid process effect out (case.takes_creds value creds) = (refl, refl)
told_effect world pid process effect out (case.takes_table table) = (refl, refl)
told_effect world pid process effect out (case.takes_program program) = (refl, refl)
told_effect world pid process effect out (case.no_process_left own full) = (refl, refl)
told_effect world pid process effect out (case.shares room) = (refl, refl)
told_effect world pid process effect out (case.no_namespace_for_child room full) = (refl, refl)
told_effect world pid process effect out (case.gives_copy room space) = (refl, refl)
told_effect world pid process effect out (case.no_namespace_left full) = (refl, refl)
told_effect world pid process effect out (case.moves space) = (refl, refl)
told_effect world pid process effect out (case.no_user_for_child own full) = (refl, refl)
told_effect world pid process effect out (case.no_process_for_user own left full) = (refl, refl)
told_effect world pid process effect out (case.gives_user left room) = (refl, refl)
told_effect world pid process effect out (case.no_namespace_for_user left room full) = (refl, refl)
told_effect world pid process effect out (case.gives_user_and_copy left room space) = (refl, refl)
told_effect world pid process effect out (case.no_user_left own full) = (refl, refl)
told_effect world pid process effect out (case.enters left) = (refl, refl)
told_effect world pid process effect out (case.no_namespace_behind_user left full) = (refl, refl)
told_effect world pid process effect out (case.enters_and_moves left space) = (refl, refl)
told_effect world pid process effect out case.ends = (refl, refl)

told_case : (world : World) (call : Call) (out : Reply × World) → StepCase world call out
    → (out.1.calls ≡ world.calls) × (out.1.site ≡ world.site)
told_case world call out (case.absent e) = (refl, refl)
told_case world call out (case.filtered process errno living e) = (refl, refl)
told_case world call out (case.killed process living e) = (refl, refl)
told_case world call out (case.lacking process passes e) = (refl, refl)
told_case world call out (case.misformed process passes e) = (refl, refl)
told_case world call out (case.does process operation made passes e h) =
    told_effect world call.pid process (effect_of (host_of world) (caller_of world process) operation) made h

pub told_stays : ToldStays
told_stays world [] = (refl, refl)
told_stays world (call ∷ calls) =
    let later = told_stays (step world call).1 calls in
    let now = told_case world call (step world call) (steps_by_cases world call) in
    (later.0 ∙ now.0, later.1 ∙ now.1)
