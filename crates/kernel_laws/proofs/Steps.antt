-- No effect of a call that uses only what may be used leaves closed bounds.
use Rattle.std.proofs.Common.{◌≡◌, ℕ, Bool, true, false, List, Option, Some, None, Result, Ok, Err, arith, refl, cond, sym, subst, eqb}
use Rattle.std.specs.Prelude.{not, nat_lt, nat_le, ◌&&◌, ◌||◌, ◌+◌, length}
use Rattle.std.proofs.lemmas.Bool.{and_from}
use Rattle.kernel_model.specs.abs_path.Paths.{Path}
use Rattle.filter_settings.specs.bpf_code.declared.machine.Insn.{Insn}
use Rattle.filter_settings.specs.bpf_code.ProgramOf.{program_of}
use Rattle.filter_settings.specs.bpf_code.Stack.{room_of}
use Rattle.kernel_model.specs.cap_sets.Sets.{has, IsWithin, within}
use Rattle.kernel_model.proofs.OfCapSets.Members.{within_through, IsWithin-from_within}
use Rattle.filter_settings.specs.call_table.declared.listed.CallLine.{CallLine}
use Rattle.kernel_model.specs.site_table.declared.row.Row.{Row}
use Rattle.kernel_model.specs.site_table.Table.{row_at}
use Rattle.kernel_model.specs.kern_creds.declared.creds.Creds.{Creds}
use Rattle.kernel_model.specs.kern_creds.declared.file.FileCreds.{FileCreds}
use Rattle.kernel_model.specs.kern_creds.Exec.{honours, is_refused, after_exec}
use Rattle.kernel_model.specs.kern_creds.Prctl.{after_drop_bounding, after_raise, after_lower, after_clear_ambient, after_set_keepcaps}
use Rattle.kernel_model.specs.kern_creds.Prctl.{after_set_no_new_privs, after_set_mdwe}
use Rattle.kernel_model.specs.kern_creds.Ring.{after_set_up_ring}
use Rattle.kernel_model.proofs.OfKernCreds.Answers.{Leaves}
use Rattle.kernel_model.specs.kern_mounts.Finds.{Found, row, empty_directory, nothing, finds}
use Rattle.kernel_model.specs.kern_files.Bits.{has_some, has_all}
use Rattle.kernel_laws.specs.Bounds.{Bounds, Keeps}
use Rattle.kernel_model.specs.kern_mounts.Split.{Table}
use Rattle.kernel_model.specs.kern_mounts.Umount.{after_umount}
use Rattle.kernel_model.specs.kern_files.MountCall.{after_mount}
use Rattle.kernel_model.proofs.MountsCall.{umount_does, mount_stays_plain, umount_stays_plain}
use Rattle.kernel_model.specs.kern_mounts.Mounts.{Mounts, steps_of}
use Rattle.kernel_model.specs.kernel_calls.Operation as d
use Rattle.kernel_model.specs.kernel_calls.Operation.{Operation}
use Rattle.kernel_model.specs.Effects.{Effect, Refuse, Answer, SetCreds, Push, Child, OwnTable, UserChild, OwnUser, Caller, effect_of}
use Rattle.kernel_model.specs.Effects.{looks, creds_effect, table_effect, with_cap_of, with_admin, socket_effect, clone_effect}
use Rattle.kernel_model.specs.Effects.{unshare_effect, ambient_effect, prctl_effect, push_effect, seccomp_effect, newuser, other_spaces}
use Rattle.kernel_model.specs.Effects.{newns, socketcall_effect, protect_effect, attach_effect, set_mdwe_effect, prctl_effect_of}
use Rattle.kernel_model.specs.Effects.{attributes_effect, schedule_answer, sockets_effect, socketpair_effect, no_pair}
use Rattle.kernel_model.specs.Effects.{Host, set_up_effect, request_effect}
use Rattle.kernel_model.specs.declared.kernel_calls.request.Request.{Request}
use Rattle.kernel_model.specs.declared.kernel_calls.request.Request.TheVariants as ask
use Rattle.kernel_model.specs.kern_files.Looking.{flags_at}
use Rattle.kernel_model.specs.declared.kern_files.program.Program.{Program}
use Rattle.kernel_model.specs.kern_files.Executing.{marks_of, program_answer, executed, exec_answer}
use Rattle.kernel_model.specs.kern_files.UmountCall.{umount_answer, mnt_detach}
use Rattle.kernel_laws.specs.declared.question_types.power.Power.{Power}
use Rattle.kernel_laws.specs.declared.question_types.power.Power.TheVariants.{None as Nowise, Unmount as Unmounting, Mount as Mounting}
use Rattle.kernel_laws.specs.declared.question_types.kind.CallKind.{CallKind}
use Rattle.filter_settings.specs.linux_numbers.declared.namespaces.NamespaceType.TheVariants.{User}
use Rattle.kernel_laws.specs.declared.question_types.kind.CallKind.TheVariants as k
use Rattle.kernel_laws.specs.Kinds.{asks}
use Rattle.kernel_laws.specs.Launched.{Launch, lets}
use Rattle.kernel_laws.specs.Ceiling.{CanHave, CanHold, IsClosed, IsSafe}
use Rattle.kernel_laws.specs.Spared.{Uses}
use Rattle.kernel_laws.proofs.MaskBits.{user_flag}
use Rattle.kernel_laws.proofs.Kept.{kept-clear_ambient, kept-no_new_privs, kept-keepcaps, kept-lower, kept-drop_bounding, kept-raise}
use Rattle.kernel_laws.proofs.Kept.{kept-capset, kept-mdwe, kept-ring}
use Rattle.kernel_laws.proofs.KeptIds.{kept-setuid, kept-setresuid, kept-setgid, kept-setresgid, kept-setgroups}
use Rattle.kernel_laws.proofs.KeptExec.{kept-exec, off}
use Rattle.kernel_laws.proofs.Ran.{ran_program}
use Rattle.kernel_model.proofs.OfKernMounts.Unmounting.{trims, trimmed_through, trimmed_top}

module _ (launch : Launch) (may_uids may_gids : Bool) (power : Power) (top : Bounds) (below : Mounts → Type 0) (closed : IsClosed launch may_uids may_gids power top) where
  abbrev Safe : Effect → Type 0
  Safe = IsSafe launch power top below false true

  safe_creds : (answer : Result Creds ℕ) → Leaves (Keeps top) answer → Safe (creds_effect answer)
  safe_creds (Ok creds) l = l.held creds refl
  safe_creds (Err errno) l = tt

  safe_if : (b : Bool) (x y : Effect) → (b ≡ true → Safe x) → (b ≡ false → Safe y) → Safe (cond b x y)
  safe_if true x y p q = p refl
  safe_if false x y p q = q refl

  safe_admin : (creds : Creds) (effect : Effect) → Keeps top creds → (has top.effective 21 ≡ true → Safe effect)
      → Safe (with_admin creds effect)
  safe_admin creds effect held h = safe_if (has creds.effective 21) effect (Refuse 1) (λ e. h (held.effective.each 21 e)) (λ e. tt)

  safe_looks : (answer : Result ℕ ℕ) → Safe (looks answer)
  safe_looks (Ok value) = tt
  safe_looks (Err errno) = tt

  safe_cap_of : (cap' : Option ℕ) (creds : Creds) (value : ℕ) → Safe (with_cap_of cap' creds (Answer value))
  safe_cap_of None creds value = tt
  safe_cap_of (Some number) creds value = safe_if (has creds.effective number) (Answer value) (Refuse 1) (λ e. tt) (λ e. tt)

  safe_attributes : (creds : Creds) (policy : ℕ) → Safe (attributes_effect false creds policy)
  safe_attributes creds policy = safe_if (has creds.effective 23) (looks (schedule_answer policy)) (Refuse 1) (λ e. safe_looks _) (λ e. tt)

  safe_sockets : (value : ℕ) (creds : Creds) (line : Option CallLine) → Safe (sockets_effect value false creds line)
  safe_sockets value creds None = tt
  safe_sockets value creds (Some line) = safe_cap_of line.cap creds value

  safe_socket : (creds : Creds) (line : Option CallLine) → Safe (socket_effect false creds line)
  safe_socket creds line = safe_sockets 3 creds line

  safe_unpaired : (line : Option CallLine) → Safe (no_pair line)
  safe_unpaired None = tt
  safe_unpaired (Some line) = tt

  safe_socketpair : (creds : Creds) (family : ℕ) (line : Option CallLine) → Safe (socketpair_effect false creds family line)
  safe_socketpair creds family line =
      safe_if (eqb family 1) (sockets_effect 0 false creds line) (no_pair line) (λ e. safe_sockets 0 creds line) (λ e. safe_unpaired line)

  safe_socketcall : (creds : Creds) (op : ℕ) (line : Option CallLine) → Safe (socketcall_effect false creds op line)
  safe_socketcall creds op line =
      safe_if (eqb op 1) (socket_effect false creds line) _ (λ e. safe_socket creds line) λ e. safe_if
      (nat_le 2 op && nat_le op 20) (Answer 0) (Refuse 22) (λ e. tt) (λ e. tt)

  not_refused : (creds : Creds) (file : FileCreds) (nosuid : Bool) → Keeps top creds → honours creds nosuid ≡ true
      → is_refused creds file nosuid ≡ false → file.effective ≡ true → IsWithin file.caps top.bounding
  not_refused creds file nosuid held h r e =
      let is : within file.caps creds.bounding ≡ true = grind arith in
      within_through _ _ _ (IsWithin-from_within file.caps creds.bounding is) held.bounding

  safe_exec : (creds : Creds) (table : Table) (path : Path) → Keeps top creds → CanHave power launch.table table → (found : Found Row)
      → finds (row_at launch.site.rows) table path ≡ found → Safe (creds_effect (exec_answer creds (flags_at table path) found))
  safe_exec creds table path held allowed (nothing errno) e = tt
  safe_exec creds table path held allowed empty_directory e = tt
  safe_exec creds table path held allowed (row target) e = by (program_answer (flags_at table path) (row target)) refl
    where
      by : (answer : Result Program ℕ) → program_answer (flags_at table path) (row target) ≡ answer
          → Safe (creds_effect (executed creds answer))
      by (Err errno) is = tt
      by (Ok program) is =
          let ran = ran_program (flags_at table path) target program is in
          let P : Program → Type 0 = λ p. Safe (creds_effect (after_exec creds p.file p.no_suid)) in
          subst P (sym ran.is) (safe_creds _ (kept-exec top creds (marks_of target) (flags_at table path).no_suid held closed.settled λ h r.
          closed.files target
          (off top.no_new_privs creds.no_new_privs held.no_new_privs (grind arith))
          (record { table = table; path = path; allowed = allowed; found = e; exe = ran.exe; runs = ran.runs; suid = grind arith })
          (not_refused creds (marks_of target) (flags_at table path).no_suid held h r)))

  safe_clone : (creds : Creds) (flags : ℕ) → Keeps top creds → (has_all newuser flags ≡ true → lets launch (k.ForNamespace User) ≡ true)
      → Safe (clone_effect creds flags)
  safe_clone creds flags held user =
      safe_if (has_some 0x1_0000 flags) (Refuse 22) _ (λ e. tt) λ e. safe_if (has_some newuser flags) (UserChild (has_some newns flags)) _
      (λ e. user (user_flag flags e)) λ e.
      safe_if (has_some other_spaces flags) (with_admin creds (Child (has_some newns flags))) (Child false)
      (λ e. safe_admin creds (Child (has_some newns flags)) held (λ h. tt)) (λ e. tt)

  safe_unshare : (creds : Creds) (flags : ℕ) → Keeps top creds → (has_all newuser flags ≡ true → lets launch (k.ForNamespace User) ≡ true)
      → Safe (unshare_effect creds flags)
  safe_unshare creds flags held user =
      safe_if (has_some 0x81fd_ffff flags) (Refuse 22) _ (λ e. tt) λ e. safe_if (has_some newuser flags)
      (OwnUser (has_some newns flags)) _ (λ e. user (user_flag flags e)) λ e.
      safe_if (has_some other_spaces flags) (with_admin creds (cond (has_some newns flags) OwnTable (Answer 0))) (Answer 0)
      (λ e. safe_admin creds (cond (has_some newns flags) OwnTable (Answer 0)) held
      (λ h. safe_if (has_some newns flags) OwnTable (Answer 0) (λ e. tt) (λ e. tt))) (λ e. tt)

  safe_ambient : (creds : Creds) (op cap' : ℕ) → Keeps top creds → Safe (ambient_effect creds op cap')
  safe_ambient creds op cap' held =
      safe_if (eqb op 1) (cond (nat_lt 40 cap') (Refuse 22) (Answer (cond (has creds.ambient cap') 1 0))) _
      (λ e. safe_if (nat_lt 40 cap') (Refuse 22) (Answer (cond (has creds.ambient cap') 1 0)) (λ e. tt) (λ e. tt)) λ e.
      safe_if (eqb op 2) (creds_effect (after_raise creds cap')) _ (λ e. safe_creds _ (kept-raise top creds held cap')) λ e.
      safe_if (eqb op 3) (creds_effect (after_lower creds cap')) _ (λ e. safe_creds _ (kept-lower top creds held cap')) λ e.
      safe_if (eqb op 4) (SetCreds 0 (after_clear_ambient creds)) (Refuse 22) (λ e. kept-clear_ambient top creds held) (λ e. tt)

  safe_prctl : (creds : Creds) (option value third : ℕ) → Keeps top creds → Safe (prctl_effect creds option value third)
  safe_prctl creds option value third held =
      safe_if (eqb option 38) (cond (eqb value 1) (SetCreds 0 (after_set_no_new_privs creds)) (Refuse 22)) _
      (λ e. safe_if (eqb value 1) (SetCreds 0 (after_set_no_new_privs creds)) (Refuse 22) (λ e. kept-no_new_privs top creds held) (λ e. tt))
      λ e.
      safe_if (eqb option 39) (Answer (cond creds.no_new_privs 1 0)) _ (λ e. tt) λ e.
      safe_if (eqb option 8) (cond (nat_lt value 2) (SetCreds 0 (after_set_keepcaps creds (eqb value 1))) (Refuse 22)) _
      (λ e. safe_if (nat_lt value 2) (SetCreds 0 (after_set_keepcaps creds (eqb value 1))) (Refuse 22)
      (λ e. kept-keepcaps top creds held (eqb value 1)) (λ e. tt)) λ e.
      safe_if (eqb option 24) (creds_effect (after_drop_bounding creds value)) _
      (λ e. safe_creds _ (kept-drop_bounding top creds held value)) λ e.
      safe_if (eqb option 47) (ambient_effect creds value third) (Refuse 22) (λ e. safe_ambient creds value third held) (λ e. tt)

  safe_set_mdwe : (creds : Creds) (value : ℕ) (alone : Bool) → Keeps top creds → Safe (set_mdwe_effect creds value alone)
  safe_set_mdwe creds value alone held =
      safe_if (not alone) (Refuse 22) _ (λ e. tt) λ e.
      safe_if (eqb value 1) (SetCreds 0 (after_set_mdwe creds)) _ (λ e. kept-mdwe top creds held) λ e.
      safe_if (eqb value 0) (cond creds.mdwe (Refuse 1) (Answer 0)) (Refuse 22)
      (λ e. safe_if creds.mdwe (Refuse 1) (Answer 0) (λ e. tt) (λ e. tt)) (λ e. tt)

  safe_prctl_of : (mdwe : Bool) (creds : Creds) (option value third fourth fifth : ℕ) → Keeps top creds
      → Safe (prctl_effect_of mdwe creds option value third fourth fifth)
  safe_prctl_of mdwe creds option value third fourth fifth held =
      safe_if (eqb option 65 && mdwe) (set_mdwe_effect creds value ((eqb third 0 && eqb fourth 0) && eqb fifth 0)) _
      (λ e. safe_set_mdwe creds value ((eqb third 0 && eqb fourth 0) && eqb fifth 0) held) λ e.
      safe_if (eqb option 66 && mdwe) (Answer (cond creds.mdwe 1 0)) (prctl_effect creds option value third) (λ e. tt)
      (λ e. safe_prctl creds option value third held)

  safe_protect : (creds : Creds) (protection : ℕ) → Safe (protect_effect creds protection)
  safe_protect creds protection = safe_if (has_all 6 protection && creds.mdwe) (Refuse 13) (Answer 0) (λ e. tt) (λ e. tt)

  safe_attach : (creds : Creds) (flags : ℕ) → Safe (attach_effect creds flags)
  safe_attach creds flags = safe_if ((has_all 0x8000 flags && not (has_all 0x1000 flags)) && creds.mdwe) (Refuse 13) (Answer 0) (λ e. tt)
      (λ e. tt)

  safe_set_up : (rings : Bool) (creds : Creds) → Keeps top creds → (rings ≡ true → top.ring ≡ true) → Safe (set_up_effect rings creds)
  safe_set_up rings creds held on = safe_if rings (SetCreds 3 (after_set_up_ring creds)) (Refuse 1) (λ e. kept-ring top creds held (on e))
      (λ e. tt)

  safe_request : (host : Host) (creds : Creds) (stack : List (List Insn)) (table : Mounts) (request : Request)
      → Safe (request_effect host (record { creds = creds; stack = stack; table = table; newer = false; owns = true }) request)
  safe_request host creds stack table (ask.Stat path) = safe_looks _
  safe_request host creds stack table (ask.Open path flags) = safe_looks _
  safe_request host creds stack table (ask.Socket family) = safe_socket creds _
  safe_request host creds stack table (ask.Mode mode) = tt

  safe_push : (stack : List (List Insn)) (program : Option (List Insn)) → Safe (push_effect stack program)
  safe_push stack None = tt
  safe_push stack (Some program) = safe_if (nat_le (room_of stack + length program) 32768) (Push program) (Refuse 12) (λ e. tt) (λ e. tt)

  safe_seccomp : (creds : Creds) (stack : List (List Insn)) (op flags : ℕ) (bytes : List ℕ)
      → Safe (seccomp_effect creds stack op flags bytes)
  safe_seccomp creds stack op flags bytes =
      safe_if (not (eqb op 1 && eqb flags 0)) (Refuse 22) _ (λ e. tt) λ e. safe_if
      (not (creds.no_new_privs || has creds.effective 21)) (Refuse 13) (push_effect stack (program_of bytes)) (λ e. tt)
      (λ e. safe_push stack _)

  mounted : (table : Table) → power ≡ Mounting → CanHave power launch.table table
  mounted table e = let P : Power → Type 0 = λ power. CanHave power launch.table table in subst P (sym e) tt

  unmounted : (own : Power) (mounts next : Mounts) (path : Path) (detach : Bool) → (own ≡ Nowise → ⊥)
      → CanHave own launch.table (steps_of mounts) → after_umount mounts path detach ≡ Ok next → CanHave own launch.table (steps_of next)
  unmounted Nowise mounts next path detach barred allowed e = absurd (barred refl)
  unmounted Unmounting mounts next path detach barred allowed e =
      trimmed_through (trims path detach mounts next (trimmed_top allowed closed.rooted) e) allowed
  unmounted Mounting mounts next path detach barred allowed e = tt

  safe_table : (answer : Result Mounts ℕ) → ((mounts : Mounts) → answer ≡ Ok mounts → CanHold power launch.table mounts)
      → Safe (table_effect answer)
  safe_table (Ok mounts) h = h mounts refl
  safe_table (Err errno) h = tt

  safe_umount : (mounts : Mounts) (path : Path) (flags : ℕ) → CanHold power launch.table mounts → (power ≡ Nowise → ⊥)
      → Safe (table_effect (umount_answer mounts path flags))
  safe_umount mounts path flags allowed h = safe_table (umount_answer mounts path flags) (λ next e. record {
    plain = umount_stays_plain mounts next path flags allowed.plain e;
    entries = unmounted power mounts next path (eqb flags mnt_detach) h allowed.entries (umount_does mounts next path flags e);
  })

  safe_mount : (mounts : Mounts) (source target : Path) (flags : ℕ) → CanHold power launch.table mounts → power ≡ Mounting
      → Safe (table_effect (after_mount (row_at launch.site.rows) mounts source target flags))
  safe_mount mounts source target flags allowed h = safe_table (after_mount (row_at launch.site.rows) mounts source target flags)
      (λ next e. record {
        plain = mount_stays_plain (row_at launch.site.rows) mounts next source target flags allowed.plain e;
        entries = mounted (steps_of next) h;
      })

  -- the kinds that a call asks for are let through
  abbrev pub Through : Operation → Type 0
  Through operation = (kind : CallKind) → asks kind operation ≡ true → lets launch kind ≡ true

  -- a process of the first user namespace, whose mount namespace belongs to that
  abbrev pub first_caller : Creds → List (List Insn) → Mounts → Caller
  first_caller creds stack table = record { creds = creds; stack = stack; table = table; newer = false; owns = true }

  pub safe_effect : (families : List CallLine) (mdwe : Bool) (creds : Creds) (stack : List (List Insn)) (table : Mounts) (operation : Operation)
      → Keeps top creds → CanHold power launch.table table → Through operation → Uses may_uids may_gids creds operation
      → Safe (effect_of (record { rows = row_at launch.site.rows; families = families; mdwe = mdwe; rings = launch.site.io_uring }) (first_caller creds stack table) operation)
  safe_effect families mdwe creds stack table (d.See path) held allowed p u = safe_looks _
  safe_effect families mdwe creds stack table (d.Open flags mode path) held allowed p u = safe_looks _
  safe_effect families mdwe creds stack table (d.Create mode path) held allowed p u = safe_looks _
  safe_effect families mdwe creds stack table (d.Truncate path) held allowed p u = safe_looks _
  safe_effect families mdwe creds stack table (d.Execve path) held allowed p u =
      safe_exec creds (steps_of table) path held allowed.entries _ refl
  safe_effect families mdwe creds stack table (d.SetMode mode) held allowed p u = tt
  safe_effect families mdwe creds stack table (d.Map protection) held allowed p u = safe_protect creds protection
  safe_effect families mdwe creds stack table (d.Protect protection) held allowed p u = safe_protect creds protection
  safe_effect families mdwe creds stack table (d.Attach flags) held allowed p u = safe_attach creds flags
  safe_effect families mdwe creds stack table (d.Schedule policy) held allowed p u = safe_looks _
  safe_effect families mdwe creds stack table (d.Personality domain) held allowed p u = tt
  safe_effect families mdwe creds stack table (d.SetAttributes policy) held allowed p u = safe_attributes creds policy
  safe_effect families mdwe creds stack table (d.Socket family) held allowed p u = safe_socket creds _
  safe_effect families mdwe creds stack table (d.Socketcall op family) held allowed p u = safe_socketcall creds op _
  safe_effect families mdwe creds stack table (d.Socketpair family) held allowed p u = safe_socketpair creds family _
  safe_effect families mdwe creds stack table d.Enter held allowed p u = tt
  safe_effect families mdwe creds stack table d.Fork held allowed p u = tt
  safe_effect families mdwe creds stack table (d.Clone flags) held allowed p u = safe_clone creds flags held (p (k.ForNamespace User))
  safe_effect families mdwe creds stack table (d.Unshare flags) held allowed p u = safe_unshare creds flags held (p (k.ForNamespace User))
  safe_effect families mdwe creds stack table d.Exit held allowed p u = tt
  safe_effect families mdwe creds stack table (d.Mount source target flags) held allowed p u =
      safe_admin creds (table_effect (after_mount (row_at launch.site.rows) table source target flags)) held
      (λ h. safe_mount table source target flags allowed (closed.mount (p k.ChangesMounts refl) h))
  safe_effect families mdwe creds stack table (d.Umount path flags) held allowed p u =
      safe_admin creds (table_effect (umount_answer table path flags)) held
      (λ h. safe_umount table path flags allowed (closed.umount (p k.RemovesMounts refl) h))
  safe_effect families mdwe creds stack table (d.Setuid id) held allowed p u =
      safe_creds _ (kept-setuid top creds held closed.settled (λ h. closed.any_uid (u.0 refl h) (held.effective.each 7 h)) id)
  safe_effect families mdwe creds stack table (d.Setgid id) held allowed p u =
      safe_creds _ (kept-setgid top creds held (λ h. closed.any_gid (u.1 refl h) (held.effective.each 6 h)) id)
  safe_effect families mdwe creds stack table (d.Setresuid r e s) held allowed p u =
      safe_creds _ (kept-setresuid top creds held closed.settled (λ h. closed.any_uid (u.0 refl h) (held.effective.each 7 h)) r e s)
  safe_effect families mdwe creds stack table (d.Setresgid r e s) held allowed p u =
      safe_creds _ (kept-setresgid top creds held (λ h. closed.any_gid (u.1 refl h) (held.effective.each 6 h)) r e s)
  safe_effect families mdwe creds stack table (d.Setgroups ids) held allowed p u =
      safe_creds _ (kept-setgroups top creds held (λ h. closed.any_gid (u.1 refl h) (held.effective.each 6 h)) ids)
  safe_effect families mdwe creds stack table (d.Capset permitted effective inheritable) held allowed p u =
      safe_creds _ (kept-capset top creds held permitted effective inheritable (closed.capset_effective (p k.SetsCaps refl))
      (closed.capset_inheritable (p k.SetsCaps refl)))
  safe_effect families mdwe creds stack table (d.Prctl option value third fourth fifth) held allowed p u =
      safe_prctl_of mdwe creds option value third fourth fifth held
  safe_effect families mdwe creds stack table (d.Seccomp op flags bytes) held allowed p u = safe_seccomp creds stack op flags bytes
  safe_effect families mdwe creds stack table d.SetUpRing held allowed p u =
      safe_set_up launch.site.io_uring creds held (λ on. closed.ring (and_from _ _ on (p k.SetsUpRing refl)))
  safe_effect families mdwe creds stack table (d.Submit request) held allowed p u =
      let host : Host = record { rows = row_at launch.site.rows; families = families; mdwe = mdwe; rings = launch.site.io_uring } in
      safe_if creds.ring (request_effect host (first_caller creds stack table) request) (Refuse 9)
      (λ e. safe_request host creds stack table request) (λ e. tt)
  safe_effect families mdwe creds stack table (d.Plain cap') held allowed p u = safe_cap_of cap' creds 0
