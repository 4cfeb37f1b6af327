-- What a process in a newer user namespace does leaves the bounds on its ids, and on the tables of newer user namespaces.
use Rattle.std.proofs.Common.{◌≡◌, ℕ, Bool, true, false, List, Option, Some, None, Result, Ok, Err, refl, cond, eqb, subst, sym}
use Rattle.std.specs.Prelude.{◌&&◌, ◌||◌, ◌+◌, nat_lt, nat_le, length, not}
use Rattle.std.proofs.lemmas.Bool.{and_from}
use Rattle.kernel_model.specs.abs_path.Paths.{Path}
use Rattle.filter_settings.specs.bpf_code.declared.machine.Insn.{Insn}
use Rattle.filter_settings.specs.bpf_code.ProgramOf.{program_of}
use Rattle.filter_settings.specs.bpf_code.Stack.{room_of}
use Rattle.kernel_model.specs.cap_sets.Sets.{has}
use Rattle.filter_settings.specs.call_table.declared.listed.CallLine.{CallLine}
use Rattle.kernel_model.specs.site_table.Table.{row_at}
use Rattle.filter_settings.specs.linux_numbers.Limits.{no_id}
use Rattle.kernel_model.specs.kern_creds.declared.creds.Creds.{Creds}
use Rattle.kernel_model.specs.kern_creds.Prctl.{after_drop_bounding, after_raise, after_lower, after_clear_ambient, after_set_keepcaps}
use Rattle.kernel_model.specs.kern_creds.Prctl.{after_set_no_new_privs, after_set_mdwe}
use Rattle.kernel_model.proofs.OfKernCreds.Answers.{Leaves}
use Rattle.kernel_model.specs.kern_mounts.Finds.{finds}
use Rattle.kernel_model.specs.kern_mounts.Mounts.{Mounts as Table, steps_of}
use Rattle.kernel_model.specs.kern_files.Bits.{has_some, has_all}
use Rattle.kernel_model.specs.kern_files.Looking.{flags_at}
use Rattle.kernel_model.specs.kern_files.Executing.{program_answer, executed_in}
use Rattle.kernel_model.specs.kern_files.MountCall.{after_mount}
use Rattle.kernel_model.specs.kern_files.UmountCall.{umount_answer}
use Rattle.kernel_model.specs.declared.kern_files.program.Program.{Program}
use Rattle.kernel_model.specs.kernel_calls.Operation as d
use Rattle.kernel_model.specs.kernel_calls.Operation.{Operation}
use Rattle.kernel_model.specs.Effects.{Effect, Refuse, Answer, SetCreds, Push, Child, OwnTable, UserChild, OwnUser, Caller, effect_of}
use Rattle.kernel_model.specs.Effects.{looks, creds_effect, table_effect, first_alone, with_cap_of, with_admin, with_own, socket_effect}
use Rattle.kernel_model.specs.Effects.{socketcall_effect, clone_effect, unshare_effect, ambient_effect, prctl_effect, push_effect}
use Rattle.kernel_model.specs.Effects.{seccomp_effect, newuser, other_spaces, newns, protect_effect, attach_effect, set_mdwe_effect}
use Rattle.kernel_model.specs.Effects.{prctl_effect_of, attributes_effect, sockets_effect, socketpair_effect, no_pair}
use Rattle.kernel_model.specs.Effects.{Host, set_up_effect, request_effect}
use Rattle.kernel_model.specs.kern_creds.Ring.{after_set_up_ring}
use Rattle.kernel_model.specs.declared.kernel_calls.request.Request.{Request}
use Rattle.kernel_model.specs.declared.kernel_calls.request.Request.TheVariants as ask
use Rattle.kernel_laws.specs.Bounds.{Bounds, KeepsIds}
use Rattle.kernel_laws.specs.Ceiling.{TableIn, IsStable, IsSafe}
use Rattle.kernel_laws.specs.Kinds.{asks}
use Rattle.kernel_laws.specs.Launched.{Launch, lets, makes_ring}
use Rattle.kernel_laws.specs.declared.question_types.kind.CallKind.{CallKind}
use Rattle.filter_settings.specs.linux_numbers.declared.namespaces.NamespaceType.TheVariants.{User}
use Rattle.kernel_laws.specs.declared.question_types.power.Power.{Power}
use Rattle.kernel_laws.specs.declared.question_types.kind.CallKind.TheVariants as k
use Rattle.kernel_laws.proofs.MaskBits.{user_flag}
use Rattle.kernel_laws.proofs.Newer.{ids-clear_ambient, ids-no_new_privs, ids-keepcaps, ids-lower, ids-drop_bounding, ids-raise, ids-capset}
use Rattle.kernel_laws.proofs.Newer.{ids-exec, ids-mdwe, ids-ring}

module _ (launch : Launch) (power : Power) (top : Bounds) (below : Table → Type 0) (stable : IsStable launch power below) (ours : Bool) where
  abbrev Safe : Effect → Type 0
  Safe = IsSafe launch power top below true ours

  safe_creds : (answer : Result Creds ℕ) → Leaves (KeepsIds top) answer → Safe (creds_effect answer)
  safe_creds (Ok creds) l = l.held creds refl
  safe_creds (Err errno) l = tt

  safe_if : (b : Bool) (x y : Effect) → (b ≡ true → Safe x) → (b ≡ false → Safe y) → Safe (cond b x y)
  safe_if true x y p q = p refl
  safe_if false x y p q = q refl

  safe_admin : (creds : Creds) (effect : Effect) → Safe effect → Safe (with_admin creds effect)
  safe_admin creds effect h = safe_if (has creds.effective 21) effect (Refuse 1) (λ e. h) (λ e. tt)

  safe_looks : (answer : Result ℕ ℕ) → Safe (looks answer)
  safe_looks (Ok value) = tt
  safe_looks (Err errno) = tt

  safe_alone : (cap' : Option ℕ) (creds : Creds) (value : ℕ) → Safe (first_alone true cap' (with_cap_of cap' creds (Answer value)))
  safe_alone None creds value = tt
  safe_alone (Some number) creds value = tt

  safe_attributes : (creds : Creds) (policy : ℕ) → Safe (attributes_effect true creds policy)
  safe_attributes creds policy = tt

  safe_sockets : (value : ℕ) (creds : Creds) (line : Option CallLine) → Safe (sockets_effect value true creds line)
  safe_sockets value creds None = tt
  safe_sockets value creds (Some line) = safe_alone line.cap creds value

  safe_socket : (creds : Creds) (line : Option CallLine) → Safe (socket_effect true creds line)
  safe_socket creds line = safe_sockets 3 creds line

  safe_unpaired : (line : Option CallLine) → Safe (no_pair line)
  safe_unpaired None = tt
  safe_unpaired (Some line) = tt

  safe_socketpair : (creds : Creds) (family : ℕ) (line : Option CallLine) → Safe (socketpair_effect true creds family line)
  safe_socketpair creds family line =
      safe_if (eqb family 1) (sockets_effect 0 true creds line) (no_pair line) (λ e. safe_sockets 0 creds line) (λ e. safe_unpaired line)

  safe_socketcall : (creds : Creds) (op : ℕ) (line : Option CallLine) → Safe (socketcall_effect true creds op line)
  safe_socketcall creds op line =
      safe_if (eqb op 1) (socket_effect true creds line) _ (λ e. safe_socket creds line) λ e. safe_if
      (nat_le 2 op && nat_le op 20) (Answer 0) (Refuse 22) (λ e. tt) (λ e. tt)

  safe_exec : (creds : Creds) (answer : Result Program ℕ) → KeepsIds top creds → Safe (creds_effect (executed_in true creds answer))
  safe_exec creds (Err errno) held = tt
  safe_exec creds (Ok program) held = safe_creds _ (ids-exec top creds held program.file program.no_suid)

  module _ (creds : Creds) (flags : ℕ) (user : has_all newuser flags ≡ true → lets launch (k.ForNamespace User) ≡ true) where
    safe_clone : Safe (clone_effect creds flags)
    safe_clone =
        safe_if (has_some 0x1_0000 flags) (Refuse 22) _ (λ e. tt) λ e. safe_if (has_some newuser flags)
        (UserChild (has_some newns flags)) _ (λ e. user (user_flag flags e)) λ e.
        safe_if (has_some other_spaces flags) (with_admin creds (Child (has_some newns flags))) (Child false)
        (λ e. safe_admin creds (Child (has_some newns flags)) tt) (λ e. tt)

    safe_unshare : Safe (unshare_effect creds flags)
    safe_unshare =
        safe_if (has_some 0x81fd_ffff flags) (Refuse 22) _ (λ e. tt) λ e. safe_if (has_some newuser flags)
        (OwnUser (has_some newns flags)) _ (λ e. user (user_flag flags e)) λ e.
        safe_if (has_some other_spaces flags) (with_admin creds (cond (has_some newns flags) OwnTable (Answer 0))) (Answer 0)
        (λ e. safe_admin creds (cond (has_some newns flags) OwnTable (Answer 0))
        (safe_if (has_some newns flags) OwnTable (Answer 0) (λ e. tt) (λ e. tt))) (λ e. tt)

  safe_ambient : (creds : Creds) (op cap' : ℕ) → KeepsIds top creds → Safe (ambient_effect creds op cap')
  safe_ambient creds op cap' held =
      safe_if (eqb op 1) (cond (nat_lt 40 cap') (Refuse 22) (Answer (cond (has creds.ambient cap') 1 0))) _
      (λ e. safe_if (nat_lt 40 cap') (Refuse 22) (Answer (cond (has creds.ambient cap') 1 0)) (λ e. tt) (λ e. tt)) λ e.
      safe_if (eqb op 2) (creds_effect (after_raise creds cap')) _ (λ e. safe_creds _ (ids-raise top creds held cap')) λ e.
      safe_if (eqb op 3) (creds_effect (after_lower creds cap')) _ (λ e. safe_creds _ (ids-lower top creds held cap')) λ e.
      safe_if (eqb op 4) (SetCreds 0 (after_clear_ambient creds)) (Refuse 22) (λ e. ids-clear_ambient top creds held) (λ e. tt)

  safe_prctl : (creds : Creds) (option value third : ℕ) → KeepsIds top creds → Safe (prctl_effect creds option value third)
  safe_prctl creds option value third held =
      safe_if (eqb option 38) (cond (eqb value 1) (SetCreds 0 (after_set_no_new_privs creds)) (Refuse 22)) _
      (λ e. safe_if (eqb value 1) (SetCreds 0 (after_set_no_new_privs creds)) (Refuse 22) (λ e. ids-no_new_privs top creds held) (λ e. tt))
      λ e.
      safe_if (eqb option 39) (Answer (cond creds.no_new_privs 1 0)) _ (λ e. tt) λ e.
      safe_if (eqb option 8) (cond (nat_lt value 2) (SetCreds 0 (after_set_keepcaps creds (eqb value 1))) (Refuse 22)) _
      (λ e. safe_if (nat_lt value 2) (SetCreds 0 (after_set_keepcaps creds (eqb value 1))) (Refuse 22)
      (λ e. ids-keepcaps top creds held (eqb value 1)) (λ e. tt)) λ e.
      safe_if (eqb option 24) (creds_effect (after_drop_bounding creds value)) _
      (λ e. safe_creds _ (ids-drop_bounding top creds held value)) λ e.
      safe_if (eqb option 47) (ambient_effect creds value third) (Refuse 22) (λ e. safe_ambient creds value third held) (λ e. tt)

  safe_set_mdwe : (creds : Creds) (value : ℕ) (alone : Bool) → KeepsIds top creds → Safe (set_mdwe_effect creds value alone)
  safe_set_mdwe creds value alone held =
      safe_if (not alone) (Refuse 22) _ (λ e. tt) λ e.
      safe_if (eqb value 1) (SetCreds 0 (after_set_mdwe creds)) _ (λ e. ids-mdwe top creds held) λ e.
      safe_if (eqb value 0) (cond creds.mdwe (Refuse 1) (Answer 0)) (Refuse 22)
      (λ e. safe_if creds.mdwe (Refuse 1) (Answer 0) (λ e. tt) (λ e. tt)) (λ e. tt)

  safe_prctl_of : (mdwe : Bool) (creds : Creds) (option value third fourth fifth : ℕ) → KeepsIds top creds
      → Safe (prctl_effect_of mdwe creds option value third fourth fifth)
  safe_prctl_of mdwe creds option value third fourth fifth held =
      safe_if (eqb option 65 && mdwe) (set_mdwe_effect creds value ((eqb third 0 && eqb fourth 0) && eqb fifth 0)) _
      (λ e. safe_set_mdwe creds value ((eqb third 0 && eqb fourth 0) && eqb fifth 0) held) λ e.
      safe_if (eqb option 66 && mdwe) (Answer (cond creds.mdwe 1 0)) (prctl_effect creds option value third) (λ e. tt)
      (λ e. safe_prctl creds option value third held)

  safe_protect : (creds : Creds) (protection : ℕ) → Safe (protect_effect creds protection)
  safe_protect creds protection = safe_if (has_all 6 protection && creds.mdwe) (Refuse 13) (Answer 0) (λ e. tt) (λ e. tt)

  safe_attach : (creds : Creds) (flags : ℕ) → Safe (attach_effect creds flags)
  safe_attach creds flags = safe_if ((has_all 0x8000 flags && not (has_all 0x1000 flags)) && creds.mdwe) (Refuse 13) (Answer 0) (λ e. tt)
      (λ e. tt)

  safe_set_up : (rings : Bool) (creds : Creds) → KeepsIds top creds → (rings ≡ true → top.ring ≡ true) → Safe (set_up_effect rings creds)
  safe_set_up rings creds held on = safe_if rings (SetCreds 3 (after_set_up_ring creds)) (Refuse 1) (λ e. ids-ring top creds held (on e))
      (λ e. tt)

  safe_request : (host : Host) (creds : Creds) (stack : List (List Insn)) (table : Table) (owns : Bool) (request : Request)
      → Safe (request_effect host (record { creds = creds; stack = stack; table = table; newer = true; owns = owns }) request)
  safe_request host creds stack table owns (ask.Stat path) = safe_looks _
  safe_request host creds stack table owns (ask.Open path flags) = safe_looks _
  safe_request host creds stack table owns (ask.Socket family) = safe_socket creds _
  safe_request host creds stack table owns (ask.Mode mode) = tt

  safe_push : (stack : List (List Insn)) (program : Option (List Insn)) → Safe (push_effect stack program)
  safe_push stack None = tt
  safe_push stack (Some program) = safe_if (nat_le (room_of stack + length program) 32768) (Push program) (Refuse 12) (λ e. tt) (λ e. tt)

  safe_seccomp : (creds : Creds) (stack : List (List Insn)) (op flags : ℕ) (bytes : List ℕ)
      → Safe (seccomp_effect creds stack op flags bytes)
  safe_seccomp creds stack op flags bytes =
      safe_if (not (eqb op 1 && eqb flags 0)) (Refuse 22) _ (λ e. tt) λ e. safe_if
      (not (creds.no_new_privs || has creds.effective 21)) (Refuse 13) (push_effect stack (program_of bytes)) (λ e. tt)
      (λ e. safe_push stack _)

  safe_ids : (real effective saved : ℕ) → Safe (cond ((eqb real no_id && eqb effective no_id) && eqb saved no_id) (Answer 0) (Refuse 22))
  safe_ids real effective saved = safe_if ((eqb real no_id && eqb effective no_id) && eqb saved no_id) (Answer 0) (Refuse 22) (λ e. tt)
      (λ e. tt)

  safe_table : (answer : Result Table ℕ) → ((table : Table) → answer ≡ Ok table → TableIn ours launch power below table)
      → Safe (table_effect answer)
  safe_table (Ok table) h = h table refl
  safe_table (Err errno) h = tt

  -- a mount namespace that belongs to the process's user namespace does not belong to the first one
  module _ (owns : Bool) (apart : owns ≡ true → ours ≡ false) (table : Table) (allowed : TableIn ours launch power below table) where
    is_below : owns ≡ true → below table
    is_below e = let P : Bool → Type 0 = λ b. TableIn b launch power below table in subst P (apart e) allowed

    is_in : owns ≡ true → (now : Table) → below now → TableIn ours launch power below now
    is_in e now h = let P : Bool → Type 0 = λ b. TableIn b launch power below now in subst P (sym (apart e)) h

    safe_mount : (creds : Creds) (source target : Path) (flags : ℕ)
        → Safe (with_own owns (with_admin creds (table_effect (after_mount (row_at launch.site.rows) table source target flags))))
    safe_mount creds source target flags =
        safe_if owns (with_admin creds (table_effect (after_mount (row_at launch.site.rows) table source target flags))) (Refuse 1)
        (λ e. safe_admin creds (table_effect (after_mount (row_at launch.site.rows) table source target flags))
        (safe_table _ (λ now g. is_in e now (stable.mounts table now source target flags (is_below e) g)))) (λ e. tt)

    safe_umount : (creds : Creds) (path : Path) (flags : ℕ) → Safe
        (with_own owns (with_admin creds (table_effect (umount_answer table path flags))))
    safe_umount creds path flags =
        safe_if owns (with_admin creds (table_effect (umount_answer table path flags))) (Refuse 1)
        (λ e. safe_admin creds (table_effect (umount_answer table path flags))
        (safe_table _ (λ now g. is_in e now (stable.unmounts table now path flags (is_below e) g)))) (λ e. tt)

    -- the kinds that a call asks for are let through
    abbrev Through : Operation → Type 0
    Through operation = (kind : CallKind) → asks kind operation ≡ true → lets launch kind ≡ true

    abbrev pub newer_caller : Creds → List (List Insn) → Caller
    newer_caller creds stack = record { creds = creds; stack = stack; table = table; newer = true; owns = owns }

    pub safe_newer : (families : List CallLine) (mdwe : Bool) (creds : Creds) (stack : List (List Insn)) (operation : Operation) → KeepsIds top creds
        → Through operation → (makes_ring launch ≡ true → top.ring ≡ true)
        → Safe (effect_of (record { rows = row_at launch.site.rows; families = families; mdwe = mdwe; rings = launch.site.io_uring }) (newer_caller creds stack) operation)
    safe_newer families mdwe creds stack (d.See path) held p ring = safe_looks _
    safe_newer families mdwe creds stack (d.Open flags mode path) held p ring = safe_looks _
    safe_newer families mdwe creds stack (d.Create mode path) held p ring = safe_looks _
    safe_newer families mdwe creds stack (d.Truncate path) held p ring = safe_looks _
    safe_newer families mdwe creds stack (d.Execve path) held p ring =
        safe_exec creds (program_answer (flags_at (steps_of table) path) (finds (row_at launch.site.rows) (steps_of table) path)) held
    safe_newer families mdwe creds stack (d.SetMode mode) held p ring = tt
    safe_newer families mdwe creds stack (d.Map protection) held p ring = safe_protect creds protection
    safe_newer families mdwe creds stack (d.Protect protection) held p ring = safe_protect creds protection
    safe_newer families mdwe creds stack (d.Attach flags) held p ring = safe_attach creds flags
    safe_newer families mdwe creds stack (d.Schedule policy) held p ring = safe_looks _
    safe_newer families mdwe creds stack (d.Personality domain) held p ring = tt
    safe_newer families mdwe creds stack (d.SetAttributes policy) held p ring = safe_attributes creds policy
    safe_newer families mdwe creds stack (d.Socket family) held p ring = safe_socket creds _
    safe_newer families mdwe creds stack (d.Socketcall op family) held p ring = safe_socketcall creds op _
    safe_newer families mdwe creds stack (d.Socketpair family) held p ring = safe_socketpair creds family _
    safe_newer families mdwe creds stack d.Enter held p ring = tt
    safe_newer families mdwe creds stack d.Fork held p ring = tt
    safe_newer families mdwe creds stack (d.Clone flags) held p ring = safe_clone creds flags (p (k.ForNamespace User))
    safe_newer families mdwe creds stack (d.Unshare flags) held p ring = safe_unshare creds flags (p (k.ForNamespace User))
    safe_newer families mdwe creds stack d.Exit held p ring = tt
    safe_newer families mdwe creds stack (d.Mount source target flags) held p ring = safe_mount creds source target flags
    safe_newer families mdwe creds stack (d.Umount path flags) held p ring = safe_umount creds path flags
    safe_newer families mdwe creds stack (d.Setuid id) held p ring = tt
    safe_newer families mdwe creds stack (d.Setgid id) held p ring = tt
    safe_newer families mdwe creds stack (d.Setresuid real effective saved) held p ring = safe_ids real effective saved
    safe_newer families mdwe creds stack (d.Setresgid real effective saved) held p ring = safe_ids real effective saved
    safe_newer families mdwe creds stack (d.Setgroups ids) held p ring = tt
    safe_newer families mdwe creds stack (d.Capset permitted effective inheritable) held p ring =
        safe_creds _ (ids-capset top creds held permitted effective inheritable)
    safe_newer families mdwe creds stack (d.Prctl option value third fourth fifth) held p ring =
        safe_prctl_of mdwe creds option value third fourth fifth held
    safe_newer families mdwe creds stack (d.Seccomp op flags bytes) held p ring = safe_seccomp creds stack op flags bytes
    safe_newer families mdwe creds stack d.SetUpRing held p ring =
        safe_set_up launch.site.io_uring creds held (λ on. ring (and_from _ _ on (p k.SetsUpRing refl)))
    safe_newer families mdwe creds stack (d.Submit request) held p ring =
        let host : Host = record { rows = row_at launch.site.rows; families = families; mdwe = mdwe; rings = launch.site.io_uring } in
        safe_if creds.ring (request_effect host (newer_caller creds stack) request) (Refuse 9)
        (λ e. safe_request host creds stack table owns request) (λ e. tt)
    safe_newer families mdwe creds stack (d.Plain cap') held p ring = safe_alone cap' creds 0
