-- What closed bounds rule out is reached by no list of calls.
use Rattle.std.proofs.Common.{◌≡◌, ℕ, Bool, true, false, Option, Some, None, Result, Ok, Err, ◌⊎◌, inl, inr, refl, cond, ap, ◌∙◌, sym}
use Rattle.std.proofs.Common.{subst, eqb}
use Rattle.std.specs.Prelude.{not, nat_lt, length, ◌&&◌}
use Rattle.std.proofs.lemmas.Bool.{eqb-true, and_parts, and_from}
use Rattle.kernel_model.specs.abs_path.Paths.{Path}
use Rattle.kernel_model.specs.cap_sets.Sets.{has, cut, none}
use Rattle.kernel_model.proofs.OfCapSets.Members.{has_cut, has_none}
use Rattle.kernel_model.specs.site_table.declared.row.Row.{Row}
use Rattle.kernel_model.specs.site_table.Table.{row_at}
use Rattle.kernel_model.specs.kern_creds.declared.creds.Creds.{Creds}
use Rattle.kernel_model.specs.kern_creds.Exec.{is_refused, exec_done_in, exec_in}
use Rattle.kernel_model.specs.kern_mounts.Finds.{Found, row, empty_directory, nothing, finds}
use Rattle.kernel_model.specs.kern_mounts.declared.step.Flags.{Flags}
use Rattle.std.specs.Int.RustNames.{bit_and}
use Rattle.kernel_model.specs.kern_files.Bits.{has_some, has_all}
use Rattle.kernel_model.specs.site_table.Kinds.{is_dir, is_exe, is_dev}
use Rattle.kernel_model.specs.kernel_calls.Operation as d
use Rattle.kernel_model.specs.kernel_calls.Operation.{Operation}
use Rattle.kernel_model.specs.declared.kernel_calls.request.Request.{Request}
use Rattle.kernel_model.specs.declared.kernel_calls.request.Request.TheVariants as ask
use Rattle.kernel_model.specs.Effects as f
use Rattle.kernel_model.specs.Effects.{Effect, effect_of, looks, creds_effect, with_admin, newuser, other_spaces, newns}
use Rattle.kernel_model.specs.Effects.{open_effect, request_effect}
use Rattle.kernel_model.specs.kern_files.Looking.{flags_at, is_kept, access_mode, is_writing, see_answer, write_answer, open_answer}
use Rattle.filter_settings.specs.linux_numbers.Errnos.{eperm, ebadf, eagain, eacces, enospc, eisdir, einval, erofs}
use Rattle.kernel_model.specs.declared.kern_files.program.Program.{Program}
use Rattle.kernel_model.specs.kern_files.Executing.{marks_of, program_answer, executed_in, exec_answer_in}
use Rattle.kernel_model.specs.World.{World, table_of, host_of, caller_of, is_newer, with_user, entered_by}
use Rattle.kernel_model.specs.declared.process.Process.{Process}
use Rattle.kernel_model.specs.Step.{most_processes, child_in, moved_in, has_user_left, applied}
use Rattle.kernel_model.specs.declared.reply.Reply.{Reply}
use Rattle.kernel_model.specs.declared.reply.Reply.TheVariants as reply
use Rattle.kernel_laws.proofs.MaskBits.{user_flag}
use Rattle.kernel_model.specs.Runs.{IsDone}
use Rattle.kernel_laws.specs.declared.question_types.wish.Wish.{Wish}
use Rattle.kernel_laws.specs.declared.question_types.wish.Wish.TheVariants.{See as ToSee, Read as ToRead, Write as ToWrite, Exec as ToExec}
use Rattle.filter_settings.specs.linux_numbers.declared.namespaces.NamespaceType.{NamespaceType}
use Rattle.filter_settings.specs.linux_numbers.declared.namespaces.NamespaceType.TheVariants as namespace
use Rattle.filter_settings.specs.linux_numbers.Namespaces.{flag_of}
use Rattle.kernel_laws.specs.Denied.{path_for, asks_space, asks_map, asks_attach}
use Rattle.kernel_laws.specs.Kinds.{asks_attach_read}
use Rattle.kernel_laws.specs.Reach.{fits, mount_wish}
use Rattle.kernel_laws.specs.Bound.{is_user}
use Rattle.kernel_laws.proofs.Ran.{ran_program}

-- ---- effects that are done
-- the reply to an effect on a process
abbrev pub DoneBy : World → ℕ → Process → Effect → Type 0
DoneBy world pid process effect = IsDone (applied world pid process effect).0

module _ (world : World) (pid : ℕ) (process : Process) where
  abbrev D : Effect → Type 0
  D = DoneBy world pid process

  -- of an alternative whose other branch is refused
  unless : (b : Bool) (errno : ℕ) (effect : Effect) → D (cond b (f.Refuse errno) effect) → (b ≡ false) × D effect
  unless true errno effect h = absurd h
  unless false errno effect h = (refl, h)

  when' : (b : Bool) (errno : ℕ) (effect : Effect) → D (cond b effect (f.Refuse errno)) → (b ≡ true) × D effect
  when' true errno effect h = (refl, h)
  when' false errno effect h = absurd h

  write_done : (value : ℕ) (flags : Flags) (target : Row) → D (looks (write_answer value flags (row target))) → is_kept flags target ≡ false
  write_done value flags target h = by (is_dir target.kind) (is_kept flags target) h
    where
      by : (a b : Bool) → D (looks (cond {A = Result ℕ ℕ} a (Err eisdir) (cond {A = Result ℕ ℕ} b (Err erofs) (Ok value)))) → b ≡ false
      by true b h = absurd h
      by false true h = absurd h
      by false false h = refl

  open_done : (flags : ℕ) (entry : Flags) (target : Row) → is_writing flags ≡ true → D (looks (open_answer flags entry (row target)))
      → is_kept entry target ≡ false
  open_done flags entry target writing h = write_done 3 entry target (by (eqb (access_mode flags) 3) (is_writing flags) writing h)
    where
      by : (a b : Bool) → b ≡ true
          → D (looks (cond {A = Result ℕ ℕ} a (Err einval) (cond b (write_answer 3 entry (row target)) (see_answer 3 (row target)))))
          → D (looks (write_answer 3 entry (row target)))
      by true b e h = absurd h
      by false true e h = h
      by false false e h = cc

  -- what a call that writes has found
  pub record Written (flags : Flags) (found : Found Row) : Type 0 where
    pub target : Row
    pub is : found ≡ row target
    pub file : is_dir target.kind ≡ false
    pub free : is_kept flags target ≡ false

  pub written_done : (value : ℕ) (flags : Flags) (found : Found Row) → D (looks (write_answer value flags found)) → Written flags found
  written_done value flags empty_directory h = absurd h
  written_done value flags (nothing errno) h = absurd h
  written_done value flags (row target) h = by (is_dir target.kind) refl (is_kept flags target) refl h
    where
      by : (a : Bool) → is_dir target.kind ≡ a → (b : Bool) → is_kept flags target ≡ b
          → D (looks (cond {A = Result ℕ ℕ} a (Err eisdir) (cond {A = Result ℕ ℕ} b (Err erofs) (Ok value)))) → Written flags (row target)
      by true e b g h = absurd h
      by false e true g h = absurd h
      by false e false g h = record { target = target; is = refl; file = e; free = g }

  -- io_uring_enter(2) is done by a process that has a ring, and as its request is
  pub ring_done : (request : Request) → D (effect_of (host_of world) (caller_of world process) (d.Submit request))
      → (process.creds.ring ≡ true) × D (request_effect (host_of world) (caller_of world process) request)
  ring_done request h = when' process.creds.ring ebadf (request_effect (host_of world) (caller_of world process) request) h

  pub record RunDone (creds : Creds) (flags : Flags) (target : Row) : Type 0 where
    pub exe : is_exe target.kind ≡ true
    pub runs : flags.no_exec ≡ false
    pub taken : is_refused creds (marks_of target) flags.no_suid ≡ false

  exec_done' : (newer : Bool) (creds : Creds) (flags : Flags) (target : Row)
      → D (creds_effect (exec_answer_in newer creds flags (row target))) → RunDone creds flags target
  exec_done' newer creds flags target h = by (program_answer flags (row target)) refl h
    where
      by_refused : (b : Bool) → D (creds_effect (cond b (Err eperm) (Ok (exec_done_in newer creds (marks_of target) flags.no_suid))))
          → b ≡ false
      by_refused true h = absurd h
      by_refused false h = refl

      by : (answer : Result Program ℕ) → program_answer flags (row target) ≡ answer → D (creds_effect (executed_in newer creds answer))
          → RunDone creds flags target
      by (Err errno) is h = absurd h
      by (Ok program) is h =
          let ran = ran_program flags target program is in
          let P : Program → Type 0 = λ p. D (creds_effect (exec_in newer creds p.file p.no_suid)) in
          record { exe = ran.exe; runs = ran.runs; taken = by_refused (is_refused creds (marks_of target) flags.no_suid) (subst P ran.is h) }

-- what a read-only mount does not keep has the flags that its writing needs
pub fits_kept : (flags : Flags) (target : Row) → is_kept flags target ≡ false → fits (mount_wish target.kind ToWrite) flags ≡ true
fits_kept flags target h = by (is_dev target.kind) h
  where
    not_of : (only : Bool) → (only && not false) ≡ false → not only ≡ true
    not_of true h = cc
    not_of false h = refl

    by : (dev : Bool) → (flags.read_only && not dev) ≡ false → fits (cond {A = Wish} dev ToRead ToWrite) flags ≡ true
    by true h = refl
    by false h = not_of flags.read_only h

-- a file that is opened for writing has them
opened_fits : (world : World) (pid : ℕ) (process : Process) (flags : ℕ) (own path : Path) (target : Row)
    → cond (is_writing flags) (Some own) None ≡ Some path
    → finds (row_at world.site.rows) (table_of world process.namespace) path ≡ row target
    → DoneBy world pid process (open_effect (host_of world) (caller_of world process) flags own)
    → fits (mount_wish target.kind ToWrite) (flags_at (table_of world process.namespace) path) ≡ true
opened_fits world pid process flags own path target e g h = by (is_writing flags) refl e
  where
    by : (b : Bool) → is_writing flags ≡ b → cond b (Some own) None ≡ Some path
        → fits (mount_wish target.kind ToWrite) (flags_at (table_of world process.namespace) path) ≡ true
    by true is e =
        let here : own ≡ path = cc in
        let P : Found Row → Type 0 = λ found. DoneBy world pid process (looks (open_answer flags (flags_at (table_of world process.namespace) own) found)) in
        let found : finds (row_at world.site.rows) (table_of world process.namespace) own ≡ row target = ap (finds (row_at world.site.rows) (table_of world process.namespace)) here ∙ g in
        let free = open_done world pid process flags (flags_at (table_of world process.namespace) own) target is (subst P found h) in
        ap (λ (p : Path). fits (mount_wish target.kind ToWrite) (flags_at (table_of world process.namespace) p)) (sym here)
        ∙ fits_kept (flags_at (table_of world process.namespace) own) target free
    by false is e = cc

-- and so has one that creat(2) and truncate(2) write, with this value
written_fits : (world : World) (pid : ℕ) (process : Process) (value : ℕ) (own path : Path) (target : Row) → own ≡ path
    → finds (row_at world.site.rows) (table_of world process.namespace) path ≡ row target
    → DoneBy world pid process (looks (write_answer value (flags_at (table_of world process.namespace) own)
    (finds (row_at world.site.rows) (table_of world process.namespace) own)))
    → fits (mount_wish target.kind ToWrite) (flags_at (table_of world process.namespace) path) ≡ true
written_fits world pid process value own path target here g h =
    let P : Found Row → Type 0 = λ found. DoneBy world pid process (looks (write_answer value (flags_at (table_of world process.namespace) own) found)) in
    let found : finds (row_at world.site.rows) (table_of world process.namespace) own ≡ row target = ap (finds (row_at world.site.rows) (table_of world process.namespace)) here ∙ g in
    let free = write_done world pid process value (flags_at (table_of world process.namespace) own) target (subst P found h) in
    ap (λ (p : Path). fits (mount_wish target.kind ToWrite) (flags_at (table_of world process.namespace) p)) (sym here)
    ∙ fits_kept (flags_at (table_of world process.namespace) own) target free

-- a call that is done and whose path finds the row has the flags that it needs
pub wish_fits : (world : World) (pid : ℕ) (process : Process) (wish : Wish) (operation : Operation) (path : Path) (target : Row)
    → path_for wish operation ≡ Some path
    → finds (row_at world.site.rows) (table_of world process.namespace) path ≡ row target
    → DoneBy world pid process (effect_of (host_of world) (caller_of world process) operation)
    → fits (mount_wish target.kind wish) (flags_at (table_of world process.namespace) path) ≡ true
wish_fits world pid process ToSee operation path target e g h = refl
wish_fits world pid process ToRead operation path target e g h = refl
wish_fits world pid process ToWrite (d.Open flags mode own) path target e g h = opened_fits world pid process flags own path target e g h
wish_fits world pid process ToWrite (d.Create mode own) path target e g h = written_fits world pid process 3 own path target (cc) g h
wish_fits world pid process ToWrite (d.Truncate own) path target e g h = written_fits world pid process 0 own path target (cc) g h
wish_fits world pid process ToWrite (d.Submit (ask.Open own flags)) path target e g h =
    opened_fits world pid process flags own path target e g (ring_done world pid process (ask.Open own flags) h).1
wish_fits world pid process ToExec (d.Execve own) path target e g h =
    let here : own ≡ path = cc in
    let P : Found Row → Type 0 = λ found. DoneBy world pid process (creds_effect (exec_answer_in (is_newer process) process.creds (flags_at (table_of world process.namespace) own) found)) in
    let found : finds (row_at world.site.rows) (table_of world process.namespace) own ≡ row target = ap (finds (row_at world.site.rows) (table_of world process.namespace)) here ∙ g in
    let r = exec_done' world pid process (is_newer process) process.creds (flags_at (table_of world process.namespace) own) target (subst P found h) in
    ap (λ (p : Path). not (flags_at (table_of world process.namespace) p).no_exec) (sym here) ∙ ap not r.runs
wish_fits world pid process wish operation path target e g h = cc

-- and an execve is not refused
pub run_taken : (world : World) (pid : ℕ) (process : Process) (operation : Operation) (path : Path) (target : Row)
    → path_for ToExec operation ≡ Some path
    → finds (row_at world.site.rows) (table_of world process.namespace) path ≡ row target
    → DoneBy world pid process (effect_of (host_of world) (caller_of world process) operation)
    → is_refused process.creds (marks_of target) (flags_at (table_of world process.namespace) path).no_suid ≡ false
run_taken world pid process (d.Execve own) path target e g h =
    let here : own ≡ path = cc in
    let P : Found Row → Type 0 = λ found. DoneBy world pid process (creds_effect (exec_answer_in (is_newer process) process.creds (flags_at (table_of world process.namespace) own) found)) in
    let found : finds (row_at world.site.rows) (table_of world process.namespace) own ≡ row target = ap (finds (row_at world.site.rows) (table_of world process.namespace)) here ∙ g in
    let r = exec_done' world pid process (is_newer process) process.creds (flags_at (table_of world process.namespace) own) target (subst P found h) in
    ap (λ (p : Path). is_refused process.creds (marks_of target) (flags_at (table_of world process.namespace) p).no_suid) (sym here)
    ∙ r.taken
run_taken world pid process operation path target e g h = cc

-- ---- flags of namespaces
in_mask : (number mask flags : ℕ) → has mask number ≡ true → has flags number ≡ true → has_some mask flags ≡ true
unfolding cut none
in_mask number mask flags m h = by (eqb (bit_and flags mask) 0) refl
  where
    by : (b : Bool) → eqb (bit_and flags mask) 0 ≡ b → not b ≡ true
    by true e =
        let empty : cut flags mask ≡ none = eqb-true (bit_and flags mask) 0 e in
        let on : has (cut flags mask) number ≡ true = has_cut flags mask number ∙ and_from (has flags number) (has mask number) h m in
        let off : has (cut flags mask) number ≡ false = ap (λ s. has s number) empty ∙ has_none number in
        cc
    by false e = refl

on_flag : (number mask flags : ℕ) → has mask number ≡ true → has_all mask flags ≡ true → has flags number ≡ true
unfolding cut
on_flag number mask flags m h =
    let same : cut flags mask ≡ mask = eqb-true (bit_and flags mask) mask h in
    let on : has (cut flags mask) number ≡ true = ap (λ s. has s number) same ∙ m in
    (and_parts (has flags number) (has mask number) (sym (has_cut flags mask number) ∙ on)).0

bit_of : NamespaceType → ℕ
bit_of namespace.Cgroup = 25
bit_of namespace.Ipc = 27
bit_of namespace.Net = 30
bit_of namespace.Mnt = 17
bit_of namespace.Pid = 29
bit_of namespace.User = 28
bit_of namespace.Uts = 26

own_bit : (space : NamespaceType) → has (flag_of space) (bit_of space) ≡ true
unfolding has bit_of
own_bit namespace.Cgroup = refl
own_bit namespace.Ipc = refl
own_bit namespace.Net = refl
own_bit namespace.Mnt = refl
own_bit namespace.Pid = refl
own_bit namespace.User = refl
own_bit namespace.Uts = refl

-- a user namespace, or one of the others
user_or_other : (space : NamespaceType) → (has newuser (bit_of space) ≡ true) ⊎
    ((has other_spaces (bit_of space) ≡ true) × (is_user space ≡ false))
unfolding has bit_of
user_or_other namespace.Cgroup = inr (refl, refl)
user_or_other namespace.Ipc = inr (refl, refl)
user_or_other namespace.Net = inr (refl, refl)
user_or_other namespace.Mnt = inr (refl, refl)
user_or_other namespace.Pid = inr (refl, refl)
user_or_other namespace.User = inl refl
user_or_other namespace.Uts = inr (refl, refl)

-- a user namespace is asked for, and one was left; or another, by CAP_SYS_ADMIN
abbrev pub MadeSpace : World → NamespaceType → Process → Operation → Type 0
MadeSpace world space process operation = ((asks_space namespace.User operation ≡ true) × (has_user_left world ≡ true)) ⊎
    ((is_user space ≡ false) × (has process.creds.effective 21 ≡ true))

module _ (world : World) (pid : ℕ) (process : Process) (space : NamespaceType) (flags : ℕ) (operation : Operation) (own none' user : Effect)
    (asked : has_all (flag_of space) flags ≡ true) (is : has_all newuser flags ≡ true → asks_space namespace.User operation ≡ true)
    (left : DoneBy world pid process user → has_user_left world ≡ true) where
  bit : has flags (bit_of space) ≡ true
  bit = on_flag (bit_of space) (flag_of space) flags (own_bit space) asked

  rest_by : has_some newuser flags ≡ false → DoneBy world pid process
      (cond (has_some other_spaces flags) (with_admin process.creds own) none') → MadeSpace world space process operation
  rest_by off h = by (user_or_other space)
    where
      by : (has newuser (bit_of space) ≡ true) ⊎ ((has other_spaces (bit_of space) ≡ true) × (is_user space ≡ false))
          → MadeSpace world space process operation
      by (inl user) = let on = in_mask (bit_of space) newuser flags user bit in cc
      by (inr other) =
          let on = in_mask (bit_of space) other_spaces flags other.0 bit in
          let P : Bool → Type 0 = λ b. DoneBy world pid process (cond b (with_admin process.creds own) none') in
          inr (other.1, (when' world pid process (has process.creds.effective 21) 1 own (subst P on h)).0)

  -- what is behind the other tests
  space_by : DoneBy world pid process
      (cond (has_some newuser flags) user (cond (has_some other_spaces flags) (with_admin process.creds own) none'))
      → MadeSpace world space process operation
  space_by h = by (has_some newuser flags) refl h
    where
      by : (b : Bool) → has_some newuser flags ≡ b → DoneBy world pid process
          (cond b user (cond (has_some other_spaces flags) (with_admin process.creds own) none')) → MadeSpace world space process operation
      by true e h = inl (is (user_flag flags e), left h)
      by false e h = rest_by e h

-- where a user namespace was made one was left
child_left : (world : World) (pid : ℕ) (process : Process) (own : Bool) → DoneBy world pid process (f.UserChild own)
    → has_user_left world ≡ true
child_left world pid process own h = by (has_user_left world) h
  where
    by : (b : Bool) → IsDone (cond {A = Reply × World} b
        (cond {A = Reply × World} (nat_lt (length world.processes) most_processes)
        (child_in world (with_user world) (entered_by process world.users) own) (reply.Refused eagain, world))
        (reply.Refused enospc, world)).0 → b ≡ true
    by true h = refl
    by false h = absurd h

own_left : (world : World) (pid : ℕ) (process : Process) (own : Bool) → DoneBy world pid process (f.OwnUser own)
    → has_user_left world ≡ true
own_left world pid process own h = by (has_user_left world) h
  where
    by : (b : Bool) → IsDone (cond {A = Reply × World} b (moved_in world (with_user world) pid (entered_by process world.users) own)
        (reply.Refused enospc, world)).0 → b ≡ true
    by true h = refl
    by false h = absurd h

pub space_done : (world : World) (pid : ℕ) (process : Process) (space : NamespaceType) (operation : Operation) → asks_space space operation ≡ true
    → DoneBy world pid process (effect_of (host_of world) (caller_of world process) operation) → MadeSpace world space process operation
space_done world pid process space (d.Unshare flags) asked h =
    let one = unless world pid process (has_some 0x81fd_ffff flags) 22 (cond (has_some newuser flags) (f.OwnUser (has_some newns flags)) (cond (has_some other_spaces flags) (with_admin process.creds (cond (has_some newns flags) f.OwnTable (f.Answer 0))) (f.Answer 0))) h in
    space_by world pid process space flags (d.Unshare flags) (cond (has_some newns flags) f.OwnTable (f.Answer 0)) (f.Answer 0)
    (f.OwnUser (has_some newns flags)) asked (λ e. e) (own_left world pid process (has_some newns flags)) one.1
space_done world pid process space (d.Clone flags) asked h =
    let one = unless world pid process (has_some 0x1_0000 flags) 22 (cond (has_some newuser flags) (f.UserChild (has_some newns flags)) (cond (has_some other_spaces flags) (with_admin process.creds (f.Child (has_some newns flags))) (f.Child false))) h in
    space_by world pid process space flags (d.Clone flags) (f.Child (has_some newns flags)) (f.Child false)
    (f.UserChild (has_some newns flags)) asked (λ e. e) (child_left world pid process (has_some newns flags)) one.1
space_done world pid process space operation asked h = cc

-- a capability that a call asks for, in the first user namespace
pub cap_done : (world : World) (pid : ℕ) (process : Process) (newer : Bool) (cap' : Option ℕ) (value number : ℕ) → cap' ≡ Some number
    → DoneBy world pid process (f.first_alone newer cap' (f.with_cap_of cap' process.creds (f.Answer value)))
    → (newer ≡ false) × (has process.creds.effective number ≡ true)
cap_done world pid process newer None value number e h = cc
cap_done world pid process true (Some own) value number e h = absurd h
cap_done world pid process false (Some own) value number e h =
    let same : own ≡ number = cc in
    (refl, ap (has process.creds.effective) (sym same) ∙ (when' world pid process (has process.creds.effective own) 1 (f.Answer value) h).0)

-- ---- memory
-- mmap(2) of memory to be both written and executed is done for a process without the mark alone
pub map_done : (world : World) (pid : ℕ) (process : Process) (operation : Operation) → asks_map operation ≡ true
    → DoneBy world pid process (effect_of (host_of world) (caller_of world process) operation) → process.creds.mdwe ≡ false
map_done world pid process (d.Map protection) asked h =
    rest (has_all 6 protection) process.creds.mdwe asked
    (unless world pid process (has_all 6 protection && process.creds.mdwe) eacces (f.Answer 0) h).0
  where
    rest : (x m : Bool) → x ≡ true → (x && m) ≡ false → m ≡ false
    rest true m a e = e
    rest false m a e = cc
map_done world pid process operation asked h = cc

-- shmat(2) of memory to be executed is done for a process with the mark if it is not to be written
pub attach_done : (world : World) (pid : ℕ) (process : Process) (operation : Operation) → asks_attach operation ≡ true
    → DoneBy world pid process (effect_of (host_of world) (caller_of world process) operation) → process.creds.mdwe ≡ true
    → asks_attach_read operation ≡ true
attach_done world pid process (d.Attach flags) asked h on =
    rest (has_all 0x8000 flags) (has_all 0x1000 flags) process.creds.mdwe asked on
    (unless world pid process ((has_all 0x8000 flags && not (has_all 0x1000 flags)) && process.creds.mdwe) eacces (f.Answer 0) h).0
  where
    rest : (x r m : Bool) → x ≡ true → m ≡ true → ((x && not r) && m) ≡ false → (x && r) ≡ true
    rest true true m a b e = refl
    rest true false true a b e = cc
    rest true false false a b e = cc
    rest false r m a b e = cc
attach_done world pid process operation asked h on = cc
