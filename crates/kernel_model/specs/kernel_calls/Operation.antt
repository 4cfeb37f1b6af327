-- What a call asks for: its rule, and the words and payload that the rule uses.
use Rattle.std.specs.Prelude.{ℕ, List, Option, Some, None}
use Rattle.site_table.specs.abs_path.Paths.{Path}
use Rattle.call_table.specs.call_names.Known.{mode_place_of, place_of}
use Rattle.call_table.specs.declared.call_names.rule.CallRule.{CallRule}
use Rattle.call_table.specs.declared.call_names.rule.CallRule.TheVariants as known
use Rattle.kern_mounts.specs.linux_numbers.Limits.{no_id}
use Rattle.call_table.specs.Table.{Table, calls_in}
use Rattle.kernel_model.specs.declared.kernel_calls.payload.Payload.{Payload}
use Rattle.kernel_model.specs.declared.kernel_calls.payload.Payload.TheVariants.{Nothing, OnePath, TwoPaths, PathFlags, Sets, Ids, Number, Code, Ring}
use Rattle.kernel_model.specs.declared.kernel_calls.request.Request.{Request}
use Rattle.kernel_model.specs.declared.kernel_calls.call.Call.{Call}
use Rattle.kernel_model.specs.declared.kernel_calls.rule.Rule.{Rule}
use Rattle.kernel_model.specs.declared.kernel_calls.rule.Rule.TheVariants as rule
use Rattle.kernel_model.specs.kernel_calls.Words.{low_word}
use Rattle.kernel_model.specs.kernel_calls.Rules.{rule_at}

-- what a call asks for, with the arguments that its rule uses; numbers are the low halves of words
pub data Operation : Type 0 where
  -- stat(2), access(2) and similar calls, which look a path up
  See : Path → Operation
  -- open(2) and openat(2): the flags, the mode, and the path
  Open : ℕ → ℕ → Path → Operation
  -- creat(2): the mode and the path; truncate(2), and execve(2) and execveat(2)
  Create : ℕ → Path → Operation
  Truncate : Path → Operation
  Execve : Path → Operation
  -- chmod(2), mkdir(2), mknod(2) and similar calls: the mode
  SetMode : ℕ → Operation
  -- mmap(2) and mprotect(2): the protection; shmat(2): the flags
  Map : ℕ → Operation
  Protect : ℕ → Operation
  Attach : ℕ → Operation
  -- sched_setscheduler(2) and sched_setattr(2): the policy; personality(2): the persona; socket(2): the family
  Schedule : ℕ → Operation
  SetAttributes : ℕ → Operation
  Personality : ℕ → Operation
  Socket : ℕ → Operation
  -- socketcall(2): the operation, and the family that it points to
  Socketcall : ℕ → ℕ → Operation
  -- socketpair(2): the family
  Socketpair : ℕ → Operation
  -- setns(2) and fork(2); clone(2), clone3(2) and unshare(2): the flags; exit(2)
  Enter : Operation
  Fork : Operation
  Clone : ℕ → Operation
  Unshare : ℕ → Operation
  Exit : Operation
  -- mount(2): source, target and flags; umount2(2): target and flags
  Mount : Path → Path → ℕ → Operation
  Umount : Path → ℕ → Operation
  -- setuid(2) and setgid(2): the id; setresuid(2) and setresgid(2): the real, the effective and the saved id, which setreuid(2) and
  -- setregid(2) leave; setgroups(2): the ids
  Setuid : ℕ → Operation
  Setgid : ℕ → Operation
  Setresuid : ℕ → ℕ → ℕ → Operation
  Setresgid : ℕ → ℕ → ℕ → Operation
  Setgroups : List ℕ → Operation
  -- capset(2): the permitted, the effective and the inheritable set
  Capset : ℕ → ℕ → ℕ → Operation
  -- prctl(2): the operation and its four arguments
  Prctl : ℕ → ℕ → ℕ → ℕ → ℕ → Operation
  -- seccomp(2): the operation, the flags and the bytes of the program
  Seccomp : ℕ → ℕ → List ℕ → Operation
  -- io_uring_setup(2), and io_uring_enter(2): the request
  SetUpRing : Operation
  Submit : Request → Operation
  -- any other call: the capability of its line
  Plain : Option ℕ → Operation

-- a call without a payload; None if it has one
abbrev pub bare : Operation → Payload → Option Operation
bare operation Nothing = Some operation
bare operation (OnePath path) = None
bare operation (TwoPaths source target) = None
bare operation (PathFlags path flags) = None
bare operation (Sets permitted effective inheritable) = None
bare operation (Ids ids) = None
bare operation (Number number) = None
bare operation (Code bytes) = None
bare operation (Ring request) = None

-- a call with one path
abbrev pub by_path : (Path → Operation) → Payload → Option Operation
by_path operation (OnePath path) = Some (operation path)
by_path operation Nothing = None
by_path operation (TwoPaths source target) = None
by_path operation (PathFlags path flags) = None
by_path operation (Sets permitted effective inheritable) = None
by_path operation (Ids ids) = None
by_path operation (Number number) = None
by_path operation (Code bytes) = None
by_path operation (Ring request) = None

-- a call with two paths
abbrev pub by_paths : (Path → Path → Operation) → Payload → Option Operation
by_paths operation (TwoPaths source target) = Some (operation source target)
by_paths operation (PathFlags path flags) = None
by_paths operation Nothing = None
by_paths operation (OnePath path) = None
by_paths operation (Sets permitted effective inheritable) = None
by_paths operation (Ids ids) = None
by_paths operation (Number number) = None
by_paths operation (Code bytes) = None
by_paths operation (Ring request) = None

-- a call with one path and flags
abbrev pub by_path_flags : (Path → ℕ → Operation) → Payload → Option Operation
by_path_flags operation (PathFlags path flags) = Some (operation path flags)
by_path_flags operation Nothing = None
by_path_flags operation (OnePath path) = None
by_path_flags operation (TwoPaths source target) = None
by_path_flags operation (Sets permitted effective inheritable) = None
by_path_flags operation (Ids ids) = None
by_path_flags operation (Number number) = None
by_path_flags operation (Code bytes) = None
by_path_flags operation (Ring request) = None

-- a call with three sets of capabilities
abbrev pub by_sets : (ℕ → ℕ → ℕ → Operation) → Payload → Option Operation
by_sets operation (Sets permitted effective inheritable) = Some (operation permitted effective inheritable)
by_sets operation Nothing = None
by_sets operation (OnePath path) = None
by_sets operation (TwoPaths source target) = None
by_sets operation (PathFlags path flags) = None
by_sets operation (Ids ids) = None
by_sets operation (Number number) = None
by_sets operation (Code bytes) = None
by_sets operation (Ring request) = None

-- a call with a list of ids
abbrev pub by_ids : (List ℕ → Operation) → Payload → Option Operation
by_ids operation (Ids ids) = Some (operation ids)
by_ids operation Nothing = None
by_ids operation (OnePath path) = None
by_ids operation (TwoPaths source target) = None
by_ids operation (PathFlags path flags) = None
by_ids operation (Sets permitted effective inheritable) = None
by_ids operation (Number number) = None
by_ids operation (Code bytes) = None
by_ids operation (Ring request) = None

-- a call with a number
abbrev pub by_number : (ℕ → Operation) → Payload → Option Operation
by_number operation (Number number) = Some (operation number)
by_number operation Nothing = None
by_number operation (OnePath path) = None
by_number operation (TwoPaths source target) = None
by_number operation (PathFlags path flags) = None
by_number operation (Sets permitted effective inheritable) = None
by_number operation (Ids ids) = None
by_number operation (Code bytes) = None
by_number operation (Ring request) = None

-- a call with the bytes of a program
abbrev pub by_code : (List ℕ → Operation) → Payload → Option Operation
by_code operation (Code bytes) = Some (operation bytes)
by_code operation Nothing = None
by_code operation (OnePath path) = None
by_code operation (TwoPaths source target) = None
by_code operation (PathFlags path flags) = None
by_code operation (Sets permitted effective inheritable) = None
by_code operation (Ids ids) = None
by_code operation (Number number) = None
by_code operation (Ring request) = None

-- a call with a request to a ring
abbrev pub by_request : (Request → Operation) → Payload → Option Operation
by_request operation (Ring request) = Some (operation request)
by_request operation Nothing = None
by_request operation (OnePath path) = None
by_request operation (TwoPaths source target) = None
by_request operation (PathFlags path flags) = None
by_request operation (Sets permitted effective inheritable) = None
by_request operation (Ids ids) = None
by_request operation (Number number) = None
by_request operation (Code bytes) = None

-- what a call of a known rule asks for; None if its payload does not have the rule's form
abbrev pub known_operation : CallRule → List ℕ → Payload → Option Operation
known_operation known.See args payload = by_path See payload
known_operation (known.Open flags) args payload = by_path (Open (low_word args (place_of flags)) 0) payload
known_operation (known.OpenWith flags) args payload =
    by_path (Open (low_word args (place_of flags)) (low_word args (mode_place_of flags))) payload
known_operation known.Openat2 args payload = by_path_flags (λ path flags. Open flags 0 path) payload
known_operation known.Create args payload = by_path (Create 0) payload
known_operation known.CreateWith args payload = by_path (Create (low_word args 1)) payload
known_operation known.Truncate args payload = by_path Truncate payload
known_operation known.Execve args payload = by_path Execve payload
known_operation (known.SetMode mode) args payload = bare (SetMode (low_word args (place_of mode))) payload
known_operation known.Map args payload = bare (Map (low_word args 2)) payload
known_operation known.Protect args payload = bare (Protect (low_word args 2)) payload
known_operation known.Attach args payload = bare (Attach (low_word args 2)) payload
known_operation known.Schedule args payload = bare (Schedule (low_word args 1)) payload
known_operation known.SetAttributes args payload = by_number SetAttributes payload
known_operation known.Personality args payload = bare (Personality (low_word args 0)) payload
known_operation known.Socket args payload = bare (Socket (low_word args 0)) payload
known_operation known.Socketcall args payload = by_number (Socketcall (low_word args 0)) payload
known_operation known.Socketpair args payload = bare (Socketpair (low_word args 0)) payload
known_operation known.Enter args payload = bare Enter payload
known_operation known.Fork args payload = bare Fork payload
known_operation known.Clone args payload = bare (Clone (low_word args 0)) payload
known_operation known.Clone3 args payload = by_number Clone payload
known_operation known.Unshare args payload = bare (Unshare (low_word args 0)) payload
known_operation known.Exit args payload = bare Exit payload
known_operation known.Mount args payload = by_paths (λ source target. Mount source target (low_word args 3)) payload
known_operation known.Umount args payload = by_path (λ path. Umount path (low_word args 1)) payload
known_operation known.Setuid args payload = bare (Setuid (low_word args 0)) payload
known_operation known.Setgid args payload = bare (Setgid (low_word args 0)) payload
known_operation known.Setresuid args payload = bare (Setresuid (low_word args 0) (low_word args 1) (low_word args 2)) payload
known_operation known.Setresgid args payload = bare (Setresgid (low_word args 0) (low_word args 1) (low_word args 2)) payload
known_operation known.Setreuid args payload = bare (Setresuid (low_word args 0) (low_word args 1) no_id) payload
known_operation known.Setregid args payload = bare (Setresgid (low_word args 0) (low_word args 1) no_id) payload
known_operation known.Setgroups args payload = by_ids Setgroups payload
known_operation known.Capset args payload = by_sets Capset payload
known_operation known.Prctl args payload =
    bare (Prctl (low_word args 0) (low_word args 1) (low_word args 2) (low_word args 3) (low_word args 4)) payload
known_operation known.Seccomp args payload = by_code (Seccomp (low_word args 0) (low_word args 1)) payload
known_operation known.SetUpRing args payload = bare SetUpRing payload
known_operation known.Submit args payload = by_request Submit payload

-- what a call of this rule asks for
abbrev pub operation_by : Rule → List ℕ → Payload → Option Operation
operation_by (rule.Known call) args payload = known_operation call args payload
operation_by (rule.Plain cap) args payload = bare (Plain cap) payload

-- the kernel lacks the call (ENOSYS, errno(3)), its payload does not have its form (EFAULT), or the call asks for this
pub data Asked : Type 0 where
  Lacking : Asked
  Misformed : Asked
  Does : Operation → Asked

abbrev pub asked_if : Option Operation → Asked
asked_if None = Misformed
asked_if (Some operation) = Does operation

-- what a call asks for, given the rule of its number
abbrev pub asked_by : Option Rule → Call → Asked
asked_by None call = Lacking
asked_by (Some rule) call = asked_if (operation_by rule call.args call.payload)

-- what a call asks for, in a kernel with this table; the calls of its ABI decide
abbrev pub asked_of : Table → Call → Asked
asked_of table call = asked_by (rule_at (calls_in table call.abi) call.nr) call
