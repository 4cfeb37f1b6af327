-- What it means that a question is reached, that no list of calls reaches it, and that a list shows it; and what a
-- service cannot see.
use Rattle.std.specs.Prelude.{◌≡◌, ℕ, ◌==◌, ◌&&◌, ◌||◌, ◌⊎◌, not, Bool, true, false, List, [], ◌∷◌, slice_get, Option, Some, None, Any}
use Rattle.std.specs.Prelude.{if◌then◌else◌}
use Rattle.std.specs.List.{list_any}
use Rattle.kernel_model.specs.abs_path.Paths.{Path}
use Rattle.kernel_model.specs.abs_path.Prefix.{is_below}
use Rattle.kernel_model.specs.cap_sets.Sets.{has}
use Rattle.filter_settings.specs.call_table.declared.listed.CallLine.{CallLine}
use Rattle.filter_settings.specs.call_table.Lookups.{numbered}
use Rattle.filter_settings.specs.call_table.Table.{every_call, calls_in}
use Rattle.kernel_model.specs.site_table.declared.row.Row.{Row}
use Rattle.kernel_model.specs.site_table.Table.{row_at}
use Rattle.kernel_model.specs.kern_creds.declared.creds.Creds.{Creds}
use Rattle.kernel_model.specs.kern_mounts.Finds.{row, finds, host_place}
use Rattle.kernel_model.specs.kern_files.Bits.{has_some, has_all}
use Rattle.kernel_model.specs.kern_files.Looking.{is_reading, is_writing}
use Rattle.kernel_model.specs.declared.kernel_calls.call.Call as call
use Rattle.kernel_model.specs.kernel_calls.Calls.{IsPath, AreCalls}
use Rattle.kernel_model.specs.kernel_calls.Operation as operation
use Rattle.kernel_model.specs.kernel_calls.Operation.{Operation, Does, asked_of}
use Rattle.kernel_model.specs.declared.kernel_calls.request.Request.{Request}
use Rattle.kernel_model.specs.declared.kernel_calls.request.Request.TheVariants.{Stat, Open as AskOpen, Socket as AskSocket, Mode}
use Rattle.kernel_model.specs.declared.process.Process.{Process}
use Rattle.kernel_model.specs.Effects.{af_unix}
use Rattle.kernel_model.specs.World.{World, process_of, living_of, table_of}
use Rattle.kernel_model.specs.Runs.{Moment, moments, run, IsDone, AllDone}
use Rattle.kernel_laws.specs.declared.question_types.wish.Wish.{Wish}
use Rattle.kernel_laws.specs.declared.question_types.wish.Wish.TheVariants.{See as ToSee, Read as ToRead, Write as ToWrite, Exec as ToExec}
use Rattle.filter_settings.specs.linux_numbers.declared.namespaces.NamespaceType.{NamespaceType}
use Rattle.kernel_laws.specs.declared.question_types.question.Question.{Question}
use Rattle.kernel_laws.specs.declared.question_types.question.Question.TheVariants.{Path as ByPath, Call, Socket, Namespace as Ns, MapWx}
use Rattle.kernel_laws.specs.declared.question_types.question.Question.TheVariants.{ProtectX, ShmX, Realtime, Personality, SuidBit, Cap}
use Rattle.kernel_laws.specs.declared.question_types.question.Question.TheVariants.{Uid, Gid}
use Rattle.filter_settings.specs.linux_numbers.Namespaces.{flag_of}

-- the path that a call itself sees, reads, writes or executes, as wished: stat(2) and similar calls see, open(2) reads and writes by
-- its access mode, creat(2) and truncate(2) write, execve(2) executes
abbrev pub called_path : Wish → Operation → Option Path
called_path ToSee (operation.See path) = Some path
called_path ToRead (operation.Open flags mode path) = if is_reading flags then Some path else None
called_path ToWrite (operation.Open flags mode path) = if is_writing flags then Some path else None
called_path ToWrite (operation.Create mode path) = Some path
called_path ToWrite (operation.Truncate path) = Some path
called_path ToExec (operation.Execve path) = Some path
called_path _ _ = None

-- the path that a request to a ring sees, reads or writes, as wished: one like statx(2) sees, one like openat(2) reads and writes by its
-- access mode
abbrev pub requested_path : Wish → Request → Option Path
requested_path ToSee (Stat path) = Some path
requested_path ToRead (AskOpen path flags) = if is_reading flags then Some path else None
requested_path ToWrite (AskOpen path flags) = if is_writing flags then Some path else None
requested_path _ _ = None

-- the path that is seen, read, written or executed, as wished, by a call itself or by the request that io_uring_enter(2) submits
abbrev pub path_for : Wish → Operation → Option Path
path_for wish (operation.Submit request) = requested_path wish request
path_for wish operation = called_path wish operation

-- a call that is done, whose path finds the row of this place in the caller's mount table
pub record ReachesRow (wish : Wish) (place : ℕ) (moment : Moment) : Type 0 where
  pub done : IsDone moment.reply
  pub operation : Operation
  pub asks : asked_of moment.before.calls moment.call ≡ Does operation
  pub path : Path
  pub wanted : path_for wish operation ≡ Some path
  pub target : Row
  pub listed : slice_get moment.before.site.rows place ≡ Some target
  pub process : Process
  pub caller : process_of moment.before moment.call.pid ≡ Some process
  pub found : finds (row_at moment.before.site.rows) (table_of moment.before process.namespace) path ≡ row target

-- a call that is done, and to whose number its ABI gives the name of the call of this place among all calls
pub record ReachesCall (place : ℕ) (moment : Moment) : Type 0 where
  pub done : IsDone moment.reply
  pub line : CallLine
  pub listed : slice_get (every_call moment.before.calls) place ≡ Some line
  pub called : CallLine
  pub found : numbered moment.call.nr (calls_in moment.before.calls moment.call.abi) ≡ Some called
  pub same : line.name ≡ called.name

-- clone(2), unshare(2): the flag of the type is set
abbrev pub asks_space : NamespaceType → Operation → Bool
asks_space space (operation.Unshare flags) = has_all (flag_of space) flags
asks_space space (operation.Clone flags) = has_all (flag_of space) flags
asks_space space _ = false

-- mmap(2): PROT_WRITE and PROT_EXEC
abbrev pub asks_map : Operation → Bool
asks_map (operation.Map protection) = has_all 6 protection
asks_map _ = false

-- mprotect(2), pkey_mprotect(2): PROT_EXEC
abbrev pub asks_protect : Operation → Bool
asks_protect (operation.Protect protection) = has_all 4 protection
asks_protect _ = false

-- shmat(2): SHM_EXEC
abbrev pub asks_attach : Operation → Bool
asks_attach (operation.Attach flags) = has_all 0x8000 flags
asks_attach _ = false

-- sched(7): SCHED_FIFO and SCHED_RR
abbrev pub is_realtime : ℕ → Bool
is_realtime policy = policy == 1 || policy == 2

-- sched_setscheduler(2), sched_setattr(2)
abbrev pub asks_realtime : Operation → Bool
asks_realtime (operation.Schedule policy) = is_realtime policy
asks_realtime (operation.SetAttributes policy) = is_realtime policy
asks_realtime _ = false

-- personality(2): neither PER_LINUX nor 0xffffffff, which asks what the domain is
abbrev pub asks_personality : Operation → Bool
asks_personality (operation.Personality domain) = not (domain == 0 || domain == 0xffff_ffff)
asks_personality _ = false

-- inode(7): S_ISUID or S_ISGID
abbrev pub has_id_bit : ℕ → Bool
has_id_bit mode = has_some 0xc00 mode

-- open(2): O_CREAT or O_TMPFILE makes a file, with the mode
abbrev pub makes_file : ℕ → Bool
makes_file flags = has_some 0x40_0040 flags

-- a request to a ring gives this mode, like mkdirat(2)
abbrev pub requests_mode : Request → Bool
requests_mode (Mode mode) = has_id_bit mode
requests_mode _ = false

-- chmod(2), mkdir(2), mknod(2) and similar calls give a mode, and open(2), openat(2) and creat(2) that of a file that they make
abbrev pub asks_mode : Operation → Bool
asks_mode (operation.SetMode mode) = has_id_bit mode
asks_mode (operation.Open flags mode path) = has_id_bit mode && makes_file flags
asks_mode (operation.Create mode path) = has_id_bit mode
asks_mode (operation.Submit request) = requests_mode request
asks_mode _ = false

-- the family has the number of the line, if there is one
abbrev pub is_family : Option CallLine → ℕ → Bool
is_family None family = false
is_family (Some line) family = family == line.number

-- a request to a ring makes a socket of the family of this place, like socket(2)
abbrev pub requests_family : List CallLine → ℕ → Request → Bool
requests_family families place (AskSocket family) = is_family (slice_get families place) family
requests_family families place _ = false

-- socket(2) of the family of this place, or SYS_SOCKET, which is 1, of socketcall(2); socketpair(2) of AF_UNIX, if it is this family; and
-- a request for such a socket
abbrev pub asks_family : List CallLine → ℕ → Operation → Bool
asks_family families place (operation.Socket family) = is_family (slice_get families place) family
asks_family families place (operation.Socketcall op family) = op == 1 && is_family (slice_get families place) family
asks_family families place (operation.Socketpair family) = family == af_unix && is_family (slice_get families place) family
asks_family families place (operation.Submit request) = requests_family families place request
asks_family families place _ = false

-- a call that is done and asks for such a thing
pub record Performs (asks : Operation → Bool) (moment : Moment) : Type 0 where
  pub done : IsDone moment.reply
  pub operation : Operation
  pub is : asked_of moment.before.calls moment.call ≡ Does operation
  pub such : asks operation ≡ true

-- the question is answered by a call of a run; of capabilities and ids nothing is asked that a call does
abbrev pub Reaches : Question → Moment → Type 0
Reaches (ByPath wish place) moment = ReachesRow wish place moment
Reaches (Call place) moment = ReachesCall place moment
Reaches (Socket place) moment = Performs (asks_family moment.before.calls.families place) moment
Reaches (Ns space) moment = Performs (asks_space space) moment
Reaches MapWx moment = Performs asks_map moment
Reaches ProtectX moment = Performs asks_protect moment
Reaches ShmX moment = Performs asks_attach moment
Reaches Realtime moment = Performs asks_realtime moment
Reaches Personality moment = Performs asks_personality moment
Reaches SuidBit moment = Performs asks_mode moment
Reaches (Cap number) moment = ⊥
Reaches (Uid id) moment = ⊥
Reaches (Gid id) moment = ⊥

-- such a process lives
pub record SomeLiving (P : Process → Type 0) (world : World) : Type 0 where
  pub pid : ℕ
  pub process : Process
  pub lives : living_of world pid ≡ Some process
  pub has : P process

-- as its effective gid or among its groups, credentials(7)
abbrev pub HasGid : ℕ → Creds → Type 0
HasGid id creds = (creds.gids.effective ≡ id) ⊎ (list_any (λ group. group == id) creds.groups ≡ true)

-- the question is answered by a world itself; capabilities are asked of the first user namespace
abbrev pub Holds : Question → World → Type 0
Holds (Cap number) world = SomeLiving (λ process. (has process.creds.effective number ≡ true) × (process.user ≡ 1)) world
Holds (Uid id) world = SomeLiving (λ process. process.creds.uids.effective ≡ id) world
Holds (Gid id) world = SomeLiving (λ process. HasGid id process.creds) world
Holds _ world = ⊥

-- no list of calls has a run from this world with a moment that reaches the question, nor a world that holds it. The empty
-- list has the world itself, and each world of a run is the last one of a shorter run.
pub record IsDenied (world : World) (question : Question) : Type 0 where
  pub no_moment : (list : List call.Call) → AreCalls list → ¬ Any (Reaches question) (moments world list)
  pub no_world : (list : List call.Call) → AreCalls list → ¬ Holds question (run world list)

-- the last moment is such
abbrev pub LastIs : (Moment → Type 0) → List Moment → Type 0
LastIs P [] = ⊥
LastIs P (m ∷ []) = P m
LastIs P (m ∷ next ∷ ms) = LastIs P (next ∷ ms)

-- every call of the list is done, and the last moment reaches the question, or the world after the list holds it
pub record Shows (world : World) (question : Question) (list : List call.Call) : Type 0 where
  pub fit : AreCalls list
  pub done : AllDone (moments world list)
  pub last : LastIs (Reaches question) (moments world list) ⊎ Holds question (run world list)

-- a path, in the mount table of a living process, has its host place strictly below the folder, path_resolution(7)
pub record Exposes (folder : Path) (world : World) : Type 0 where
  pub pid : ℕ
  pub process : Process
  pub lives : living_of world pid ≡ Some process
  pub path : Path
  pub fits : IsPath path
  pub place : Path
  pub shown : host_place (table_of world process.namespace) path ≡ Some place
  pub below : is_below place folder ≡ true

-- no world of any run exposes the folder
abbrev pub IsBlind : World → Path → Type 0
IsBlind world folder = (list : List call.Call) → AreCalls list → ¬ Exposes folder (run world list)
