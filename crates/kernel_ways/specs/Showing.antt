-- Each call of a way of process 1 is done. A way shows a question by one more call after it, or by the credentials that it leads to.
use Rattle.std.specs.Prelude.{◌≡◌, true, List, [], ◌∷◌, ◌++◌, slice_get, Some}
use Rattle.launcher.specs.abs_path.Paths.{Path}
use Rattle.launcher.specs.cap_sets.Sets.{has}
use Rattle.launcher.specs.call_table.Lookups.{numbered}
use Rattle.launcher.specs.call_table.Table.{calls_in, every_call}
use Rattle.launcher.specs.call_table.declared.listed.CallLine.{CallLine}
use Rattle.launcher.specs.site_table.declared.row.Row.{Row}
use Rattle.launcher.specs.site_table.Table.{row_at}
use Rattle.launcher.specs.kern_creds.declared.creds.Creds.{Creds}
use Rattle.launcher.specs.kern_mounts.Finds.{row, finds}
use Rattle.launcher.specs.kern_mounts.Split.{Table}
use Rattle.launcher.specs.kernel_model.declared.kernel_calls.call.Call as call
use Rattle.launcher.specs.kernel_model.kernel_calls.Operation.{Operation}
use Rattle.launcher.specs.kernel_model.Effects.{Effect, Refuse, Answer, SetCreds, SetTable, Push, Child, OwnTable, UserChild, OwnUser, End}
use Rattle.launcher.specs.kernel_model.kernel_calls.Calls.{AreCalls}
use Rattle.launcher.specs.kernel_model.Runs.{moments, run, AllDone}
use Rattle.launcher.specs.kernel_model.World.{World}
use Rattle.launcher.specs.kernel_laws.Denied.{path_for, asks_family, asks_space, asks_map, asks_protect, asks_attach, asks_realtime}
use Rattle.launcher.specs.kernel_laws.Denied.{asks_personality, asks_mode, HasGid, Shows}
use Rattle.launcher.specs.kernel_laws.Launched.{Launch, launch_of}
use Rattle.launcher.specs.kernel_laws.declared.question_types.question.Question.{Question}
use Rattle.launcher.specs.kernel_laws.declared.question_types.question.Question.TheVariants.{Path as ByPath, Call, Socket, Namespace as Ns}
use Rattle.launcher.specs.kernel_laws.declared.question_types.question.Question.TheVariants.{MapWx, ProtectX, ShmX, Realtime, Personality}
use Rattle.launcher.specs.kernel_laws.declared.question_types.question.Question.TheVariants.{SuidBit, Cap, Uid, Gid}
use Rattle.kernel_ways.specs.Laws.{IsServedWorld}
use Rattle.kernel_ways.specs.Ways.{Way, IsSolo, Makes}

-- the effect is no refusal and makes no user namespace: one process alone, which has room for another and for a mount namespace, gets
-- it done
abbrev pub IsDoable : Effect → Type 0
IsDoable (Refuse errno) = ⊥
IsDoable (Answer value) = Unit {0}
IsDoable (SetCreds value creds) = Unit {0}
IsDoable (SetTable table) = Unit {0}
IsDoable (Push program) = Unit {0}
IsDoable (Child own) = Unit {0}
IsDoable OwnTable = Unit {0}
IsDoable (UserChild own) = ⊥
IsDoable (OwnUser own) = ⊥
IsDoable End = Unit {0}

-- once such a call is done, it answers the question if it asks for this. For a path: the path finds this row on the mount
-- table. For a call: the call at this place has the same name. Otherwise: the call asks for the thing in question
abbrev pub Answers : Launch → Table → Question → call.Call → Operation → Type 0
Answers launch table (ByPath wish place) call operation =
    (path : Path) × (target : Row) × (path_for wish operation ≡ Some path) × (slice_get launch.site.rows place ≡ Some target) ×
    (finds (row_at launch.site.rows) table path ≡ row target)
Answers launch table (Call place) call operation = (line : CallLine) × (slice_get (every_call launch.calls) place ≡ Some line) ×
    (called : CallLine) × (numbered call.nr (calls_in launch.calls call.abi) ≡ Some called) × (line.name ≡ called.name)
Answers launch table (Socket place) call operation = asks_family launch.calls.families place operation ≡ true
Answers launch table (Ns space) call operation = asks_space space operation ≡ true
Answers launch table MapWx call operation = asks_map operation ≡ true
Answers launch table ProtectX call operation = asks_protect operation ≡ true
Answers launch table ShmX call operation = asks_attach operation ≡ true
Answers launch table Realtime call operation = asks_realtime operation ≡ true
Answers launch table Personality call operation = asks_personality operation ≡ true
Answers launch table SuidBit call operation = asks_mode operation ≡ true
Answers launch table (Cap number) call operation = ⊥
Answers launch table (Uid id) call operation = ⊥
Answers launch table (Gid id) call operation = ⊥

-- such credentials answer the question
abbrev pub HaveAsked : Question → Creds → Type 0
HaveAsked (Cap number) creds = has creds.effective number ≡ true
HaveAsked (Uid id) creds = creds.uids.effective ≡ id
HaveAsked (Gid id) creds = HasGid id creds
HaveAsked question creds = ⊥

-- a way and one more call show the question
abbrev pub CallsShow : Type 0
CallsShow = (launch : Launch) (from to : Creds) (table now : Table) (world : World) (calls : List call.Call) (question : Question)
    (operation : Operation) (last : call.Call) (effect : Effect)
    → IsSolo launch from table world → Way launch from table calls to now → Makes launch to now operation last effect → IsDoable effect
    → Answers launch now question last operation
    → Shows world question (calls ++ last ∷ [])

-- a way alone shows the question
abbrev pub CredsShow : Type 0
CredsShow = (launch : Launch) (from to : Creds) (table now : Table) (world : World) (calls : List call.Call) (question : Question)
    → IsSolo launch from table world → Way launch from table calls to now → HaveAsked question to → Shows world question calls

-- a way is made of calls that can be made and are all done, and leaves process 1 alone with these credentials and this table
pub record IsDoneTo (launch : Launch) (creds : Creds) (table : Table) (world : World) (calls : List call.Call) : Type 0 where
  pub fit : AreCalls calls
  pub done : AllDone (moments world calls)
  pub solo : IsSolo launch creds table (run world calls)

abbrev pub WaysAreDone : Type 0
WaysAreDone = (launch : Launch) (from to : Creds) (table now : Table) (world : World) (calls : List call.Call)
    → IsSolo launch from table world → Way launch from table calls to now → IsDoneTo launch to now world calls

-- and ways begin in the launched world
abbrev pub ServedIsSolo : Type 0
ServedIsSolo = (world : World) → IsServedWorld world → IsSolo (launch_of world) (launch_of world).creds (launch_of world).table world
