-- The calls by which process 1 gains a capability (capabilities(7), execve(2), capset(2), setuid(2)).
use Rattle.std.specs.Prelude.{◌≡◌, ℕ, Bool, true, false, not, ◌&&◌, ◌||◌, List, [], ◌∷◌, ◌++◌, find, Option, Some, None, option_and_then}
use Rattle.std.specs.Prelude.{option_map, if◌then◌else◌}
use Rattle.std.specs.Option.{option_or, option_map_or}
use Rattle.ceilings.specs.abs_path.Paths.{Path}
use Rattle.ceilings.specs.cap_sets.Sets.{has, cut}
use Rattle.ceilings.specs.linux_numbers.Capabilities.{cap_sys_admin, cap_setuid}
use Rattle.ceilings.specs.site_table.Table.{row_at}
use Rattle.ceilings.specs.site_table.declared.row.Row.{Row}
use Rattle.ceilings.specs.kernel_model.kern_files.MountCall.{ms_remount_bind}
use Rattle.ceilings.specs.kernel_model.declared.kernel_calls.call.Call.{Call}
use Rattle.ceilings.specs.kernel_model.declared.kernel_calls.payload.Payload.TheVariants.{OnePath}
use Rattle.ceilings.specs.kernel_laws.Bound.{is_owner, can_run, power_of}
use Rattle.ceilings.specs.kernel_laws.declared.question_types.kind.CallKind.TheVariants.{ForPath, SetsCaps, TakesUid}
use Rattle.ceilings.specs.kernel_laws.declared.question_types.wish.Wish.TheVariants.{Exec as ToExec}
use Rattle.ceilings.specs.kernel_laws.declared.question_types.power.Power.{Power}
use Rattle.ceilings.specs.kernel_laws.declared.question_types.power.Power.TheVariants.{None as Nowise}
use Rattle.ceilings.specs.kernel_laws.Launched.{Launch, lets}
use Rattle.ceilings.specs.kernel_laws.Reach.{runs_marked}
use Rattle.ceilings.specs.kernel_ways.Taking.{id_call, sets_call}
use Rattle.ceilings.specs.kernel_ways.Ways.{place_of}
use Rattle.open_calls.specs.chosen_calls.Exposing.{exposing_calls, exposing_path}
use Rattle.open_calls.specs.chosen_calls.First.{call_by, line_of, own_rule}

-- how a capability becomes effective by a file
pub data FileWay : Type 0 where
  -- it is effective at launch
  Held : FileWay
  -- by execve(2) of the row
  ByRun : Row → FileWay
  -- and by capset(2) after it
  ByCapset : Row → FileWay

-- and by uid 0: CAP_SETUID is gained by a file, setuid(2) takes uid 0, and execve(2) gives root its capabilities
pub data CapWay : Type 0 where
  ByFile : FileWay → CapWay
  ByRoot : FileWay → CapWay

-- on the launched table, or on what CAP_SYS_ADMIN makes of it, gained before
pub data GainWay : Type 0 where
  AtOnce : CapWay → GainWay
  Behind : CapWay → CapWay → GainWay

-- execve(2) of the row makes it effective: uid 0 does, or the effective bit
abbrev pub gives_at_once : Launch → ℕ → Row → Bool
gives_at_once launch number row = (is_owner 0 row.setuid && has launch.creds.bounding number) || (row.effective && has row.caps number)

-- what a file's set and the bounding set have in common
abbrev pub common : Launch → Row → ℕ
common launch row = cut row.caps launch.creds.bounding

-- without the bit it is permitted alone, and capset(2) makes it effective
abbrev pub gives_by_capset : Launch → ℕ → Row → Bool
gives_by_capset launch number row = not row.effective && has (common launch row) number

-- the first row, in byte order, that gives it so and that can be run, where capset passes
abbrev pub capset_way : Launch → Power → ℕ → Option FileWay
capset_way launch power number =
    if lets launch SetsCaps then option_map ByCapset
    (find (λ row. gives_by_capset launch number row && can_run launch power row) launch.site.rows) else None

-- the first row that gives it at once and that can be run, else one that gives it by capset; with no_new_privs none does, prctl(2)
abbrev pub by_rows : Launch → Power → ℕ → Option FileWay
by_rows launch power number =
    if launch.creds.no_new_privs then None
    else option_or (option_map ByRun (find (λ row. gives_at_once launch number row && can_run launch power row) launch.site.rows))
    (capset_way launch power number)

-- held at launch, else by a row of the launched table
abbrev pub by_launch : Launch → ℕ → Option FileWay
by_launch launch number = if has launch.creds.effective number then Some Held else by_rows launch Nowise number

-- who takes uid 0 has it
abbrev pub takes_root : Launch → ℕ → Bool
takes_root launch number = (not launch.creds.no_new_privs && lets launch TakesUid) && has launch.creds.bounding number

-- by a file, else by uid 0, with CAP_SETUID by a file
abbrev pub cap_way : Launch → ℕ → Option FileWay → Option FileWay → Option CapWay
cap_way launch number own setuid = option_or (option_map ByFile own) (if takes_root launch number then option_map ByRoot setuid else None)

-- on the launched table
unfoldable pub at_once : Launch → ℕ → Option CapWay
at_once launch number = cap_way launch number (by_launch launch number) (by_launch launch cap_setuid)

-- with the launch's power over mount tables
unfoldable pub at_power : Launch → ℕ → Option CapWay
at_power launch number = cap_way launch number (by_rows launch (power_of launch) number) (by_rows launch (power_of launch) cap_setuid)

-- after the calls for CAP_SYS_ADMIN
abbrev pub behind_way : Launch → ℕ → Option GainWay
behind_way launch number = option_and_then (λ admin. option_map (Behind admin) (at_power launch number)) (at_once launch cap_sys_admin)

-- on the launched table, else after them
abbrev pub gain : Launch → ℕ → Option GainWay
gain launch number = option_or (option_map AtOnce (at_once launch number)) (behind_way launch number)

-- ---- what makes a way possible
-- a row of the site that can be run, without no_new_privs
pub record IsRunner (launch : Launch) (power : Power) (row : Row) : Type 0 where
  pub off : launch.creds.no_new_privs ≡ false
  pub known : row_at launch.site.rows row.path ≡ Some row
  pub runs : can_run launch power row ≡ true

abbrev pub CanBeMade : Launch → Power → FileWay → Type 0
CanBeMade launch power Held = Unit {0}
CanBeMade launch power (ByRun row) = IsRunner launch power row
CanBeMade launch power (ByCapset row) = IsRunner launch power row × (lets launch SetsCaps ≡ true)

abbrev pub CapCanBeMade : Launch → Power → CapWay → Type 0
CapCanBeMade launch power (ByFile way) = CanBeMade launch power way
CapCanBeMade launch power (ByRoot way) = CanBeMade launch power way × (lets launch TakesUid ≡ true)

abbrev pub GainCanBeMade : Launch → GainWay → Type 0
GainCanBeMade launch (AtOnce way) = CapCanBeMade launch Nowise way
GainCanBeMade launch (Behind admin way) = CapCanBeMade launch Nowise admin × CapCanBeMade launch (power_of launch) way

-- ---- the calls
-- execve(2) of a path
abbrev pub run_call : Launch → Path → Call
run_call launch path = call_by launch (ForPath ToExec) (OnePath path)

-- of a row, once it is exposed where execve looks at its marks
abbrev pub run_calls : Launch → Power → Row → List Call
run_calls launch power row = exposing_calls launch power ms_remount_bind runs_marked row.path ++ run_call launch
    (exposing_path launch power runs_marked row.path) ∷ []

abbrev pub capset_call : Launch → Row → Call
capset_call launch row = sets_call (place_of (line_of launch SetsCaps)) (common launch row) (common launch row) launch.creds.inheritable

abbrev pub file_calls : Launch → Power → FileWay → List Call
file_calls launch power Held = []
file_calls launch power (ByRun row) = run_calls launch power row
file_calls launch power (ByCapset row) = run_calls launch power row ++ capset_call launch row ∷ []

-- the path that was executed last: the program's, or the row's
abbrev pub last_path : Launch → Path → Power → FileWay → Path
last_path launch program power Held = program
last_path launch program power (ByRun row) = exposing_path launch power runs_marked row.path
last_path launch program power (ByCapset row) = exposing_path launch power runs_marked row.path

-- setuid(2) or setresuid(2) takes uid 0
abbrev pub root_call : Launch → Call
root_call launch = id_call (place_of (line_of launch TakesUid)) (own_rule (line_of launch TakesUid)) 0

abbrev pub cap_calls : Launch → Path → Power → CapWay → List Call
cap_calls launch program power (ByFile way) = file_calls launch power way
cap_calls launch program power (ByRoot way) = file_calls launch power way ++ root_call launch ∷ run_call launch
    (last_path launch program power way) ∷ []

abbrev pub gain_calls : Launch → Path → GainWay → List Call
gain_calls launch program (AtOnce way) = cap_calls launch program Nowise way
gain_calls launch program (Behind admin way) = cap_calls launch program Nowise admin ++ cap_calls launch program (power_of launch) way

-- the calls that gain the capability, if the service can gain it
unfoldable pub gaining : Launch → Path → ℕ → List Call
gaining launch program number = option_map_or (gain_calls launch program) (gain launch number) []

-- those that a call is made after, if it asks for a capability
abbrev pub gaining_if : Launch → Path → Option ℕ → List Call
gaining_if launch program None = []
gaining_if launch program (Some number) = gaining launch program number
