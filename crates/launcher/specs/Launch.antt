-- The launch of a service (systemd.exec(5), capabilities(7)): a list of steps, each a call of process 1 or a change of its
-- mount table. The first that is not done ends it.
use Rattle.std.specs.Prelude.{ℕ, ◌+◌, ◌==◌, ◌&&◌, ◌||◌, not, Bool, false, codes, List, [], ◌∷◌, ◌++◌, map, filter, if◌then◌else◌}
use Rattle.std.specs.Option.{option_map_or}
use Rattle.exec_settings.specs.abs_path.Paths.{Path}
use Rattle.exec_settings.specs.cap_sets.Sets.{has, none, all, single, union, cut, minus}
use Rattle.kernel_laws.specs.linux_numbers.Capabilities.{cap_last_cap, cap_setpcap, cap_sys_admin}
use Rattle.kernel_laws.specs.call_table.declared.listed.CallLine.{CallLine}
use Rattle.kernel_laws.specs.call_table.Table as calls
use Rattle.kernel_laws.specs.call_table.Lookups.{named}
use Rattle.exec_settings.specs.site_table.declared.row.Row.{Row}
use Rattle.exec_settings.specs.site_table.Kinds.{is_exe}
use Rattle.exec_settings.specs.site_table.Table.{Site, row_at}
use Rattle.kernel_laws.specs.kern_creds.Exec.{is_privileged}
use Rattle.kernel_laws.specs.kern_mounts.Finds.{Found, row, empty_directory, nothing, finds}
use Rattle.kernel_laws.specs.kern_mounts.declared.step.Flags.{Flags}
use Rattle.kernel_laws.specs.kern_mounts.declared.step.MountStep.{MountStep}
use Rattle.kernel_laws.specs.kern_mounts.Split.{Table}
use Rattle.kernel_laws.specs.kernel_model.kern_files.Executing.{marks_of}
use Rattle.kernel_laws.specs.kernel_model.declared.kernel_calls.call.Call.{Call}
use Rattle.kernel_laws.specs.kernel_model.declared.kernel_calls.payload.Payload.{Payload}
use Rattle.kernel_laws.specs.kernel_model.declared.kernel_calls.payload.Payload.TheVariants.{Nothing, OnePath, Sets, Ids, Code}
use Rattle.kernel_laws.specs.kernel_model.declared.reply.Reply.{Reply}
use Rattle.kernel_laws.specs.kernel_model.declared.reply.Reply.TheVariants.{Done, Refused, Killed}
use Rattle.kernel_laws.specs.kernel_model.MountStep.{after_mount_step}
use Rattle.kernel_laws.specs.kernel_model.Step.{step}
use Rattle.kernel_laws.specs.kernel_model.World.{World, start_world}
use Rattle.kernel_laws.specs.Questions.{if_so, count_from}

-- the parameters of a launch; each filter's program is given as bytes, in the order of the filters
pub record Wanted : Type 0 where
  pub program : Path
  pub uid : ℕ
  pub gid : ℕ
  pub groups : List ℕ
  pub bounding : ℕ
  pub ambient : ℕ
  pub keeps_capabilities : Bool
  pub no_new_privs : Bool
  pub mdwe : Bool
  pub programs : List (List ℕ)

-- a call of process 1, or an entry that process 1 is given; the launcher makes the mount points itself
pub data LaunchStep : Type 0 where
  Makes : Call → LaunchStep
  Mounts : MountStep → LaunchStep

-- PR_SET_KEEPCAPS, PR_CAPBSET_DROP, PR_SET_NO_NEW_PRIVS, PR_CAP_AMBIENT with PR_CAP_AMBIENT_RAISE, and PR_SET_MDWE with
-- PR_MDWE_REFUSE_EXEC_GAIN, prctl(2)
abbrev pub set_keepcaps : ℕ
set_keepcaps = 8

abbrev pub capbset_drop : ℕ
capbset_drop = 24

abbrev pub set_no_new_privs : ℕ
set_no_new_privs = 38

abbrev pub cap_ambient : ℕ
cap_ambient = 47

abbrev pub ambient_raise : ℕ
ambient_raise = 2

abbrev pub set_mdwe : ℕ
set_mdwe = 65

abbrev pub refuse_exec_gain : ℕ
refuse_exec_gain = 1

-- SECCOMP_SET_MODE_FILTER, seccomp(2)
abbrev pub set_mode_filter : ℕ
set_mode_filter = 1

-- CLONE_NEWNS, unshare(2)
abbrev pub new_mounts : ℕ
new_mounts = 0x2_0000

-- the number that the table has for a name
abbrev pub number_of : List CallLine → List ℕ → ℕ
number_of lines name = option_map_or (λ line. line.number) (named name lines) 0

abbrev pub first_call : List CallLine → List ℕ → List ℕ → Payload → Call
first_call lines name args payload = record { pid = 1; abi = 0; nr = number_of lines name; args = args; payload = payload }

-- a call of this name with these words, the others 0
abbrev pub makes : List CallLine → List ℕ → ℕ → ℕ → ℕ → Payload → LaunchStep
makes lines name one two three payload = Makes (first_call lines name (one ∷ two ∷ three ∷ 0 ∷ 0 ∷ 0 ∷ []) payload)

abbrev pub has_flags : Flags → Bool
has_flags flags = flags.read_only || (flags.no_exec || flags.no_suid)

-- one step for each planned entry but the first, and before them one for the flags of the first, where it has any
abbrev pub mount_steps : Table → List LaunchStep
mount_steps [] = []
mount_steps (first ∷ rest) = if_so (has_flags first.flags) (Mounts first) ++ map Mounts rest

-- unshare(2) before them, where there are any
abbrev pub with_unshare : List CallLine → List LaunchStep → List LaunchStep
with_unshare lines [] = []
with_unshare lines (step ∷ steps) = makes lines (codes "unshare") new_mounts 0 0 Nothing ∷ step ∷ steps

abbrev pub capset_step : List CallLine → ℕ → ℕ → ℕ → LaunchStep
capset_step lines permitted effective inheritable = makes lines (codes "capset") 0 0 0 (Sets permitted effective inheritable)

abbrev pub prctl_step : List CallLine → ℕ → ℕ → ℕ → LaunchStep
prctl_step lines option value third = makes lines (codes "prctl") option value third Nothing

-- setgroups(2), and then setresgid(2) of all three gids
abbrev pub group_steps : List CallLine → Wanted → List LaunchStep
group_steps lines wanted =
    makes lines (codes "setgroups") 0 0 0 (Ids wanted.groups) ∷
    makes lines (codes "setresgid") wanted.gid wanted.gid wanted.gid Nothing ∷ []

-- what a launch can keep until the filters are installed. Without no_new_privs, seccomp(2) needs CAP_SYS_ADMIN. PR_CAPBSET_DROP, which gives
-- the two up again, needs CAP_SETPCAP (keep_seccomp_privileges of systemd 257)
abbrev pub held : ℕ
held = union (single cap_setpcap) (single cap_sys_admin)

abbrev pub held_if : Bool → ℕ
held_if keeps = if keeps then held else none

-- the set, with what is kept
abbrev pub with_held : Bool → ℕ → ℕ
with_held keeps set = if keeps then union set held else set

-- each capability outside a set is dropped from the bounding set, ascending
abbrev pub outside_steps : List CallLine → ℕ → List LaunchStep
outside_steps lines set =
    map (λ cap. prctl_step lines capbset_drop cap 0) (filter (λ cap. not (has set cap)) (count_from 0 (cap_last_cap + 1)))

-- what is neither in the bounding set nor kept is dropped from it
abbrev pub drop_steps : List CallLine → Wanted → List LaunchStep
drop_steps lines wanted = outside_steps lines (with_held wanted.keeps_capabilities wanted.bounding)

-- the ambient set and what is kept become inheritable, with all else that the first process has
abbrev pub inherit_steps : List CallLine → Wanted → List LaunchStep
inherit_steps lines wanted = capset_step lines all all (with_held wanted.keeps_capabilities wanted.ambient) ∷ []

abbrev pub if_user : ℕ → List LaunchStep → List LaunchStep
if_user uid steps = if uid == 0 then [] else steps

-- another user keeps its permitted set while setresuid(2) takes all three uids
abbrev pub user_steps : List CallLine → Wanted → List LaunchStep
user_steps lines wanted =
    if_user wanted.uid (prctl_step lines set_keepcaps 1 0 ∷ makes lines (codes "setresuid") wanted.uid wanted.uid wanted.uid Nothing ∷ [])

-- each capability of the ambient set is raised, ascending
abbrev pub raise_steps : List CallLine → Wanted → List LaunchStep
raise_steps lines wanted = map (λ cap. prctl_step lines cap_ambient ambient_raise cap)
    (filter (has wanted.ambient) (count_from 0 (cap_last_cap + 1)))

-- another user has this set and no more
abbrev pub left_by : List CallLine → ℕ → ℕ → List LaunchStep
left_by lines uid set = if_user uid (capset_step lines set set set ∷ [])

-- it has the ambient set and what is kept
abbrev pub left_steps : List CallLine → Wanted → List LaunchStep
left_steps lines wanted = left_by lines wanted.uid (with_held wanted.keeps_capabilities wanted.ambient)

abbrev pub privilege_steps : List CallLine → Wanted → List LaunchStep
privilege_steps lines wanted = if_so wanted.no_new_privs (prctl_step lines set_no_new_privs 1 0)

-- memory to be both written and executed is refused
abbrev pub memory_steps : List CallLine → Wanted → List LaunchStep
memory_steps lines wanted = if_so wanted.mdwe (prctl_step lines set_mdwe refuse_exec_gain 0)

abbrev pub filter_steps : List CallLine → List (List ℕ) → List LaunchStep
filter_steps lines programs = map (λ bytes. makes lines (codes "seccomp") set_mode_filter 0 0 (Code bytes)) programs

-- each capability of a set is dropped from the bounding set, ascending
abbrev pub given_up_steps : List CallLine → ℕ → List LaunchStep
given_up_steps lines set = map (λ cap. prctl_step lines capbset_drop cap 0) (filter (has set) (count_from 0 (cap_last_cap + 1)))

-- with the filters in force, what was kept is given up: what the bounding set lacks of it is dropped from that. Then the ambient set alone is
-- permitted and effective, and what of it is in the bounding set stays inheritable
abbrev pub give_up_steps : List CallLine → Wanted → List LaunchStep
give_up_steps lines wanted =
    if wanted.keeps_capabilities
    then given_up_steps lines (minus held wanted.bounding)
    ++ capset_step lines wanted.ambient wanted.ambient (union wanted.ambient (cut held wanted.bounding)) ∷ []
    else []

abbrev pub program_steps : List CallLine → Path → List LaunchStep
program_steps lines program = makes lines (codes "execve") 0 0 0 (OnePath program) ∷ []

-- with the filters in force: what was kept is given up, and the program runs
abbrev pub last_steps : List CallLine → Wanted → List LaunchStep
last_steps lines wanted = give_up_steps lines wanted ++ program_steps lines wanted.program

-- what the service is made before its filters: the groups and gids, the bounding set, the ambient set made inheritable, the
-- uids, the ambient set, no_new_privs, the mark that refuses memory
abbrev pub identity_steps : List CallLine → Wanted → List LaunchStep
identity_steps lines wanted =
    group_steps lines wanted ++ drop_steps lines wanted ++ inherit_steps lines wanted ++ user_steps lines wanted
    ++ raise_steps lines wanted ++ left_steps lines wanted ++ privilege_steps lines wanted ++ memory_steps lines wanted

-- then the filters, and the last steps
abbrev pub call_steps : List CallLine → Wanted → List LaunchStep
call_steps lines wanted = identity_steps lines wanted ++ filter_steps lines wanted.programs ++ last_steps lines wanted

-- the mounts in a namespace of their own, and then the calls
abbrev pub launch_steps : List CallLine → Wanted → Table → List LaunchStep
launch_steps lines wanted plan = with_unshare lines (mount_steps plan) ++ call_steps lines wanted

-- the result of a step: a mount step is never refused
abbrev pub launch_step : World → LaunchStep → Reply × World
launch_step world (Makes call) = step world call
launch_step world (Mounts entry) = (Done 0, after_mount_step world 1 entry)

-- how a launch ends: in this world after so many steps; at the first step that is not done, counted from 1; or before all
-- steps, since the program has a set-id bit or capabilities
pub data LaunchOutcome : Type 0 where
  Launched : World → ℕ → LaunchOutcome
  StepRefused : ℕ → ℕ → LaunchOutcome
  StepKilled : ℕ → LaunchOutcome
  PrivilegedProgram : Path → LaunchOutcome

abbrev pub launch_on : Reply → ℕ → LaunchOutcome → LaunchOutcome
launch_on (Done value) count rest = rest
launch_on (Refused errno) count rest = StepRefused count errno
launch_on Killed count rest = StepKilled count

-- the steps in order, after so many others
abbrev pub launch_from : World → List LaunchStep → ℕ → LaunchOutcome
launch_from world [] count = Launched world count
launch_from world (step ∷ steps) count =
    launch_on (launch_step world step).0 (count + 1) (launch_from (launch_step world step).1 steps (count + 1))

-- an executable file with a set-id bit or capabilities
abbrev pub is_privileged_row : Found Row → Bool
is_privileged_row (row found) = is_exe found.kind && is_privileged (marks_of found)
is_privileged_row empty_directory = false
is_privileged_row (nothing errno) = false

-- the launch in the world that a kernel of these tables starts with
abbrev pub launch : calls.Table → Site → Wanted → Table → LaunchOutcome
launch calls site wanted plan =
    if is_privileged_row (finds (row_at site.rows) plan wanted.program) then PrivilegedProgram wanted.program
    else launch_from (start_world calls site) (launch_steps calls.calls wanted plan) 0
