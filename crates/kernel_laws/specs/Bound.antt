-- The ceiling of a launched service, computed; and what it makes of each question.
use Rattle.std.specs.Prelude.{ℕ, ◌==◌, Bool, true, false, List, [], ◌∷◌, Option, Some, None, if◌then◌else◌, not, ◌&&◌, ◌||◌, slice_get}
use Rattle.std.specs.List.{list_any}
use Rattle.std.specs.Str.{bytes_eq}
use Rattle.filter_settings.specs.call_table.declared.listed.CallLine.{CallLine}
use Rattle.filter_settings.specs.call_table.Table.{every_call}
use Rattle.kernel_model.specs.cap_sets.Sets.{has, none, union, cut, within}
use Rattle.kernel_model.specs.site_table.declared.row.Row.{Row}
use Rattle.filter_settings.specs.linux_numbers.Capabilities.{cap_sys_admin, cap_sys_nice, cap_setuid, cap_setgid}
use Rattle.kernel_laws.specs.Bounds.{Bounds}
use Rattle.kernel_model.specs.site_table.Kinds.{is_dir, is_exe}
use Rattle.kernel_laws.specs.Reach.{reaches, reaches_with, mount_wish, runs_marked, runs_unmarked}
use Rattle.kernel_model.specs.declared.kernel_calls.rule.Rule.{Rule}
use Rattle.kernel_model.specs.declared.kernel_calls.rule.Rule.TheVariants.{Plain}
use Rattle.kernel_model.specs.kernel_calls.Rules.{rule_of}
use Rattle.kernel_laws.specs.declared.question_types.power.Power.{Power}
use Rattle.kernel_laws.specs.declared.question_types.power.Power.TheVariants.{None as Nowise, Unmount as Unmounting, Mount as Mounting}
use Rattle.kernel_laws.specs.declared.question_types.kind.CallKind.{CallKind}
use Rattle.kernel_laws.specs.declared.question_types.kind.CallKind.TheVariants.{ForPath, PlainCall, ForFamily, ForNamespace, MapsWx}
use Rattle.kernel_laws.specs.declared.question_types.kind.CallKind.TheVariants.{ProtectsX, AttachesX, AttachesReadOnlyX, SchedulesRealtime, SetsRealtime}
use Rattle.kernel_laws.specs.declared.question_types.kind.CallKind.TheVariants.{TakesPersonality}
use Rattle.kernel_laws.specs.declared.question_types.kind.CallKind.TheVariants.{SetsMode, OpensMode, CreatesMode, ChangesMounts, RemovesMounts, SetsCaps, TakesUid}
use Rattle.kernel_laws.specs.declared.question_types.kind.CallKind.TheVariants.{TakesGid}
use Rattle.kernel_laws.specs.declared.question_types.wish.Wish.{Wish}
use Rattle.kernel_laws.specs.declared.question_types.wish.Wish.TheVariants.{See as ToSee, Read as ToRead, Write as ToWrite, Exec as ToExec}
use Rattle.filter_settings.specs.linux_numbers.declared.namespaces.NamespaceType.{NamespaceType}
use Rattle.filter_settings.specs.linux_numbers.declared.namespaces.NamespaceType.TheVariants.{User}
use Rattle.kernel_laws.specs.declared.question_types.question.Question.{Question}
use Rattle.kernel_laws.specs.declared.question_types.question.Question.TheVariants.{Path as ByPath, Call, Socket, Namespace as Ns, MapWx}
use Rattle.kernel_laws.specs.declared.question_types.question.Question.TheVariants.{ProtectX, ShmX, Realtime, Personality, SuidBit, Cap}
use Rattle.kernel_laws.specs.declared.question_types.question.Question.TheVariants.{Uid, Gid}
use Rattle.kernel_laws.specs.Launched.{Launch, lets, lets_line, can_make_user, can_submit, makes_ring}

-- the union over the rows
abbrev pub gathered : (Row → ℕ) → List Row → ℕ
gathered f [] = none
gathered f (row ∷ rows) = union (f row) (gathered f rows)

-- the set, if so
abbrev pub when : Bool → ℕ → ℕ
when b set = if b then set else none

-- the owner of a set-id bit, if there is one, is this id
abbrev pub is_owner : ℕ → Option ℕ → Bool
is_owner id None = false
is_owner id (Some owner) = owner == id

-- execve refuses the row whatever the process, unless its marks are not looked at: its effective bit is set, and the bounding set
-- withholds one of its capabilities (capabilities(7), "Safety checking for capability-dumb binaries")
abbrev pub is_barred : Launch → Row → Bool
is_barred launch row = row.effective && not (within row.caps launch.creds.bounding)

-- a program that some table leads to where execve looks at its marks, and that execve does not refuse
abbrev pub can_run : Launch → Power → Row → Bool
can_run launch power row = (is_exe row.kind && reaches_with power launch.table row.path runs_marked) && not (is_barred launch row)

-- some table leads to the row where execve does not look at its marks. There it refuses no row for them, and they give nothing
abbrev pub runs_plainly : Launch → Power → Row → Bool
runs_plainly launch power row = reaches_with power launch.table row.path runs_unmarked

-- the capabilities that execve of a row, and capset after it, make effective. A program that runs as root has all of the bounding set.
-- Any other has the file's capabilities that are in the bounding set, by its effective bit or by capset
abbrev pub file_gain : Launch → Row → ℕ
file_gain launch row =
    if is_owner 0 row.setuid then launch.creds.bounding
    else when (row.effective || lets launch SetsCaps) (cut row.caps launch.creds.bounding)

-- the same, if the row can be run
abbrev pub gain_at : Launch → Power → Row → ℕ
gain_at launch power row = when (can_run launch power row) (file_gain launch row)

-- the capabilities of the launch, and those that running rows gives
abbrev pub caps_before : Launch → Power → ℕ
caps_before launch power = union launch.creds.effective (gathered (gain_at launch power) launch.site.rows)

-- who has CAP_SETUID, where it may be used, becomes root, and has all of the bounding set
abbrev pub with_root : Launch → Bool → ℕ → ℕ
with_root launch uids caps = union caps (when (has caps cap_setuid && uids) launch.creds.bounding)

-- the capabilities that can become effective, by whether CAP_SETUID may be used; with no_new_privs none are added, prctl(2)
abbrev pub caps_by : Launch → Bool → Power → ℕ
caps_by launch uids power = if launch.creds.no_new_privs then launch.creds.effective else with_root launch uids (caps_before launch power)

-- the same, where CAP_SETUID may be used by each call that passes and takes a uid
abbrev pub caps_at : Launch → Power → ℕ
caps_at launch power = caps_by launch (lets launch TakesUid) power

-- the power over mount tables. The arguments say whether CAP_SYS_ADMIN can be gained on the launched table, whether mount
-- passes the filters, and whether umount2 does
abbrev pub power_by : Bool → Bool → Bool → Power
power_by false mounts unmounts = Nowise
power_by true true unmounts = Mounting
power_by true false true = Unmounting
power_by true false false = Nowise

-- how far the service can change its mount tables, mount(2), umount2(2), by whether CAP_SETUID may be used
abbrev pub power_using : Launch → Bool → Power
power_using launch uids = power_by (has (caps_by launch uids Nowise) cap_sys_admin) (lets launch ChangesMounts) (lets launch RemovesMounts)

-- the same, where CAP_SETUID may be used by each call that passes and takes a uid
abbrev pub power_of : Launch → Power
power_of launch = power_using launch (lets launch TakesUid)

-- the capability can give every id, if the service may use it
abbrev pub any_by : Bool → ℕ → ℕ → Bool
any_by may number effective = has effective number && may

-- every uid can be taken, setuid(2)
abbrev pub any_uid : Launch → ℕ → Bool
any_uid launch effective = any_by (lets launch TakesUid) cap_setuid effective

-- a program that can be run has a set-user-id bit of this owner
abbrev pub owned_by : Launch → Power → ℕ → Row → Bool
owned_by launch power id row = can_run launch power row && is_owner id row.setuid

-- every gid can be taken, setgid(2), setgroups(2)
abbrev pub any_gid : Launch → ℕ → Bool
any_gid launch effective = any_by (lets launch TakesGid) cap_setgid effective

-- a program that can be run has a set-group-id bit of this group
abbrev pub grouped_by : Launch → Power → ℕ → Row → Bool
grouped_by launch power id row = can_run launch power row && is_owner id row.setgid

-- the bounds at a power, by whether CAP_SETUID may be used and whether CAP_SETGID may
abbrev pub bounds_by : Launch → Bool → Bool → Power → Bounds
bounds_by launch uids gids power = record {
  no_new_privs = launch.creds.no_new_privs;
  mdwe = launch.creds.mdwe;
  ring = makes_ring launch;
  bounding = launch.creds.bounding;
  inheritable = if lets launch SetsCaps then launch.creds.bounding else launch.creds.inheritable;
  effective = caps_by launch uids power;
  permitted =
      if launch.creds.no_new_privs then launch.creds.effective
      else union (caps_by launch uids power)
      (gathered (λ row. when (can_run launch power row) (cut row.caps launch.creds.bounding)) launch.site.rows);
  uid = λ id. any_by uids cap_setuid (caps_by launch uids power) ||
      (id == launch.creds.uids.effective || (not launch.creds.no_new_privs && list_any (owned_by launch power id) launch.site.rows));
  gid = λ id. any_by gids cap_setgid (caps_by launch uids power) ||
      ((id == launch.creds.gids.effective || list_any (λ group. id == group) launch.creds.groups) ||
      (not launch.creds.no_new_privs && list_any (grouped_by launch power id) launch.site.rows));
}

-- the same, where each may be used by each call that passes and takes such an id
abbrev pub bounds_at : Launch → Power → Bounds
bounds_at launch power = bounds_by launch (lets launch TakesUid) (lets launch TakesGid) power

-- the bounds of the service
abbrev pub ceiling : Launch → Bounds
ceiling launch = bounds_at launch (power_of launch)

-- the capability that a call or a family needs, if any, can be gained
abbrev pub can_have_cap : Bounds → Option ℕ → Bool
can_have_cap top None = true
can_have_cap top (Some cap) = has top.effective cap

-- the capability of a plain call
abbrev pub can_have_for : Bounds → Option Rule → Bool
can_have_for top (Some (Plain cap)) = can_have_cap top cap
can_have_for top _ = true

-- the row is to be executed
abbrev pub is_to_exec : Wish → Bool
is_to_exec ToExec = true
is_to_exec ToSee = false
is_to_exec ToRead = false
is_to_exec ToWrite = false

-- user namespaces
abbrev pub is_user : NamespaceType → Bool
is_user User = true
is_user _ = false

-- a call for the wish passes, or a request for it can be submitted to a ring
abbrev pub can_ask : Launch → Wish → Bool
can_ask launch wish = lets launch (ForPath wish) || (not (is_to_exec wish) && can_submit launch)

-- a row can be seen, read, written or run: it can be asked for, some table shows it, and execve does not refuse it. Execve refuses none
-- by marks that it does not look at, and none in a newer user namespace, because the bounding set is full there
abbrev pub can_reach : Launch → Power → Wish → Row → Bool
can_reach launch power wish row =
    (can_ask launch wish && reaches power launch.table row.path (mount_wish row.kind wish))
    && not (((is_to_exec wish && is_barred launch row) && not (runs_plainly launch power row)) && not (can_make_user launch))

-- the test holds of the listed thing, if there is one
abbrev pub if_listed : {X : Type 0} → (X → Bool) → Option X → Bool
if_listed p None = false
if_listed p (Some x) = p x

-- a plain call with this name passes in some ABI, and its capability can be gained
abbrev pub is_call_open : Launch → Bounds → CallLine → Bool
is_call_open launch top line = list_any (λ other. bytes_eq line.name other.name && lets_line launch PlainCall other)
    (every_call launch.calls) && can_have_for top (rule_of line)

-- a call that makes a socket of the family passes, or a request for one can be submitted to a ring
abbrev pub can_make_socket : Launch → ℕ → Bool
can_make_socket launch family = lets launch (ForFamily family) || can_submit launch

-- a file that some table shows where it can be written
abbrev pub can_write : Launch → Power → Row → Bool
can_write launch power row = not (is_dir row.kind) && reaches power launch.table row.path (mount_wish row.kind ToWrite)

-- creat(2) of some file passes with a set-id bit: it writes the file, so the file must be such
abbrev pub can_create : Launch → Power → Bool
can_create launch power = lets launch CreatesMode && list_any (can_write launch power) launch.site.rows

-- shmat(2) of memory to be executed: once PR_SET_MDWE of prctl(2) refuses memory to be both written and executed, it is not to be written
abbrev pub attaching : Launch → CallKind
attaching launch = if launch.creds.mdwe then AttachesReadOnlyX else AttachesX

-- the verdict: open or denied
abbrev pub open_at : Launch → Power → Bounds → Question → Bool
open_at launch power top (ByPath wish place) = if_listed (can_reach launch power wish) (slice_get launch.site.rows place)
open_at launch power top (Call place) = if_listed (is_call_open launch top) (slice_get (every_call launch.calls) place)
open_at launch power top (Socket place) = if_listed (λ line. can_make_socket launch line.number && can_have_cap top line.cap)
    (slice_get launch.calls.families place)
open_at launch power top (Ns space) =
    if is_user space then can_make_user launch else lets launch (ForNamespace space) &&
    (has top.effective cap_sys_admin || can_make_user launch)
open_at launch power top MapWx = not launch.creds.mdwe && lets launch MapsWx
open_at launch power top ProtectX = lets launch ProtectsX
open_at launch power top ShmX = lets launch (attaching launch)
open_at launch power top Realtime = lets launch SchedulesRealtime || (lets launch SetsRealtime && can_have_cap top (Some cap_sys_nice))
open_at launch power top Personality = lets launch TakesPersonality
open_at launch power top SuidBit = ((lets launch SetsMode || lets launch OpensMode) || can_submit launch) || can_create launch power
open_at launch power top (Cap number) = has top.effective number
open_at launch power top (Uid id) = top.uid id
open_at launch power top (Gid id) = top.gid id

-- the verdict of a launch by its own power and bounds
abbrev pub is_open : Launch → Question → Bool
is_open launch question = open_at launch (power_of launch) (ceiling launch) question
