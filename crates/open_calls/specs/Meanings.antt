-- What a way of gaining a capability means, over the rows of the site; and what gives and takes an id.
use Rattle.std.specs.Prelude.{ℕ, Bool, ◌==◌, ◌||◌}
use Rattle.std.specs.List.{list_any}
use Rattle.open_calls.specs.chosen_calls.Gaining as way
use Rattle.ceilings.specs.kernel_laws.Bound.{is_owner}
use Rattle.ceilings.specs.kernel_laws.declared.question_types.kind.CallKind.{CallKind}
use Rattle.ceilings.specs.kernel_laws.declared.question_types.kind.CallKind.TheVariants.{TakesUid, TakesGid}
use Rattle.ceilings.specs.kernel_laws.declared.question_types.question.Question.{Question}
use Rattle.ceilings.specs.kernel_laws.declared.question_types.question.Question.TheVariants.{Uid, Gid}
use Rattle.ceilings.specs.kernel_laws.Launched.{Launch}
use Rattle.ceilings.specs.linux_numbers.Capabilities.{cap_setuid, cap_setgid}
use Rattle.ceilings.specs.site_table.declared.row.Row.{Row}
use Rattle.open_calls.specs.declared.ids.IdKind.{IdKind}
use Rattle.open_calls.specs.declared.ids.IdKind.TheVariants.{User, Group}
use Rattle.open_calls.specs.declared.ways.FileWay.{FileWay}
use Rattle.open_calls.specs.declared.ways.FileWay.TheVariants.{Held, Run, Capset}
use Rattle.open_calls.specs.declared.ways.CapWay.{CapWay}
use Rattle.open_calls.specs.declared.ways.CapWay.TheVariants.{File, Root}
use Rattle.open_calls.specs.declared.ways.GainWay.{GainWay}
use Rattle.open_calls.specs.declared.ways.GainWay.TheVariants.{AtOnce, Behind}

abbrev pub meant_file : FileWay → way.FileWay
meant_file Held = way.Held
meant_file (Run row) = way.ByRun row.now
meant_file (Capset row) = way.ByCapset row.now

abbrev pub meant_cap : CapWay → way.CapWay
meant_cap (File file) = way.ByFile (meant_file file)
meant_cap (Root file) = way.ByRoot (meant_file file)

abbrev pub meant_gain : GainWay → way.GainWay
meant_gain (AtOnce cap) = way.AtOnce (meant_cap cap)
meant_gain (Behind admin cap) = way.Behind (meant_cap admin) (meant_cap cap)

-- the calls that take such an id, setuid(2), setgid(2)
abbrev pub meant_kind : IdKind → CallKind
meant_kind User = TakesUid
meant_kind Group = TakesGid

-- the capability that they ask for
abbrev pub meant_number : IdKind → ℕ
meant_number User = cap_setuid
meant_number Group = cap_setgid

-- a set-id bit of the row gives it, inode(7)
abbrev pub gives : IdKind → ℕ → Row → Bool
gives User id row = is_owner id row.setuid
gives Group id row = is_owner id row.setgid

-- the launch has it, credentials(7)
abbrev pub is_had : IdKind → Launch → ℕ → Bool
is_had User launch id = id == launch.creds.uids.effective
is_had Group launch id = id == launch.creds.gids.effective || list_any (λ group. id == group) launch.creds.groups

-- the question whether the service can get the id
abbrev pub asked : IdKind → ℕ → Question
asked User id = Uid id
asked Group id = Gid id
