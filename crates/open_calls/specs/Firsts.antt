-- The first call of a kind, which of them a service keeps, and the ways that it keeps.
use Rattle.std.specs.Prelude.{◌≡◌, ℕ, List, Option, Some, slice_get, option_map, IfSome}
use Rattle.ceilings.specs.call_table.declared.listed.CallLine.{CallLine}
use Rattle.open_calls.specs.chosen_calls.First.{args_of, line_of, own_rule}
use Rattle.open_calls.specs.chosen_calls.Gaining.{gain}
use Rattle.ceilings.specs.kernel_model.declared.kernel_calls.call.Call.{Call}
use Rattle.ceilings.specs.kernel_model.declared.kernel_calls.payload.Payload.{Payload}
use Rattle.ceilings.specs.kernel_laws.declared.question_types.kind.CallKind.{CallKind}
use Rattle.ceilings.specs.kernel_laws.declared.question_types.kind.CallKind.TheVariants.{ForPath, ChangesMounts, RemovesMounts, SetsCaps}
use Rattle.ceilings.specs.kernel_laws.declared.question_types.kind.CallKind.TheVariants.{TakesUid, TakesGid}
use Rattle.ceilings.specs.kernel_laws.declared.question_types.wish.Wish.TheVariants.{See as ToSee, Read as ToRead, Write as ToWrite}
use Rattle.ceilings.specs.kernel_laws.declared.question_types.wish.Wish.TheVariants.{Exec as ToExec}
use Rattle.ceilings.specs.kernel_laws.Launched.{Launch}
use Rattle.ceilings.specs.kernel_ways.Ways.{CallAt}
use Rattle.open_calls.specs.Meanings.{meant_gain}
use Rattle.open_calls.specs.declared.first.FirstCall.{FirstCall}
use Rattle.open_calls.specs.declared.firsts.Firsts.{Firsts}
use Rattle.open_calls.specs.declared.gains.Gained.{Gained}
use Rattle.open_calls.specs.declared.ways.GainWay.{GainWay}
use Rattle.open_calls.specs.declared.gains.Gained.TheVariants.{Unasked, Found}

-- the call of a line, with the words that ask for the kind and with its rule
abbrev pub first_as : Launch → CallKind → CallLine → FirstCall
first_as launch kind line = record { abi = line.abi; nr = line.number; args = args_of launch kind line; rule = own_rule line }

abbrev pub first_of : Launch → CallKind → FirstCall
first_of launch kind = first_as launch kind (line_of launch kind)

-- where it is
abbrev pub place_in : FirstCall → CallAt
place_in first = record { abi = first.abi; nr = first.nr }

-- the call by process 1
abbrev pub call_as : FirstCall → List ℕ → Payload → Call
call_as first args payload = record { pid = 1; abi = first.abi; nr = first.nr; args = args; payload = payload }

-- what is kept is the first call of its kind
abbrev pub IsFirst : Launch → CallKind → Option FirstCall → Type 0
IsFirst launch kind kept = IfSome kept (λ first. first ≡ first_of launch kind)

pub record AreFirsts (launch : Launch) (firsts : Firsts) : Type 0 where
  pub see : IsFirst launch (ForPath ToSee) firsts.see
  pub read : IsFirst launch (ForPath ToRead) firsts.read
  pub write : IsFirst launch (ForPath ToWrite) firsts.write
  pub exec : IsFirst launch (ForPath ToExec) firsts.exec
  pub mount : IsFirst launch ChangesMounts firsts.mount
  pub unmount : IsFirst launch RemovesMounts firsts.unmount
  pub capset : IsFirst launch SetsCaps firsts.capset
  pub uid : IsFirst launch TakesUid firsts.uid
  pub gid : IsFirst launch TakesGid firsts.gid

-- what is kept of a capability is how it is gained
abbrev pub IsGained : Launch → ℕ → Gained → Type 0
IsGained launch number Unasked = Unit {0}
IsGained launch number (Found way) = option_map meant_gain way ≡ gain launch number

abbrev pub AreGained : Launch → List Gained → Type 0
AreGained launch list = (number : ℕ) (way : Option GainWay) → slice_get list number ≡ Some (Found way)
    → option_map meant_gain way ≡ gain launch number
