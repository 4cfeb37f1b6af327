-- The data at which a program answers otherwise than the ends of another one.
use Rattle.std.specs.Prelude.{◌≡◌, ◌≢◌, ◌⊎◌, ℕ, List, Option, Some, None, Any, IfSome}
use Rattle.seccomp_compile.specs.bpf_code.declared.machine.Insn.{Insn}
use Rattle.seccomp_compile.specs.bpf_code.declared.machine.CallData.{CallData}
use Rattle.seccomp_compile.specs.bpf_code.declared.machine.Regs.{Regs}
use Rattle.seccomp_compile.specs.bpf_code.Effects.{words_of}
use Rattle.seccomp_compile.specs.bpf_code.Meaning.{Answers, IsCallData}
use Rattle.filter_check.specs.filter_paths.Regions.{IsWithin, held_word}
use Rattle.filter_check.specs.filter_paths.Traces.{Takes}
use Rattle.filter_check.specs.filter_paths.Covered.{Comes}
use Rattle.filter_check.specs.declared.filter_paths.region.Region.{Region}
use Rattle.filter_check.specs.declared.filter_paths.states.State.{State}
use Rattle.filter_check.specs.declared.filter_paths.states.End.{End}
use Rattle.filter_check.specs.declared.differences.Difference.{Difference}
use Rattle.filter_check.specs.Order.{IsNotAfter}

-- an end has these data and this answer, and the program has the other answer on them
pub record DiffersFrom (ends : List End) (code : List Insn) (input : CallData) (theirs ours : ℕ) : Type 0 where
  pub fits : IsCallData input
  pub of_end : Any (λ end. IsWithin end.region input × (end.answer ≡ theirs)) ends
  pub answers : Answers code input ours
  pub differ : theirs ≢ ours

-- the difference, if there is one, is at such data
abbrev pub IsDifference : List End → List Insn → Option Difference → Type 0
IsDifference ends code None = Unit {0}
IsDifference ends code (Some found) = DiffersFrom ends code found.at found.theirs found.ours

-- there is a difference, and its data are not after these
abbrev pub IsNoLater : Option Difference → CallData → Type 0
IsNoLater None input = ⊥
IsNoLater (Some found) input = IsNotAfter (words_of found.at) (words_of input)

-- the difference is the least of all, or there is none
pub record IsLeastFrom (ends : List End) (code : List Insn) (found : Option Difference) : Type 0 where
  pub is_one : IsDifference ends code found
  pub no_later : (input : CallData) (theirs ours : ℕ) → DiffersFrom ends code input theirs ours → IsNoLater found input

-- the difference at the least data of an end of ours
abbrev pub difference_at : ℕ → End → Difference
difference_at theirs end = record { at = end.least; theirs = theirs; ours = end.answer }

-- the new difference is the lesser of the old one and the difference of the end, if the end has another answer than theirs
pub record IsLesserAt (end : End) (theirs : ℕ) (old new : Option Difference) : Type 0 where
  pub comes_of : (new ≡ old) ⊎ ((theirs ≢ end.answer) × (new ≡ Some (difference_at theirs end)))
  pub kept : IfSome old (λ one. IsNoLater new one.at)
  pub no_later : theirs ≢ end.answer → IsNoLater new end.least

-- there is a difference, and it is not after any data of the region
abbrev pub IsPassed : Option Difference → Region → Type 0
IsPassed found region = (input : CallData) → IsCallData input → IsWithin region input → IsNoLater found input

-- from the state on, the program takes some path to this answer on these data
abbrev pub Reaches : List Insn → State → CallData → ℕ → Type 0
Reaches code state input answer =
    (regs : Regs) → regs.a ≡ held_word state.held input → (path : List ℕ) × Takes code input state.at regs path answer

-- on these data of the state the program gives the other answer
pub record DiffersAtState (code : List Insn) (state : State) (found : Difference) : Type 0 where
  pub comes : Comes state found.at
  pub reaches : Reaches code state found.at found.ours
  pub differ : found.theirs ≢ found.ours

-- the new difference is the old one, or one at data of the state, from this answer of theirs
abbrev pub ComesOf : List Insn → State → ℕ → Option Difference → Option Difference → Type 0
ComesOf code state theirs old new =
    (new ≡ old) ⊎ ((found : Difference) × (new ≡ Some found) × (found.theirs ≡ theirs) × DiffersAtState code state found)

-- the new difference is the least of the old one and the differences at the data of the state: on all data before it the program gives
-- their answer
pub record IsLesser (code : List Insn) (state : State) (theirs : ℕ) (old new : Option Difference) : Type 0 where
  pub comes_of : ComesOf code state theirs old new
  pub kept : IfSome old (λ one. IsNoLater new one.at)
  pub no_later : (input : CallData) → Comes state input → IsNoLater new input ⊎ Reaches code state input theirs
