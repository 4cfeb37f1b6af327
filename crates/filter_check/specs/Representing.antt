-- Ends that represent other ends in a comparison with a program.
use Rattle.std.specs.Prelude.{◌≡◌, ◌≢◌, ◌+◌, ◌/◌, ◌<◌, ℕ, Bool, true, false, List, [], get_or, slice_get, Some}
use Rattle.seccomp_compile.specs.bpf_code.declared.machine.Insn.{Insn}
use Rattle.seccomp_compile.specs.bpf_code.declared.machine.CallData.{CallData}
use Rattle.seccomp_compile.specs.bpf_code.Codes.{ld, w, abs}
use Rattle.seccomp_compile.specs.bpf_code.Effects.{words_of}
use Rattle.seccomp_compile.specs.bpf_code.Meaning.{Answers, IsCallData}
use Rattle.seccomp_compile.specs.bpf_code.Reading.{IsProgram}
use Rattle.seccomp_compile.specs.Form.{AreOfForm}
use Rattle.filter_check.specs.filter_paths.Regions.{IsWithin, sets_of}
use Rattle.filter_check.specs.declared.filter_paths.region.Region.{Region}
use Rattle.filter_check.specs.declared.filter_paths.states.End.{End}
use Rattle.filter_check.specs.Order.{IsNotAfter}

-- each word of the data that the program loads is marked
abbrev pub MarksLoads : List Insn → List Bool → Type 0
MarksLoads code marks = (at : ℕ) (insn : Insn) → slice_get code at ≡ Some insn → insn.code ≡ ld + w + abs
    → get_or marks (insn.k / 4) false ≡ true

-- at the marked words the two have the same conditions
abbrev pub HaveSameSets : List Bool → Region → Region → Type 0
HaveSameSets marks one other = (at : ℕ) → at < 16 → get_or marks at false ≡ true → get_or (sets_of one) at [] ≡ get_or (sets_of other) at []

-- on these data, which are of the end, the program has another answer than the end
pub record DiffersAtEnd (code : List Insn) (end : End) (input : CallData) (ours : ℕ) : Type 0 where
  pub fits : IsCallData input
  pub within : IsWithin end.region input
  pub answers : Answers code input ours
  pub differ : end.answer ≢ ours

-- for each difference at data of the other end there is one at data of this end, which are not after those
abbrev pub Represents : List Insn → End → End → Type 0
Represents code one other = (input : CallData) (ours : ℕ) → DiffersAtEnd code other input ours
    → (before : CallData) × DiffersAtEnd code one before ours × IsNotAfter (words_of before) (words_of input)

-- the end that was chosen for the end at this place is another end, was chosen for itself, and represents the end at this place
pub record IsRepresented (marks : List Bool) (ends : List End) (chosen : List ℕ) (at : ℕ) : Type 0 where
  pub one : End
  pub other : End
  pub other_is : slice_get ends at ≡ Some other
  pub one_is : slice_get ends (get_or chosen at 0) ≡ Some one
  pub another : get_or chosen at 0 ≢ at
  pub itself : get_or chosen (get_or chosen at 0) 0 ≡ get_or chosen at 0
  pub represents : (code : List Insn) → IsProgram code → AreOfForm code → MarksLoads code marks → Represents code one other

-- each marked end is represented by an end that is not marked
abbrev pub LeavesOut : List Insn → List End → List Bool → Type 0
LeavesOut code ends marks = (at : ℕ) (end : End) → slice_get ends at ≡ Some end → get_or marks at false ≡ true
    → (by : ℕ) × (one : End) × (slice_get ends by ≡ Some one) × (get_or marks by false ≡ false) × Represents code one end
