-- Proofs compute with functions, and these agree with the relations.
use Rattle.std.specs.Prelude.{◌≡◌, ◌↔◌, ℕ, List, Some}
use Rattle.std.specs.List.{All, AllByRecursion}
use Rattle.bpf_code.specs.declared.machine.Insn.{Insn}
use Rattle.bpf_code.specs.declared.machine.CallData.{CallData}
use Rattle.bpf_code.specs.declared.decision.Decision.{Decision}
use Rattle.bpf_code.specs.Accepted.{IsAccepted}
use Rattle.bpf_code.specs.Reading.{Fits, Accepts, IsProgram}
use Rattle.bpf_code.specs.ProgramOf.{program_of}
use Rattle.bpf_code.specs.Stack.{Decides, decision_on}

-- instructions are a program exactly if their numbers fit and they are accepted
abbrev pub FittingPrograms : Type 0
FittingPrograms = (code : List Insn) → IsProgram code ↔ (All Fits code × IsAccepted code)

-- the function gives a program exactly if the bytes are accepted as that program
abbrev pub AcceptsByFunction : Type 0
AcceptsByFunction = (bytes : List ℕ) (program : List Insn) → (program_of bytes ≡ Some program) ↔ Accepts bytes program

-- the function gives the decision exactly if accepted programs decide it
abbrev pub DecidesByFunction : Type 0
DecidesByFunction = (programs : List (List Insn)) (input : CallData) (decision : Decision) → AllByRecursion IsAccepted programs
    → (decision_on programs input ≡ decision) ↔ Decides programs input decision
