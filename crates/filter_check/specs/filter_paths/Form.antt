-- The first instruction that does not have the form of programs whose paths can be found.
use Rattle.std.specs.Prelude.{◌≡◌, ℕ, ◌<◌, false, true, List, slice_get, Some}
use Rattle.seccomp_compile.specs.bpf_code.declared.machine.Insn.{Insn}
use Rattle.seccomp_compile.specs.Form.{is_of_form}

-- the instruction at the place is the first one whose code does not have the form
pub record IsFirstForeign (code : List Insn) (place : ℕ) : Type 0 where
  pub insn : Insn
  pub found : slice_get code place ≡ Some insn
  pub foreign : is_of_form insn ≡ false
  pub fine_before : (before : ℕ) (other : Insn) → before < place → slice_get code before ≡ Some other → is_of_form other ≡ true
