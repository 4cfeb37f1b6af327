-- Lines of instructions, added one after another.
use Rattle.std.specs.Prelude.{◌≡◌, ℕ, Bool, true, false, List, ◌++◌}
use Rattle.seccomp_compile.specs.bpf_code.declared.program.ProgramError.{ProgramError}
use Rattle.filter_check.specs.filter_lines.Lines.{IsFirstOther, IsLine}
use Rattle.filter_check.specs.declared.filter_lines.error.FileError.{FileError}
use Rattle.filter_check.specs.declared.filter_lines.error.FileError.TheVariants.{NotText, Digits, Program, Memory}

-- the bytes of the line are added, or the line is no instruction
abbrev pub AddsLine : List ℕ → List ℕ → List ℕ → Bool → Type 0
AddsLine line old new true = (own : List ℕ) × IsLine line own × (new ≡ old ++ own)
AddsLine line old new false = (own : List ℕ) → IsLine line own → ⊥

-- the error names the first line that is not an instruction
abbrev pub IsRefusedLine : List (List ℕ) → FileError → Type 0
IsRefusedLine lines NotText = ⊥
IsRefusedLine lines (Digits number) = IsFirstOther lines number
IsRefusedLine lines (Program error) = ⊥
IsRefusedLine lines Memory = Unit {0}
