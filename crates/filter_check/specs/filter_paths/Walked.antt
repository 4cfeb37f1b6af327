-- The ends of a program's paths, as statements about its answers.
use Rattle.std.specs.Prelude.{ℕ, ◌≤◌, List, Any, length, Option, Some, None, Vec}
use Rattle.std.specs.List.{All}
use Rattle.std.specs.declared.alloc.Global.{Global}
use Rattle.seccomp_compile.specs.bpf_code.declared.machine.Insn.{Insn}
use Rattle.seccomp_compile.specs.bpf_code.declared.machine.CallData.{CallData}
use Rattle.seccomp_compile.specs.bpf_code.Meaning.{Answers, IsCallData}
use Rattle.filter_check.specs.filter_paths.Traces.{HasPaths, HasMorePaths}
use Rattle.filter_check.specs.filter_paths.Regions.{IsWithin}
use Rattle.filter_check.specs.filter_paths.Covered.{HasLeast}
use Rattle.filter_check.specs.declared.filter_paths.states.End.{End}

-- all data of the end have this property, the program gives the end's answer on them, and the end has the least of them
pub record IsEndFor (code : List Insn) (Has : CallData → Type 0) (end : End) : Type 0 where
  pub within : (input : CallData) → IsCallData input → IsWithin end.region input → Has input
  pub answers : (input : CallData) → IsCallData input → IsWithin end.region input → Answers code input end.answer
  pub least : HasLeast end

-- the ends have only such call data, and all such data belong to one of the ends
pub record AreEndsFor (code : List Insn) (Has : CallData → Type 0) (ends : List End) : Type 0 where
  pub each : All (IsEndFor code Has) ends
  pub all_data : (input : CallData) → IsCallData input → Has input → Any (λ end. IsWithin end.region input) ends

-- there is an end for each path that the program takes on any call data; or there are too many paths
abbrev pub TellsPaths : List Insn → ℕ → Option (Vec End Global) → Type 0
TellsPaths code most None = HasMorePaths code most
TellsPaths code most (Some ends) = HasPaths code (length ends.items) × (length ends.items ≤ most) × AreEndsFor code IsCallData ends.items
