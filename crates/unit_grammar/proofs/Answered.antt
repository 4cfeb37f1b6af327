-- An answer says whether it is the wanted one.
use Rattle.std.proofs.Common.{◌≡◌, ◌≢◌, Result, Ok, Err, refl}
use Rattle.std.specs.Prelude.{IfOk, IfErr}
use Rattle.unit_grammar.specs.Progress.{IsUnlessMemory}
use Rattle.unit_grammar.specs.declared.unit.UnitText.{UnitText}
use Rattle.unit_grammar.specs.declared.unit.UnitError.{UnitError}
use Rattle.unit_grammar.specs.declared.unit.UnitError.TheVariants.{NotText, BadHeader, TooMany, Memory}

pub accepted : (wanted result : Result UnitText UnitError) → IsUnlessMemory result wanted → IfOk result (λ unit. wanted ≡ Ok unit)
accepted wanted (Ok unit) h = h
accepted wanted (Err error) h = tt

pub refused : (wanted result : Result UnitText UnitError) → IsUnlessMemory result wanted
    → IfErr result (λ error. error ≢ Memory → wanted ≡ Err error)
refused wanted (Ok unit) h = tt
refused wanted (Err NotText) h = λ other. h
refused wanted (Err TooMany) h = λ other. h
refused wanted (Err (BadHeader number)) h = λ other. h
refused wanted (Err Memory) h = λ other. absurd (other refl)
