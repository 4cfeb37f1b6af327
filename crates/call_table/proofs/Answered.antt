-- An answer says whether it is the wanted one.
use Rattle.std.proofs.Common.{◌≡◌, ◌≢◌, Result, Ok, Err, refl}
use Rattle.std.specs.Prelude.{IfOk, IfErr}
use Rattle.call_table.specs.Progress.{IsUnlessMemory}
use Rattle.call_table.specs.Table.{Table}
use Rattle.call_table.specs.declared.causes.CallsError.{CallsError}
use Rattle.call_table.specs.declared.causes.CallsError.TheVariants.{NotText, Line as AtLine, NoAbi, NoCall, Memory}

pub accepted : (wanted result : Result Table CallsError) → IsUnlessMemory result wanted → IfOk result (λ table. wanted ≡ Ok table)
accepted wanted (Ok table) h = h
accepted wanted (Err error) h = tt

pub refused : (wanted result : Result Table CallsError) → IsUnlessMemory result wanted
    → IfErr result (λ error. error ≢ Memory → wanted ≡ Err error)
refused wanted (Ok table) h = tt
refused wanted (Err NotText) h = λ other. h
refused wanted (Err (AtLine number cause)) h = λ other. h
refused wanted (Err NoAbi) h = λ other. h
refused wanted (Err (NoCall name)) h = λ other. h
refused wanted (Err Memory) h = λ other. absurd (other refl)
