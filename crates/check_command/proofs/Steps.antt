-- What is read for a comparison, and the first refusal.
use Rattle.std.proofs.Common.{◌≡◌, ℕ, List, None, Result, Ok, Err, sym, subst}
use Rattle.unit_inputs.specs.host_io.Agreeing.{ForFiles}
use Rattle.unit_inputs.specs.host_io.Files.{Files}
use Rattle.filter_check.specs.bpf_code.declared.machine.Insn.{Insn}
use Rattle.unit_inputs.specs.command_answers.CommandErrors.{IsAnswer, Prepares, first_refusal}
use Rattle.unit_inputs.specs.declared.command_answers.error.CommandError.{CommandError}
use Rattle.unit_inputs.specs.declared.command_answers.error.CommandError.TheVariants as stop
use Rattle.unit_inputs.specs.command_answers.Said.{IsSaid}
use Rattle.unit_inputs.proofs.Said.{said_as}
use Rattle.unit_inputs.specs.FileRefusals.{bytes_in}
use Rattle.unit_inputs.specs.Inputs.{input_refusals, inputs_view}
use Rattle.unit_inputs.specs.declared.inputs.UnitInputs.{UnitInputs}
use Rattle.unit_inputs.specs.Settled.{refusals_of}
use Rattle.unit_inputs.specs.declared.settling.SettledUnit.{SettledUnit}
use Rattle.unit_inputs.proofs.Steps.{AreRead}
use Rattle.check_command.specs.Prepared.{AreReady, IsPrepared, a_setting, an_input, the_file}
use Rattle.check_command.specs.Programs.{IsProgramIn, IsProgramOf, no_file, of_file}

-- an input is refused
input_stops : (P : UnitInputs → Type 0) (files : Files) (unit path : List ℕ) (why : CommandError)
    → Prepares P (input_refusals files unit) (Err why) → IsPrepared files unit path (Err why)
input_stops P files unit path (stop.Refused line) said = an_input line.items said
input_stops P files unit path stop.ReadFault said = tt
input_stops P files unit path stop.Memory said = tt

pub stops_at_inputs : (P : Files → UnitInputs → Type 0) (agrees : Files → Type 0) (unit path : List ℕ) (why : CommandError)
    → ForFiles agrees (λ files. Prepares (P files) (input_refusals files unit) (Err why))
    → ForFiles agrees (λ files. IsPrepared files unit path (Err why))
stops_at_inputs P agrees unit path why said files agree = input_stops (P files) files unit path why (said files agree)

-- the file is refused
file_stops : (files : Files) (unit path : List ℕ) (inputs : UnitInputs) (why : CommandError) → AreRead files unit inputs
    → IsSaid {T = List Insn} (λ program. program) (IsProgramIn files path) (Err why) → IsPrepared files unit path (Err why)
file_stops files unit path inputs (stop.Refused line) read said = the_file line.items (inputs_view inputs) read.1 said
file_stops files unit path inputs stop.ReadFault read said = tt
file_stops files unit path inputs stop.Memory read said = tt

pub stops_at_file : (between agrees : Files → Type 0) (unit path : List ℕ) (inputs : UnitInputs) (why : CommandError) → ForFiles agrees between
    → ForFiles between (λ files. AreRead files unit inputs)
    → ForFiles agrees (λ files. IsSaid {T = List Insn} (λ program. program) (IsProgramIn files path) (Err why))
    → ForFiles agrees (λ files. IsPrepared files unit path (Err why))
stops_at_file between agrees unit path inputs why stays read said files agree =
    file_stops files unit path inputs why (read files (stays files agree)) (said files agree)

-- a setting is refused
setting_stops : (P : SettledUnit → Type 0) (files : Files) (unit path : List ℕ) (inputs : UnitInputs) (code : List Insn) (why : CommandError)
    → AreRead files unit inputs → IsProgramIn files path (Ok code)
    → Prepares P (refusals_of unit (inputs_view inputs)) (Err why) → IsPrepared files unit path (Err why)
setting_stops P files unit path inputs code (stop.Refused line) read program said =
    a_setting line.items (inputs_view inputs) code read.1 program said
setting_stops P files unit path inputs code stop.ReadFault read program said = tt
setting_stops P files unit path inputs code stop.Memory read program said = tt

pub stops_at_settings : (P : SettledUnit → Type 0) (agrees : Files → Type 0) (unit path : List ℕ) (inputs : UnitInputs) (code : List Insn)
    (why : CommandError)
    → ForFiles agrees (λ files. AreRead files unit inputs) → ForFiles agrees (λ files. IsProgramIn files path (Ok code))
    → Prepares P (refusals_of unit (inputs_view inputs)) (Err why) → ForFiles agrees (λ files. IsPrepared files unit path (Err why))
stops_at_settings P agrees unit path inputs code why read program said files agree =
    setting_stops P files unit path inputs code why (read files agree) (program files agree) said

-- nothing is refused
pub is_prepared : (agrees : Files → Type 0) (unit path : List ℕ) (inputs : UnitInputs) (code : List Insn) (one : SettledUnit)
    → one.inputs ≡ inputs
    → first_refusal (refusals_of unit (inputs_view inputs)) ≡ None
    → ForFiles agrees (λ files. AreRead files unit inputs) → ForFiles agrees (λ files. IsProgramIn files path (Ok code))
    → ForFiles agrees (λ files. IsPrepared files unit path (Ok (record { unit = one; program = code })))
is_prepared agrees unit path inputs code one same none read program files agree =
    subst (λ own. AreReady files unit path (inputs_view own) code) (sym same)
    (record { inputs_are = (read files agree).1; program_is = (program files agree); settings_stand = none })

-- the bytes of the file are not there
bytes_stop : {T : Type 0} (see : T → List ℕ) (files : Files) (path : List ℕ) (why : CommandError) → IsAnswer see (Err why) (bytes_in files path)
    → IsSaid {T = List Insn} (λ program. program) (IsProgramIn files path) (Err why)
bytes_stop see files path (stop.Refused line) said = no_file line.items said
bytes_stop see files path stop.ReadFault said = tt
bytes_stop see files path stop.Memory said = tt

pub no_bytes : {T : Type 0} (see : T → List ℕ) (agrees : Files → Type 0) (path : List ℕ) (why : CommandError)
    → ForFiles agrees (λ files. IsAnswer see (Err why) (bytes_in files path))
    → ForFiles agrees (λ files. IsSaid {T = List Insn} (λ program. program) (IsProgramIn files path) (Err why))
no_bytes see agrees path why said files agree = bytes_stop see files path why (said files agree)

-- or they are some program, or none
pub some_bytes : (agrees : Files → Type 0) (path bytes : List ℕ) (result : Result (List Insn) CommandError)
    → ForFiles agrees (λ files. bytes_in files path ≡ Ok bytes) → IsSaid (λ (program : List Insn). program) (IsProgramOf path bytes) result
    → ForFiles agrees (λ files. IsSaid (λ (program : List Insn). program) (IsProgramIn files path) result)
some_bytes agrees path bytes result are said files agree =
    said_as (λ (program : List Insn). program) (IsProgramOf path bytes) (IsProgramIn files path)
    (λ found is. of_file bytes found (are files agree) is) result said
