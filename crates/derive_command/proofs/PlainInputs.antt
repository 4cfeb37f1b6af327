-- The names of the table that a command on a unit reads are plain.
use Rattle.std.proofs.Common.{◌≡◌, ℕ, ◌≤◌, Bool, true, false, cond, Option, Some, None, Result, Ok, Err, List, length, refl, ap, ◌∙◌, subst}
use Rattle.std.specs.Prelude.{nat_le}
use Rattle.std.proofs.lemmas.Bool.{leb-true}
use Rattle.asked_service.specs.host_io.Files.{Files, bytes_at}
use Rattle.asked_service.specs.call_table.Reading.{table_of}
use Rattle.asked_service.specs.call_table.Kernels.{known_by}
use Rattle.asked_service.specs.call_table.Table.{Table}
use Rattle.asked_service.specs.call_table.declared.call_names.kernel.Kernel.{Kernel}
use Rattle.asked_service.specs.call_table.declared.causes.CallsError.{CallsError}
use Rattle.asked_service.specs.unit_inputs.command_answers.ReadFiles.{Content, Holds, IsMissing, IsTooLarge, content_of, content_at}
use Rattle.asked_service.specs.unit_inputs.command_answers.ReadFiles.{table_path}
use Rattle.asked_service.specs.unit_inputs.command_answers.CommandErrors.{and_then, or_line}
use Rattle.asked_service.specs.dropin_merge.declared.resolved.Resolved.{Resolved}
use Rattle.asked_service.specs.site_table.Table.{Site}
use Rattle.derive_command.specs.trace_profile.PlainNames.{HasPlainNames}
use Rattle.asked_service.specs.unit_inputs.CallsRefusals.{calls_in, calls_line, calls_said}
use Rattle.asked_service.specs.unit_inputs.FileRefusals.{bytes_held}
use Rattle.asked_service.specs.unit_inputs.Inputs.{Inputs, all_three, inputs_of, kernel_of}
use Rattle.asked_service.specs.unit_inputs.SiteRefusals.{site_in}
use Rattle.asked_service.specs.unit_inputs.UnitRefusals.{unit_in}
use Rattle.derive_command.proofs.PlainTables.{table_is_plain}

-- a table of bytes that are few, whose names a kernel reads
plain_held : (kernel : Kernel) (content : Content) (table : Table) → ((bytes : List ℕ) → content ≡ Holds bytes → length bytes ≤ 1048576)
    → and_then (bytes_held table_path content) calls_said ≡ Ok table → HasPlainNames (known_by kernel table)
plain_held kernel IsMissing table few is = cc
plain_held kernel IsTooLarge table few is = cc
plain_held kernel (Holds bytes) table few is = by (table_of bytes) refl is
  where
    by : (found : Result Table CallsError) → table_of bytes ≡ found → or_line calls_line found ≡ Ok table
        → HasPlainNames (known_by kernel table)
    by (Ok own) e is =
        let same : own ≡ table = cc in
        table_is_plain bytes table kernel (few bytes refl) (e ∙ ap Ok same)
    by (Err error) e is = cc

-- a file that is read has at most 1 MiB
few_bytes : (found : Option (List ℕ)) (bytes : List ℕ) → content_of found ≡ Holds bytes → length bytes ≤ 1048576
few_bytes None bytes is = cc
few_bytes (Some own) bytes is = by (nat_le (length own) 1048576) refl is
  where
    by : (b : Bool) → nat_le (length own) 1048576 ≡ b → cond b (Holds own) IsTooLarge ≡ Holds bytes → length bytes ≤ 1048576
    by true e is =
        let same : own ≡ bytes = cc in
        subst (λ (these : List ℕ). length these ≤ 1048576) same (leb-true (length own) 1048576 e)
    by false e is = cc

-- the table of calls.txt
calls_are_plain : (files : Files) (kernel : Kernel) (table : Table) → calls_in files ≡ Ok table → HasPlainNames (known_by kernel table)
calls_are_plain files kernel table is = plain_held kernel (content_at files table_path) table (few_bytes (bytes_at files table_path)) is

-- which is that of the inputs
calls_of_inputs : (unit : Resolved) (calls : Table) (site : Site) (inputs : Inputs)
    → Some (record { unit = unit; calls = calls; site = site }) ≡ Some inputs → calls ≡ inputs.calls
calls_of_inputs unit calls site inputs is =
    let same : record { unit = unit; calls = calls; site = site } ≡ inputs = cc in
    ap (λ (own : Inputs). own.calls) same

-- the inputs of a unit
pub inputs_are_plain : (files : Files) (unit : List ℕ) (inputs : Inputs) → inputs_of files unit ≡ Some inputs → HasPlainNames inputs.calls
inputs_are_plain files unit inputs is = by (unit_in files unit) (calls_in files) (site_in files) refl is
  where
    by : (unit : Result Resolved (List ℕ)) (calls : Result Table (List ℕ)) (site : Result Site (List ℕ)) → calls_in files ≡ calls
        → all_three unit calls site ≡ Some inputs → HasPlainNames inputs.calls
    by (Ok unit) (Ok calls) (Ok site) e is =
        let kernel = kernel_of site.systemd in
        subst HasPlainNames (calls_of_inputs (record unit { systemd = site.systemd }) (known_by kernel calls) site inputs is)
        (calls_are_plain files kernel calls e)
    by (Err line) calls site e is = cc
    by (Ok unit) (Err line) site e is = cc
    by (Ok unit) (Ok calls) (Err line) e is = cc
