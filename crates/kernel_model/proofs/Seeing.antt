-- What finding a row, an empty directory or nothing says of the path, and back.
use Rattle.std.proofs.Common.{◌≡◌, ◌⊎◌, inl, inr, ℕ, ◌++◌, ◌∙◌, Bool, true, false, cond, Option, Some, None, Result, Ok, Err}
use Rattle.std.proofs.Common.{option_and_then, refl, ap}
use Rattle.std.specs.Prelude.{not, ◌==◌, ◌&&◌}
use Rattle.site_table.specs.abs_path.Paths.{Path}
use Rattle.site_table.specs.abs_path.Prefix.{is_same, rest_of}
use Rattle.site_table.proofs.OfAbsPath.Prefixes.{same_path, same_itself}
use Rattle.kern_mounts.specs.linux_numbers.Errnos.{enoent, eacces, eisdir, einval, erofs}
use Rattle.site_table.specs.declared.row.Row.{Row}
use Rattle.site_table.specs.Kinds.{is_dir, is_exe, is_dev}
use Rattle.kern_mounts.specs.declared.step.MountStep.{MountStep}
use Rattle.kern_mounts.specs.declared.step.What.{What}
use Rattle.kern_mounts.specs.declared.step.What.TheVariants.{Host, Empty, Hidden}
use Rattle.kern_mounts.specs.Entry.{entry_of}
use Rattle.kern_mounts.specs.Finds.{Found, row, empty_directory, nothing, row_or_nothing, host_place_by, found_by, found_at, finds}
use Rattle.kern_mounts.specs.Split.{Table}
use Rattle.kernel_model.specs.kern_files.Looking.{flags_at, see_answer, write_answer, open_answer, access_mode, is_writing}
use Rattle.kernel_model.specs.kern_files.Executing.{marks_of, program_answer}
use Rattle.kernel_model.specs.kern_files.There.{ShowsRow, IsEmptyPlace, IsHidden, IsWritableFile, IsProgram}
use Rattle.kernel_model.specs.declared.kern_files.program.Program.{Program}

-- a row is found only where the host has it
abbrev AtPlace : (Path → Option Row) → Option Path → Row → Type 0
AtPlace rows place found = (at : Path) × (place ≡ Some at) × (rows at ≡ Some found)

row_shown : (rows : Path → Option Row) (table : Table) (path : Path) (found : Row) → finds rows table path ≡ row found
    → ShowsRow rows table path found
row_shown rows table path found e = let at = by (entry_of table path) e in record { place = at.0; on_host = at.1; stands = at.2 }
  where
    there : (place : Path) (o : Option Row) → rows place ≡ o → row_or_nothing o ≡ row found → rows place ≡ Some found
    there place None is e = absurd (cc)
    there place (Some own) is e = let same : own ≡ found = cc in is ∙ ap Some same

    none : (b : Bool) → cond b empty_directory (nothing enoent) ≡ row found → ⊥
    none true e = cc
    none false e = cc

    shows : (what : What) (place : Path) → found_by rows what place path ≡ row found → AtPlace rows (host_place_by what place path) found
    shows (Host source) place e =
        (source ++ rest_of place path, refl, there (source ++ rest_of place path) (rows (source ++ rest_of place path)) refl e)
    shows Empty place e = absurd (none (is_same place path) e)
    shows (Hidden directory) place e = absurd (cc)

    by : (o : Option MountStep) → found_at rows path o ≡ row found
        → AtPlace rows (option_and_then (λ step. host_place_by step.what step.place path) o) found
    by None e = absurd (cc)
    by (Some step) e = shows step.what step.place e

-- and where the host has it, it is found
shown_row : (rows : Path → Option Row) (table : Table) (path : Path) (found : Row) → ShowsRow rows table path found
    → finds rows table path ≡ row found
shown_row rows table path found shows = by (entry_of table path) shows.on_host
  where
    there : (what : What) (place : Path) → host_place_by what place path ≡ Some shows.place → found_by rows what place path ≡ row found
    there (Host source) place e = let same : source ++ rest_of place path ≡ shows.place = cc in ap (λ at. row_or_nothing (rows at)) same ∙ ap row_or_nothing shows.stands
    there Empty place e = absurd (cc)
    there (Hidden directory) place e = absurd (cc)

    by : (o : Option MountStep) → option_and_then (λ step. host_place_by step.what step.place path) o ≡ Some shows.place
        → found_at rows path o ≡ row found
    by None e = absurd (cc)
    by (Some step) e = there step.what step.place e

-- an empty directory is found only at the place of an empty file system
empty_shown : (rows : Path → Option Row) (table : Table) (path : Path) → finds rows table path ≡ empty_directory → IsEmptyPlace table path
empty_shown rows table path e = by (entry_of table path) refl e
  where
    other : (o : Option Row) → row_or_nothing o ≡ empty_directory → ⊥
    other None e = cc
    other (Some found) e = cc

    same : (b : Bool) → ◌≡◌ {A = Found Row} (cond b empty_directory (nothing enoent)) empty_directory → b ≡ true
    same true e = refl
    same false e = absurd (cc)

    shows : (what : What) (place : Path) → found_by rows what place path ≡ empty_directory → (what ≡ Empty) × (place ≡ path)
    shows (Host source) place e = absurd (other (rows (source ++ rest_of place path)) e)
    shows Empty place e = (refl, same_path place path (same (is_same place path) e))
    shows (Hidden directory) place e = absurd (cc)

    by : (o : Option MountStep) → entry_of table path ≡ o → found_at rows path o ≡ empty_directory → IsEmptyPlace table path
    by None is e = absurd (cc)
    by (Some step) is e = let here = shows step.what step.place e in record { step = step; entry = is; empty = here.0; here = here.1 }

-- and there it is found
shown_empty : (rows : Path → Option Row) (table : Table) (path : Path) → IsEmptyPlace table path → finds rows table path ≡ empty_directory
shown_empty rows table path at =
    ap (found_at rows path) at.entry
    ∙ ap (λ what. found_by rows what at.step.place path) at.empty
    ∙ ap (λ place. cond {A = Found Row} (is_same place path) empty_directory (nothing enoent)) at.here
    ∙ ap (λ same. cond {A = Found Row} same empty_directory (nothing enoent)) (same_itself path)

pub hidden_is_refused : (rows : Path → Option Row) (table : Table) (path : Path) → IsHidden table path
    → finds rows table path ≡ nothing eacces
hidden_is_refused rows table path at = ap (found_at rows path) at.entry ∙ ap (λ what. found_by rows what at.step.place path) at.hidden

abbrev chosen : Bool → Bool → Result ℕ ℕ → Result ℕ ℕ → Result ℕ ℕ
chosen none writes written seen = cond none (Err einval) (cond writes written seen)

pub hidden_is_not_opened : (rows : Path → Option Row) (table : Table) (path : Path) (flags : ℕ) → IsHidden table path
    → (access_mode flags == 3) ≡ false → open_answer flags (flags_at table path) (finds rows table path) ≡ Err eacces
hidden_is_not_opened rows table path flags at mode =
    ap (open_answer flags (flags_at table path)) (hidden_is_refused rows table path at)
    ∙ ap (λ none. chosen none (is_writing flags) (Err eacces) (Err eacces)) mode
    ∙ either (is_writing flags)
  where
    either : (b : Bool) → ◌≡◌ {A = Result ℕ ℕ} (cond b (Err eacces) (Err eacces)) (Err eacces)
    either true = refl
    either false = refl

pub seen_is_there : (rows : Path → Option Row) (table : Table) (path : Path) (value : ℕ)
    → see_answer value (finds rows table path) ≡ Ok value → ((found : Row) × ShowsRow rows table path found) ⊎ IsEmptyPlace table path
seen_is_there rows table path value e = by (finds rows table path) refl e
  where
    by : (o : Found Row) → finds rows table path ≡ o → see_answer value o ≡ Ok value
        → ((found : Row) × ShowsRow rows table path found) ⊎ IsEmptyPlace table path
    by (row found) is e = inl (found, row_shown rows table path found is)
    by empty_directory is e = inr (empty_shown rows table path is)
    by (nothing errno) is e = absurd (cc)

pub there_is_seen : (rows : Path → Option Row) (table : Table) (path : Path) (value : ℕ)
    → ((found : Row) × ShowsRow rows table path found) ⊎ IsEmptyPlace table path → see_answer value (finds rows table path) ≡ Ok value
there_is_seen rows table path value there = elim there [
  | inl shows ↦ ap (see_answer value) (shown_row rows table path shows.0 shows.1)
  | inr at ↦ ap (see_answer value) (shown_empty rows table path at)
]

pub written_may_be : (rows : Path → Option Row) (table : Table) (path : Path) (value : ℕ)
    → write_answer value (flags_at table path) (finds rows table path) ≡ Ok value → IsWritableFile rows table path
written_may_be rows table path value e = by (finds rows table path) refl e
  where
    tests : (dir only dev : Bool) → ◌≡◌ {A = Result ℕ ℕ} (cond dir (Err eisdir) (cond (only && not dev) (Err erofs) (Ok value))) (Ok value)
        → (dir ≡ false) × (dev ≡ false → only ≡ false)
    tests true only dev e = absurd (cc)
    tests false true false e = absurd (cc)
    tests false true true e = (refl, λ h. cc)
    tests false false dev e = (refl, λ h. refl)

    by : (o : Found Row) → finds rows table path ≡ o → write_answer value (flags_at table path) o ≡ Ok value
        → IsWritableFile rows table path
    by (row found) is e =
        let passed = tests (is_dir found.kind) (flags_at table path).read_only (is_dev found.kind) e in
        record { found = found; shown = row_shown rows table path found is; file = passed.0; writable = passed.1 }
    by empty_directory is e = absurd (cc)
    by (nothing errno) is e = absurd (cc)

pub may_be_written : (rows : Path → Option Row) (table : Table) (path : Path) (value : ℕ) → IsWritableFile rows table path
    → write_answer value (flags_at table path) (finds rows table path) ≡ Ok value
may_be_written rows table path value may =
    ap (write_answer value (flags_at table path)) (shown_row rows table path may.found may.shown)
    ∙ ap (λ dir. cond {A = Result ℕ ℕ} dir (Err eisdir) (cond ((flags_at table path).read_only && not (is_dev may.found.kind)) (Err erofs)
    (Ok value))) may.file
    ∙ ap (λ kept. cond {A = Result ℕ ℕ} kept (Err erofs) (Ok value))
    (not_kept (flags_at table path).read_only (is_dev may.found.kind) may.writable)
  where
    not_kept : (only dev : Bool) → (dev ≡ false → only ≡ false) → (only && not dev) ≡ false
    not_kept true true h = refl
    not_kept true false h = h refl
    not_kept false dev h = refl

abbrev tried : Bool → Bool → Program → Result Program ℕ
tried exe stopped program = cond (not exe) (Err eacces) (cond stopped (Err eacces) (Ok program))

pub executed_may_be : (rows : Path → Option Row) (table : Table) (path : Path) (program : Program)
    → program_answer (flags_at table path) (finds rows table path) ≡ Ok program → IsProgram rows table path program
executed_may_be rows table path program e = by (finds rows table path) refl e
  where
    tests : (exe stopped : Bool) (made : Program) → tried exe stopped made ≡ Ok program
        → (exe ≡ true) × (stopped ≡ false) × (made ≡ program)
    tests false stopped made e = absurd (cc)
    tests true true made e = absurd (cc)
    tests true false made e = (refl, refl, (cc))

    by : (o : Found Row) → finds rows table path ≡ o → program_answer (flags_at table path) o ≡ Ok program
        → IsProgram rows table path program
    by (row found) is e =
        let passed = tests (is_exe found.kind) (flags_at table path).no_exec (record { file = marks_of found; no_suid = (flags_at table path).no_suid }) e in
        record {
          found = found;
          shown = row_shown rows table path found is;
          executable = passed.0;
          leave = passed.1;
          marks = ap (λ (p : Program). p.file) passed.2;
          no_suid = ap (λ (p : Program). p.no_suid) passed.2;
        }
    by empty_directory is e = absurd (cc)
    by (nothing errno) is e = absurd (cc)

pub may_be_executed : (rows : Path → Option Row) (table : Table) (path : Path) (program : Program) → IsProgram rows table path program
    → program_answer (flags_at table path) (finds rows table path) ≡ Ok program
may_be_executed rows table path program may =
    ap (program_answer (flags_at table path)) (shown_row rows table path may.found may.shown)
    ∙ ap (λ exe. tried exe (flags_at table path).no_exec (record { file = marks_of may.found; no_suid = (flags_at table path).no_suid }))
    may.executable
    ∙ ap (λ stopped. tried true stopped (record { file = marks_of may.found; no_suid = (flags_at table path).no_suid })) may.leave
    ∙ ap (λ file. tried true false (record { file = file; no_suid = (flags_at table path).no_suid })) may.marks
    ∙ ap (λ no_suid. tried true false (record { file = program.file; no_suid = no_suid })) may.no_suid
