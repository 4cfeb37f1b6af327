-- What a program that execve runs is.
use Rattle.std.proofs.Common.{◌≡◌, ℕ, Bool, true, false, Result, Ok, Err, refl, cond}
use Rattle.std.specs.Prelude.{not}
use Rattle.filter_settings.specs.linux_numbers.Errnos.{eacces}
use Rattle.kernel_model.specs.site_table.declared.row.Row.{Row}
use Rattle.kernel_model.specs.site_table.Kinds.{is_exe}
use Rattle.kernel_model.specs.kern_mounts.Finds.{row}
use Rattle.kernel_model.specs.kern_mounts.declared.step.Flags.{Flags}
use Rattle.kernel_model.specs.declared.kern_files.program.Program.{Program}
use Rattle.kernel_model.specs.kern_files.Executing.{marks_of, program_answer}

pub record Ran (flags : Flags) (target : Row) (program : Program) : Type 0 where
  pub exe : is_exe target.kind ≡ true
  pub runs : flags.no_exec ≡ false
  pub is : program ≡ record { file = marks_of target; no_suid = flags.no_suid }

pub ran_program : (flags : Flags) (target : Row) (program : Program) → program_answer flags (row target) ≡ Ok program
    → Ran flags target program
ran_program flags target program e = by (is_exe target.kind) flags.no_exec refl refl e
  where
    by : (a b : Bool) → is_exe target.kind ≡ a → flags.no_exec ≡ b
        → cond {A = Result Program ℕ} (not a) (Err eacces)
        (cond {A = Result Program ℕ} b (Err eacces) (Ok (record { file = marks_of target; no_suid = flags.no_suid }))) ≡ Ok program
        → Ran flags target program
    by false b x y e = cc
    by true true x y e = cc
    by true false x y e = record { exe = x; runs = y; is = cc }
