-- The result of execve(2): it depends on the row at the path and on the flags of the path's mount, and gives the new
-- credentials.
use Rattle.std.specs.Prelude.{ℕ, Bool, false, not, Result, Ok, Err, if◌then◌else◌}
use Rattle.kern_mounts.specs.linux_numbers.Errnos.{eacces}
use Rattle.site_table.specs.declared.row.Row.{Row}
use Rattle.site_table.specs.Kinds.{is_exe}
use Rattle.kern_creds.specs.declared.creds.Creds.{Creds}
use Rattle.kern_creds.specs.declared.file.FileCreds.{FileCreds}
use Rattle.kern_creds.specs.Exec.{exec_in}
use Rattle.kern_mounts.specs.Finds.{Found, row, empty_directory, nothing}
use Rattle.kern_mounts.specs.declared.step.Flags.{Flags}
use Rattle.kernel_model.specs.declared.kern_files.program.Program.{Program}

-- the marks of a row's file: its set-id bits and capabilities, capabilities(7), "File capabilities"
abbrev pub marks_of : Row → FileCreds
marks_of found = record { setuid = found.setuid; setgid = found.setgid; caps = found.caps; effective = found.effective }

-- EACCES if the file is not an executable regular file, and if its mount is noexec
abbrev pub program_answer : Flags → Found Row → Result Program ℕ
program_answer flags (row found) =
    if not (is_exe found.kind) then Err eacces
    else if flags.no_exec then Err eacces
    else Ok (record { file = marks_of found; no_suid = flags.no_suid })
program_answer flags empty_directory = Err eacces
program_answer flags (nothing errno) = Err errno

-- the program's marks change the credentials, or execve is refused; `newer` says whether the process is in a newer user
-- namespace
abbrev pub executed_in : Bool → Creds → Result Program ℕ → Result Creds ℕ
executed_in newer creds (Ok program) = exec_in newer creds program.file program.no_suid
executed_in newer creds (Err errno) = Err errno

abbrev pub exec_answer_in : Bool → Creds → Flags → Found Row → Result Creds ℕ
exec_answer_in newer creds flags found = executed_in newer creds (program_answer flags found)

-- the same in the first user namespace
abbrev pub executed : Creds → Result Program ℕ → Result Creds ℕ
executed creds answer = executed_in false creds answer

abbrev pub exec_answer : Creds → Flags → Found Row → Result Creds ℕ
exec_answer creds flags found = exec_answer_in false creds flags found
