-- The questions that are to be kept, of a file, or the line of its refusal.
use Rattle.std.specs.Prelude.{◌≡◌, ◌≢◌, ℕ, List, [], ◌++◌, codes, Result, Ok, Err}
use Rattle.std.specs.Fmt.{decimal}
use Rattle.asked_service.specs.host_io.Files.{Files}
use Rattle.asked_service.specs.call_table.Table as calls
use Rattle.asked_service.specs.unit_inputs.command_answers.Refusals.{refused_line}
use Rattle.asked_service.specs.kernel_laws.declared.question_types.question.Question.{Question}
use Rattle.asked_service.specs.site_table.Table.{Site}
use Rattle.asked_service.specs.unit_inputs.FileRefusals.{bytes_in}
use Rattle.tighten_command.specs.Keeping.{ReadsKeep}
use Rattle.tighten_command.specs.declared.keeping.KeepError.{KeepError}
use Rattle.tighten_command.specs.declared.keeping.KeepError.TheVariants.{NotText, Line, TooMany, Memory}

-- why a file's questions are refused; if memory runs out, there is no line
abbrev pub keep_cause : KeepError → List ℕ
keep_cause NotText = codes "not-text"
keep_cause (Line number) = codes "line " ++ (decimal number ++ codes " question")
keep_cause TooMany = codes "too-many"
keep_cause Memory = []

abbrev pub keep_line : List ℕ → KeepError → List ℕ
keep_line path error = refused_line path (keep_cause error)

-- by the bytes of the file: one question of the list a line
pub data IsKeepOf (table : calls.Table) (site : Site) (path bytes : List ℕ) : Result (List Question) (List ℕ) → Type 0 where
  no_keep : (error : KeepError) → error ≢ Memory → ReadsKeep table site bytes (Err error)
      → IsKeepOf table site path bytes (Err (keep_line path error))
  a_keep : (keep : List Question) → ReadsKeep table site bytes (Ok keep) → IsKeepOf table site path bytes (Ok keep)

-- over some files: the file is there, and is not too large
pub data IsKeepIn (files : Files) (table : calls.Table) (site : Site) (path : List ℕ) : Result (List Question) (List ℕ) → Type 0 where
  no_file : (line : List ℕ) → bytes_in files path ≡ Err line → IsKeepIn files table site path (Err line)
  of_file : (bytes : List ℕ) (said : Result (List Question) (List ℕ)) → bytes_in files path ≡ Ok bytes
      → IsKeepOf table site path bytes said → IsKeepIn files table site path said
