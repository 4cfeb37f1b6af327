-- A required file gives its bytes, or the line that refuses it.
use Rattle.std.specs.Prelude.{ℕ, List, codes, Result, Ok, Err}
use Rattle.exec_settings.specs.host_io.Files.{Files}
use Rattle.unit_inputs.specs.command_answers.ReadFiles.{Content, Holds, IsMissing, IsTooLarge, content_at}
use Rattle.unit_inputs.specs.command_answers.Refusals.{refused_line}

-- the bytes that the file has, or the line that refuses the file
abbrev pub bytes_held : List ℕ → Content → Result (List ℕ) (List ℕ)
bytes_held path (Holds bytes) = Ok bytes
bytes_held path IsMissing = Err (refused_line path (codes "missing"))
bytes_held path IsTooLarge = Err (refused_line path (codes "too-large"))

-- the bytes of the file over these files, or the line that refuses it
abbrev pub bytes_in : Files → List ℕ → Result (List ℕ) (List ℕ)
bytes_in files path = bytes_held path (content_at files path)
