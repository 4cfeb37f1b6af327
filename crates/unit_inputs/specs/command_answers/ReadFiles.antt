-- Commands read files of the shelf.
use Rattle.std.specs.Prelude.{◌≡◌, ℕ, nat_le, cond, List, length, codes, Option, Some, None}
use Rattle.exec_settings.specs.host_io.Agreeing.{ForFiles}
use Rattle.exec_settings.specs.host_io.Files.{Files, bytes_at}
use Rattle.unit_inputs.specs.declared.command_answers.files.FileRead.{FileRead}
use Rattle.unit_inputs.specs.declared.command_answers.files.FileRead.TheVariants as read

-- the contents of a file: it has bytes, is missing, or has more than 1 MiB
pub data Content : Type 0 where
  Holds : (bytes : List ℕ) → Content
  IsMissing : Content
  IsTooLarge : Content

-- the contents of a file with these bytes, or of a missing file
abbrev pub content_of : Option (List ℕ) → Content
content_of None = IsMissing
content_of (Some bytes) = cond (nat_le (length bytes) 1048576) (Holds bytes) IsTooLarge

-- the contents of the file at a path
abbrev pub content_at : Files → List ℕ → Content
content_at files path = content_of (bytes_at files path)

-- the contents that were read, as contracts see them
abbrev pub content_view : FileRead → Content
content_view (read.Bytes bytes) = Holds bytes.items
content_view read.Missing = IsMissing
content_view read.TooLarge = IsTooLarge

-- the contents of the file are read
abbrev pub ReadsContent : List ℕ → (Files → Type 0) → FileRead → Type 0
ReadsContent path agrees found = ForFiles agrees (λ files. content_view found ≡ content_at files path)

abbrev pub table_path : List ℕ
table_path = codes "calls.txt"
