-- A file of a unit has a text, or is refused.
use Rattle.std.specs.Prelude.{ℕ, ◌==◌, nat_lt, Bool, cond, unwrap_or, Result, Ok, Err, List, [], length}
use Rattle.host_io.specs.Files.{Files, bytes_at}
use Rattle.unit_grammar.specs.Reading.{unit_of}
use Rattle.unit_grammar.specs.declared.unit.UnitText.{UnitText}
use Rattle.unit_grammar.specs.declared.unit.UnitError.{UnitError}
use Rattle.dropin_merge.specs.declared.resolved.UnitFile.{UnitFile}
use Rattle.dropin_merge.specs.declared.errors.ResolveError.{ResolveError}
use Rattle.dropin_merge.specs.declared.errors.ResolveError.TheVariants.{Masked, TooLarge, Text}

-- the bytes of the file at a path
abbrev pub content : Files → List ℕ → List ℕ
content files path = unwrap_or (bytes_at files path) []

-- a file has at most 1 MiB
abbrev pub is_too_large : List ℕ → Bool
is_too_large bytes = nat_lt 1048576 (length bytes)

abbrev pub is_empty : List ℕ → Bool
is_empty bytes = length bytes == 0

-- the file of this path with the text that was read, or the refusal of its text
abbrev pub said : List ℕ → Result UnitText UnitError → Result UnitFile ResolveError
said path (Ok text) = Ok (record { path = path; text = text })
said path (Err fault) = Err (Text path fault)

-- the file of this path with these bytes, or its refusal
abbrev pub judged : List ℕ → List ℕ → Result UnitFile ResolveError
judged path bytes = cond (is_too_large bytes) (Err (TooLarge path)) (said path (unit_of bytes))

-- a fragment of zero bytes masks the unit (systemd.unit(5), Description: a file that is empty or a link to /dev/null)
abbrev pub fragment_judged : List ℕ → List ℕ → Result UnitFile ResolveError
fragment_judged path bytes = cond (is_empty bytes) (Err Masked) (judged path bytes)
