-- The bytes of a text, wherever they are held.
use Rattle.std.specs.Prelude.{ℕ, List}
use Rattle.abs_path.specs.declared.text.Held.{Held}
use Rattle.abs_path.specs.declared.text.Held.TheVariants.{Short, Long}

abbrev pub bytes_of : Held → List ℕ
bytes_of (Short text) = text.bytes
bytes_of (Long text) = text
