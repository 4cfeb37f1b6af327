-- Common forms of lists of capabilities (systemd.exec(5), CapabilityBoundingSet=).
use Rattle.std.specs.Prelude.{◌≡◌, ℕ, Bool, false, List}
use Rattle.std.specs.Str.{bytes_eq}
use Rattle.dropin_merge.specs.declared.unit_values.listed.Listed.{Listed}
use Rattle.dropin_merge.specs.unit_values.Listed.{is_reset}
use Rattle.site_table.specs.cap_sets.Names.{name_of, in_lower_case}

-- a line of these words, with `~` before them or without
pub record IsLine (inverted : Bool) (words : List (List ℕ)) (one : Listed) : Type 0 where
  pub filled : is_reset one ≡ false
  pub reads : one.line ≡ record { is_inverted = inverted; words = words }

-- the word is the name of the capability, in any case
abbrev pub is_name_of : ℕ → List ℕ → Bool
is_name_of number word = bytes_eq (in_lower_case (name_of number)) (in_lower_case word)
