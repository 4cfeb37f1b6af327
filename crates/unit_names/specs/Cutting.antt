-- A unit name is read from its text, which is cut at `.service` and at its first `@`.
use Rattle.std.specs.Prelude.{ℕ, ◌==◌, ◌-◌, nat_eq, nat_lt, cond, Option, Some, None, List, length, take, codes}
use Rattle.std.specs.List.{ends_with, position_or_len, before_first, after_first}
use Rattle.std.specs.Option.{option_and_then, option_copied}
use Rattle.unit_names.specs.Names.{Name, at_sign, is_unit_name}
use Rattle.unit_names.specs.declared.cutting.Parts.{Parts}

-- the text before an ending
abbrev pub before_end : List ℕ → List ℕ → Option (List ℕ)
before_end ending text = cond (ends_with nat_eq text ending) (Some (take (length text - length ending) text)) None

-- the texts before and after the first such byte
abbrev pub cut_at : ℕ → List ℕ → Option (List ℕ × List ℕ)
cut_at byte text = cond (nat_lt (position_or_len (λ b. b == byte) text) (length text))
    (Some (before_first (λ b. b == byte) text, after_first (λ b. b == byte) text)) None

-- the parts of a stem, given the texts before and after its first `@`
abbrev pub of_sides : List ℕ → Option (List ℕ × List ℕ) → Name
of_sides stem None = record { prefix = stem; instance = None }
of_sides stem (Some sides) = record { prefix = sides.0; instance = Some sides.1 }

-- the parts of the text before `.service`
abbrev pub of_stem : List ℕ → Name
of_stem stem = of_sides stem (cut_at at_sign stem)

-- the name, if it is allowed
abbrev pub if_allowed : Name → Option Name
if_allowed name = cond (is_unit_name name) (Some name) None

-- the name that a text spells, or nothing if the text is no unit name
abbrev pub name_of : List ℕ → Option Name
name_of text = option_and_then (λ stem. if_allowed (of_stem stem)) (before_end (codes ".service") text)

-- the name whose parts are borrowed
abbrev pub borrowed_name : Parts → Name
borrowed_name parts = record { prefix = parts.prefix.now; instance = option_copied parts.instance }
