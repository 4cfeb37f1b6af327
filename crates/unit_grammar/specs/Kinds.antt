-- A joined line is skipped, a header, an assignment, or none of these (systemd.syntax(7)).
use Rattle.std.specs.Prelude.{ℕ, ◌==◌, nat_lt, cond, Option, Some, None, List, [], ◌∷◌, reverse, length}
use Rattle.std.specs.Option.{option_map}
use Rattle.std.specs.List.{position_or_len, before_first, after_first}
use Rattle.unit_grammar.specs.Spaces.{trim}
use Rattle.unit_grammar.specs.declared.kinds.Kind.{Kind as Read}
use Rattle.unit_grammar.specs.declared.kinds.Kind.TheVariants as read

-- the kinds of a joined line
pub data Kind : Type 0 where
  skipped : Kind
  header : (section : List ℕ) → Kind
  bad_header : Kind
  no_equals : Kind
  assigns : (key value : List ℕ) → Kind

-- the text after a byte at the front
abbrev pub behind : ℕ → List ℕ → Option (List ℕ)
behind byte [] = None
behind byte (first ∷ text) = cond (first == byte) (Some text) None

-- the text before a byte at the end
abbrev pub before : ℕ → List ℕ → Option (List ℕ)
before byte text = option_map reverse (behind byte (reverse text))

-- the texts before and after the first such byte
abbrev pub cut_at : ℕ → List ℕ → Option (List ℕ × List ℕ)
cut_at byte text = cond (nat_lt (position_or_len (λ b. b == byte) text) (length text))
    (Some (before_first (λ b. b == byte) text, after_first (λ b. b == byte) text)) None

-- the text between the brackets is the name
abbrev pub named_header : Option (List ℕ) → Kind
named_header None = bad_header
named_header (Some section) = header section

-- a key is not empty
abbrev pub keyed : List ℕ → List ℕ → Kind
keyed [] value = no_equals
keyed (byte ∷ key) value = assigns (byte ∷ key) value

-- the key is before the first `=`, and the value is after it
abbrev pub assigned : Option (List ℕ × List ℕ) → Kind
assigned None = no_equals
assigned (Some sides) = keyed (trim sides.0) (trim sides.1)

-- a line that begins with [ is a header, which must end with ]
abbrev pub filled : List ℕ → Option (List ℕ) → Kind
filled line None = assigned (cut_at 61 line)
filled line (Some rest) = named_header (before 93 rest)

-- an empty line is skipped
abbrev pub trimmed_kind : List ℕ → Kind
trimmed_kind [] = skipped
trimmed_kind (byte ∷ line) = filled (byte ∷ line) (behind 91 (byte ∷ line))

-- the kind of a line ignores the white space at its ends
abbrev pub kind_of : List ℕ → Kind
kind_of line = trimmed_kind (trim line)

-- the kind, as contracts see the value of the code
abbrev pub seen : Read → Kind
seen read.Skipped = skipped
seen (read.Header section) = header section.now
seen read.BadHeader = bad_header
seen read.NoEquals = no_equals
seen (read.Assigns key value) = assigns key.now value.now
