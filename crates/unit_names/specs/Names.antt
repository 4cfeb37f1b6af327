-- The names of services (systemd.unit(5), Description).
use Rattle.std.specs.Prelude.{◌≡◌, ℕ, ◌==◌, ◌&&◌, ◌||◌, nat_lt, nat_le, Bool, true, Option, Some, None, List, [], ◌∷◌, ◌++◌, length, codes}
use Rattle.std.specs.List.{list_all, list_any}
use Rattle.std.specs.Char.{is_ascii_alphanumeric}

-- a name has a prefix and, if it is an instance of a template, an instance
pub record Name : Type 0 where
  pub prefix : List ℕ
  pub instance : Option (List ℕ)

-- `@` separates the prefix from the instance
abbrev pub at_sign : ℕ
at_sign = 64

-- the characters of a prefix: ASCII letters, digits, `:`, `-`, `_`, `.` and `\`
abbrev pub is_prefix_byte : ℕ → Bool
is_prefix_byte byte = is_ascii_alphanumeric byte || list_any (λ mark. byte == mark) (codes ":-_.\\")

-- an instance may also have `@`
abbrev pub is_instance_byte : ℕ → Bool
is_instance_byte byte = is_prefix_byte byte || byte == at_sign

-- the text is not empty, and each character passes the test
abbrev pub is_filled_by : (ℕ → Bool) → List ℕ → Bool
is_filled_by test text = nat_lt 0 (length text) && list_all test text

-- a name has no instance, or one that is not empty
abbrev pub is_instance : Option (List ℕ) → Bool
is_instance None = true
is_instance (Some instance) = is_filled_by is_instance_byte instance

-- an instance follows an `@`
abbrev pub behind_prefix : Option (List ℕ) → List ℕ
behind_prefix None = []
behind_prefix (Some instance) = at_sign ∷ instance

-- PREFIX or PREFIX@INSTANCE
abbrev pub stem_of : Name → List ℕ
stem_of name = name.prefix ++ behind_prefix name.instance

-- the whole text: PREFIX.service or PREFIX@INSTANCE.service
abbrev pub text_of : Name → List ℕ
text_of name = stem_of name ++ codes ".service"

-- no part is empty, each has its characters only, and the whole has at most 255 bytes
abbrev pub is_unit_name : Name → Bool
is_unit_name name =
    (is_filled_by is_prefix_byte name.prefix && is_instance name.instance) && nat_le (length (text_of name)) 255

-- the text is this name, and the name is allowed
pub record Names (text : List ℕ) (name : Name) : Type 0 where
  pub spelled : text ≡ text_of name
  pub allowed : is_unit_name name ≡ true

-- a template has the prefix and `@.service`, and a name without an instance has no template
abbrev pub template_at : List ℕ → Option (List ℕ) → Option (List ℕ)
template_at prefix None = None
template_at prefix (Some instance) = Some (prefix ++ codes "@.service")

-- systemd makes an instance from the file PREFIX@.service
abbrev pub template_of : Name → Option (List ℕ)
template_of name = template_at name.prefix name.instance
