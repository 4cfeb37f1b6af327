-- No key has a name as short as a short text.
use Rattle.std.proofs.Common.{◌≡◌, ℕ, ◌<◌, Bool, true, false, cond, Some, None, List, [], ◌∷◌, length, refl, sym, ap, ◌∙◌, arith}
use Rattle.std.specs.Prelude.{◌||◌, find, nat_lt}
use Rattle.std.specs.List.{list_all, list_any}
use Rattle.std.specs.Str.{bytes_eq}
use Rattle.std.proofs.lemmas.Bool.{and_parts, ltb-true}
use Rattle.std.proofs.lemmas.Slice.Eq.{bytes_eq-Decides}
use Rattle.path_settings.specs.declared.dialect.Dialect.{Dialect}
use Rattle.path_settings.specs.declared.dialect.Dialect.TheVariants.{Base, Systemd252, Systemd257}
use Rattle.path_settings.specs.declared.keys.PathKey.{PathKey}
use Rattle.path_settings.specs.Keys.{names_of, is_named, path_keys, key_named}

-- a shorter text is not the name
pub shorter_differs : (name text : List ℕ) → length text < length name → bytes_eq name text ≡ false
shorter_differs name text shorter = by (bytes_eq name text) refl
  where
    by : (b : Bool) → bytes_eq name text ≡ b → bytes_eq name text ≡ false
    by false e = e
    by true e = absurd (omega (arith, ap length ((bytes_eq-Decides name text).0 e)))

is_no_name : (text : List ℕ) → length text < 9 → (names : List (List ℕ)) → list_all (λ name. nat_lt 8 (length name)) names ≡ true
    → list_any (λ name. bytes_eq name text) names ≡ false
is_no_name text short [] long = refl
is_no_name text short (name ∷ names) long =
    let both = and_parts (nat_lt 8 (length name)) (list_all (λ name. nat_lt 8 (length name)) names) long in
    ap (λ b. b || list_any (λ name. bytes_eq name text) names)
    (shorter_differs name text (omega (arith, short, ltb-true 8 (length name) both.0)))
    ∙ is_no_name text short names both.1

names_no_key : (dialect : Dialect) (text : List ℕ) → length text < 9 → (keys : List PathKey)
    → list_all (λ key. list_all (λ name. nat_lt 8 (length name)) (names_of dialect key)) keys ≡ true
    → find (is_named dialect text) keys ≡ None
names_no_key dialect text short [] long = refl
names_no_key dialect text short (key ∷ keys) long =
    let both = and_parts (list_all (λ name. nat_lt 8 (length name)) (names_of dialect key))
    (list_all (λ key. list_all (λ name. nat_lt 8 (length name)) (names_of dialect key)) keys) long in
    ap (λ b. cond b (Some key) (find (is_named dialect text) keys)) (is_no_name text short (names_of dialect key) both.0)
    ∙ names_no_key dialect text short keys both.1

all_long : (dialect : Dialect) → list_all (λ key. list_all (λ name. nat_lt 8 (length name)) (names_of dialect key)) path_keys ≡ true
all_long Base = refl
all_long Systemd252 = refl
all_long Systemd257 = refl

-- a text of fewer than 9 bytes names no key
pub short_text_names_none : (dialect : Dialect) (text : List ℕ) → length text < 9 → None ≡ key_named dialect text
short_text_names_none dialect text short = sym (names_no_key dialect text short path_keys (all_long dialect))
