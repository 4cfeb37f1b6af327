-- A short key is judged if it is one of the short judged keys.
use Rattle.std.proofs.Common.{◌≡◌, ℕ, ◌<◌, Bool, true, false, cond, Option, Some, None, List, [], ◌∷◌, length, refl, sym, ap, ◌∙◌, arith}
use Rattle.std.specs.Prelude.{◌||◌, codes, nat_lt}
use Rattle.std.specs.List.{filter, list_any}
use Rattle.std.specs.Str.{bytes_eq}
use Rattle.std.proofs.lemmas.Bool.{ltb-false}
use Rattle.exec_settings.proofs.OfPathSettings.ShortTexts.{shorter_differs}
use Rattle.mount_settings.specs.unit_names.declared.version.Version.{Version}
use Rattle.exec_settings.specs.declared.keys.Meaning.{Meaning}
use Rattle.exec_settings.specs.Keys.{keys, is_judged}

-- only the short names may be the key
among_short : (key : List ℕ) → length key < 9 → (rows : List (List ℕ × Meaning))
    → list_any (λ row. bytes_eq row.0 key) (filter (λ row. nat_lt (length row.0) 9) rows) ≡ list_any (λ row. bytes_eq row.0 key) rows
among_short key short [] = refl
among_short key short (row ∷ rows) = by (nat_lt (length row.0) 9) refl (among_short key short rows)
  where
    later : List (List ℕ × Meaning) → Bool
    later ones = list_any (λ row. bytes_eq row.0 key) ones

    by : (b : Bool) → nat_lt (length row.0) 9 ≡ b → later (filter (λ row. nat_lt (length row.0) 9) rows) ≡ later rows
        → later (cond b (row ∷ filter (λ row. nat_lt (length row.0) 9) rows) (filter (λ row. nat_lt (length row.0) 9) rows)) ≡ bytes_eq row.0 key || later rows
    by true e rest = ap (λ b. bytes_eq row.0 key || b) rest
    by false e rest = rest ∙ sym (ap (λ b. b || later rows) (shorter_differs row.0 key (omega (arith, short, ltb-false (length row.0) 9 e))))

-- the short keys that are judged
pub short_judged : (systemd : Option Version) (key : List ℕ) → length key < 9
    → list_any (λ name. bytes_eq name key) (codes "Group" ∷ codes "User" ∷ []) ≡ is_judged systemd key
unfolding keys
short_judged None key short = among_short key short (keys None)
short_judged (Some version) key short = among_short key short (keys (Some version))
