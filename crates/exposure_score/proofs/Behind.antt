-- What stands behind the front of a text.
use Rattle.std.proofs.Common.{◌≡◌, ℕ, Bool, true, false, cond, List, [], ◌∷◌, ◌++◌, length, take, drop, Some, None, nat_eq, refl, ap, ◌∙◌}
use Rattle.std.specs.Prelude.{◌&&◌, ◌||◌}
use Rattle.std.specs.List.{list_any}
use Rattle.std.specs.Option.{option_map_or}
use Rattle.std.specs.Str.{bytes_eq}
use Rattle.exec_settings.specs.abs_path.Prefix.{after}

-- a text is a front with a name behind it where that name stands behind the front
abbrev Agrees : List ℕ → List ℕ → List ℕ → Type 0
Agrees front text name = bytes_eq (front ++ name) text ≡ option_map_or (λ end. bytes_eq name end) (after front text) false

first_agrees : (b : Bool) (front text name : List ℕ) → Agrees front text name
    → (b && bytes_eq (front ++ name) text) ≡ option_map_or (λ end. bytes_eq name end)
    (cond (b && bytes_eq front (take (length front) text)) (Some (drop (length front) text)) None) false
first_agrees true front text name h = h
first_agrees false front text name h = refl

pub agrees : (front text name : List ℕ) → Agrees front text name
agrees [] text name = refl
agrees (byte ∷ front) [] name = refl
agrees (byte ∷ front) (first ∷ text) name = first_agrees (nat_eq byte first) front text name (agrees front text name)

-- one of the names stands behind the front exactly where one is what stands behind it
pub found : (front text end : List ℕ) (names : List (List ℕ)) → after front text ≡ Some end
    → list_any (λ name. bytes_eq (front ++ name) text) names ≡ list_any (λ name. bytes_eq name end) names
found front text end [] e = refl
found front text end (name ∷ names) e =
    ap (λ b. b || list_any (λ name. bytes_eq (front ++ name) text) names)
    (agrees front text name ∙ ap (λ rest. option_map_or (λ end. bytes_eq name end) rest false) e)
    ∙ ap (λ b. bytes_eq name end || b) (found front text end names e)

-- and none does where the front does not stand there
pub not_found : (front text : List ℕ) (names : List (List ℕ)) → after front text ≡ None
    → list_any (λ name. bytes_eq (front ++ name) text) names ≡ false
not_found front text [] e = refl
not_found front text (name ∷ names) e =
    ap (λ b. b || list_any (λ name. bytes_eq (front ++ name) text) names)
    (agrees front text name ∙ ap (λ rest. option_map_or (λ end. bytes_eq name end) rest false) e)
    ∙ not_found front text names e
