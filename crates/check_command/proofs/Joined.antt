-- What stands behind the front of a text, and the ABI of a name.
use Rattle.std.proofs.Common.{◌≡◌, ◌∙◌, ℕ, Bool, true, false, cond, List, [], ◌∷◌, ◌++◌, length, take, drop, Option, Some, None, nat_eq}
use Rattle.std.proofs.Common.{refl, sym, ap}
use Rattle.std.specs.Prelude.{◌&&◌, option_map}
use Rattle.std.specs.Option.{option_map_or}
use Rattle.std.specs.Str.{bytes_eq}
use Rattle.unit_inputs.specs.abs_path.Prefix.{after}
use Rattle.unit_inputs.specs.call_table.Table.{Abi}

-- a text is a front with an end behind it where that end stands behind the front
abbrev Agrees : List ℕ → List ℕ → List ℕ → Type 0
Agrees front text end = bytes_eq (front ++ end) text ≡ option_map_or (λ rest. bytes_eq end rest) (after front text) false

first_agrees : (b : Bool) (front text end : List ℕ) → Agrees front text end
    → (b && bytes_eq (front ++ end) text) ≡ option_map_or (λ rest. bytes_eq end rest)
    (cond (b && bytes_eq front (take (length front) text)) (Some (drop (length front) text)) None) false
first_agrees true front text end h = h
first_agrees false front text end h = refl

agrees : (front text end : List ℕ) → Agrees front text end
agrees [] text end = refl
agrees (byte ∷ front) [] end = refl
agrees (byte ∷ front) (first ∷ text) end = first_agrees (nat_eq byte first) front text end (agrees front text end)

pub joined : (front text end rest : List ℕ) → after front text ≡ Some rest → bytes_eq (front ++ end) text ≡ bytes_eq end rest
joined front text end rest is = agrees front text end ∙ ap (λ found. option_map_or (λ rest. bytes_eq end rest) found false) is

pub not_joined : (front text end : List ℕ) → after front text ≡ None → bytes_eq (front ++ end) text ≡ false
not_joined front text end is = agrees front text end ∙ ap (λ found. option_map_or (λ rest. bytes_eq end rest) found false) is

-- by the ABI that is found
pub with_abi : (test : List ℕ → Bool) (found : Option Abi) (name : List ℕ) → Some name ≡ option_map (λ abi. abi.name) found
    → option_map_or (λ (abi : Abi). test abi.name) found false ≡ test name
with_abi test None name is = cc
with_abi test (Some abi) name is = let same : name ≡ abi.name = cc in ap test (sym same)
