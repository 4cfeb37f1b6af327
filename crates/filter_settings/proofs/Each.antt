-- If each element that is made has a property, all have it.
use Rattle.std.proofs.Common.{Option, Some, None, List, [], ◌∷◌}
use Rattle.std.specs.Prelude.{flat_map, unwrap_or}
use Rattle.std.specs.Option.{IfSome, ForSome}
use Rattle.std.specs.List.{All, AllByRecursion, filter_map, cons_option}
use Rattle.std.proofs.lemmas.List.Elements.{All-append, All-nil, All-cons, recursion_from_All}
use Rattle.std.proofs.Common.{◌≡◌, subst}
use Rattle.dropin_merge.specs.unit_grammar.Before.{last_of}

pub each_some : {X Y : Type 0} (P : Y → Type 0) (f : X → Option Y) → ((x : X) → IfSome (f x) P) → (xs : List X) → All P (filter_map f xs)
each_some {Y = Y} P f h [] = All-nil P
each_some {Y = Y} P f h (x ∷ xs) = added (f x) (h x) (each_some P f h xs)
  where
    added : (o : Option Y) → IfSome o P → All P (filter_map f xs) → All P (cons_option o (filter_map f xs))
    added None s rest = rest
    added (Some y) s rest = All-cons P y (filter_map f xs) s rest

pub each_of_all : {X Y : Type 0} (P : Y → Type 0) (f : X → List Y) → ((x : X) → All P (f x)) → (xs : List X) → All P (flat_map f xs)
each_of_all P f h [] = All-nil P
each_of_all P f h (x ∷ xs) = All-append P (f x) (flat_map f xs) (h x) (each_of_all P f h xs)

last_has : {X : Type 0} (P : X → Type 0) (default : X) → P default → (xs : List X) → AllByRecursion P xs
    → P (unwrap_or (last_of xs) default)
last_has P default d [] h = d
last_has P default d (x ∷ []) h = h.0
last_has P default d (x ∷ y ∷ xs) h = last_has P default d (y ∷ xs) h.1

-- the last one has it too
pub last_of_all : {X : Type 0} (P : X → Type 0) (default : X) → P default → (xs : List X) → All P xs → P (unwrap_or (last_of xs) default)
last_of_all P default d xs h = last_has P default d xs (recursion_from_All P xs h)

pub for_some : {X : Type 0} (P : X → Type 0) (o : Option X) → IfSome o P → ForSome o P
for_some {X = X} P None h = λ x e. cc
for_some {X = X} P (Some y) h = λ x e. subst P (same y x e) h
  where
    same : (a b : X) → Some a ≡ Some b → a ≡ b
    same a b e = cc
