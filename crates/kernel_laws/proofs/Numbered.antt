-- Things numbered from 1, and lists that change at a place or at their end.
use Rattle.std.proofs.Common.{◌≡◌, ℕ, Bool, true, false, cond, List, [], ◌∷◌, ◌++◌, Option, Some, None, ◌⊎◌, inl, inr, refl, length, zero}
use Rattle.std.proofs.Common.{suc, ap, ◌∙◌, sym, arith, eqb}
use Rattle.std.specs.Prelude.{slice_get, slice_set, ◌-◌, ◌+◌}
use Rattle.std.proofs.lemmas.Bool.Decides.{nat_tests}
use Rattle.kernel_model.specs.World.{World, of_number, process_of, if_alive, living_of}
use Rattle.kernel_model.specs.declared.process.Process.{Process}

pub get_put : {X : Type 0} (xs : List X) (i j : ℕ) (y z : X) → slice_get (slice_set xs i y) j ≡ Some z → (z ≡ y) ⊎ (slice_get xs j ≡ Some z)
get_put [] i j y z e = inr e
get_put (x ∷ xs) zero zero y z e = inl cc
get_put (x ∷ xs) zero (suc j) y z e = inr e
get_put (x ∷ xs) (suc i) zero y z e = inr e
get_put (x ∷ xs) (suc i) (suc j) y z e = get_put xs i j y z e

-- the same, by whether the place is this one
pub put_some_at : {X : Type 0} (xs : List X) (i j : ℕ) (y z : X) → slice_get xs j ≡ Some z
    → (v : X) × (slice_get (slice_set xs i y) j ≡ Some v) × (((i ≡ j) × (v ≡ y)) ⊎ (v ≡ z))
put_some_at [] i j y z e = cc
put_some_at (x ∷ xs) zero zero y z e = (y, refl, inl (refl, refl))
put_some_at (x ∷ xs) zero (suc j) y z e = (z, e, inr refl)
put_some_at (x ∷ xs) (suc i) zero y z e = (z, e, inr refl)
put_some_at (x ∷ xs) (suc i) (suc j) y z e = later (put_some_at xs i j y z e)
  where
    later : (v : _) × (slice_get (slice_set xs i y) j ≡ Some v) × (((i ≡ j) × (v ≡ y)) ⊎ (v ≡ z))
        → (v : _) × (slice_get (slice_set xs i y) j ≡ Some v) × (((suc i ≡ suc j) × (v ≡ y)) ⊎ (v ≡ z))
    later (v, g, inl h) = (v, g, inl (ap suc h.0, h.1))
    later (v, g, inr h) = (v, g, inr h)

pub get_push : {X : Type 0} (xs : List X) (j : ℕ) (y z : X) → slice_get (xs ++ y ∷ []) j ≡ Some z → (z ≡ y) ⊎ (slice_get xs j ≡ Some z)
get_push [] zero y z e = inl cc
get_push [] (suc j) y z e = cc
get_push (x ∷ xs) zero y z e = inr e
get_push (x ∷ xs) (suc j) y z e = get_push xs j y z e

pub push_some : {X : Type 0} (xs : List X) (j : ℕ) (y z : X) → slice_get xs j ≡ Some z → slice_get (xs ++ y ∷ []) j ≡ Some z
push_some [] j y z e = cc
push_some (x ∷ xs) zero y z e = e
push_some (x ∷ xs) (suc j) y z e = push_some xs j y z e

push_at : {X : Type 0} (xs : List X) (y : X) → slice_get (xs ++ y ∷ []) (length xs) ≡ Some y
push_at [] y = refl
push_at (x ∷ xs) y = push_at xs y

less_one : (n : ℕ) → n + 1 - 1 ≡ n
less_one n = omega arith

pub push_last : {X : Type 0} (xs : List X) (y : X) → slice_get (xs ++ y ∷ []) (length xs + 1 - 1) ≡ Some y
push_last xs y = ap (slice_get (xs ++ y ∷ [])) (less_one (length xs)) ∙ push_at xs y

pub not_first : (n : ℕ) → eqb (n + 1) 0 ≡ false
not_first n = grind (arith, nat_tests)

-- what has a number stands at its place
pub number_get : {X : Type 0} (xs : List X) (number : ℕ) (x : X) → of_number xs number ≡ Some x
    → (eqb number 0 ≡ false) × (slice_get xs (number - 1) ≡ Some x)
number_get xs number x e = by (eqb number 0) refl e
  where
    by : (b : Bool) → eqb number 0 ≡ b → cond b None (slice_get xs (number - 1)) ≡ Some x
        → (eqb number 0 ≡ false) × (slice_get xs (number - 1) ≡ Some x)
    by true is e = cc
    by false is e = (is, e)

pub get_number : {X : Type 0} (xs : List X) (number : ℕ) (x : X) → eqb number 0 ≡ false → slice_get xs (number - 1) ≡ Some x
    → of_number xs number ≡ Some x
get_number xs number x is e = ap (λ b. cond b None (slice_get xs (number - 1))) is ∙ e

-- who lives was made, and has the mark
pub record Lives (world : World) (pid : ℕ) (process : Process) : Type 0 where
  pub made : process_of world pid ≡ Some process
  pub place : slice_get world.processes (pid - 1) ≡ Some process
  pub alive : process.alive ≡ true

pub lives : (world : World) (pid : ℕ) (process : Process) → living_of world pid ≡ Some process → Lives world pid process
lives world pid process e = by (process_of world pid) refl e
  where
    by_mark : (own : Process) → process_of world pid ≡ Some own → (b : Bool) → own.alive ≡ b → cond b (Some own) None ≡ Some process
        → Lives world pid process
    by_mark own is true mark e =
        let same : own ≡ process = cc in
        let made : process_of world pid ≡ Some process = is ∙ ap (λ (p : Process). Some p) same in
        record { made = made; place = (number_get world.processes pid process made).1; alive = ap (λ (p : Process). p.alive) (sym same) ∙ mark }
    by_mark own is false mark e = cc

    by : (o : Option Process) → process_of world pid ≡ o → if_alive o ≡ Some process → Lives world pid process
    by None is e = cc
    by (Some own) is e = by_mark own is own.alive refl e
