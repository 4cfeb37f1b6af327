-- Processes, living ones and their tables, by number and by place.
use Rattle.std.proofs.Common.{◌≡◌, ℕ, zero, suc, ◌<◌, ◌-◌, ◌+◌, ◌==◌, Bool, true, false, cond, List, [], ◌∷◌, length, Option, Some, None}
use Rattle.std.proofs.Common.{refl, sym, ap, ◌∙◌, subst, arith}
use Rattle.std.specs.Prelude.{slice_get, option_map}
use Rattle.kernel_model.specs.declared.process.Process.{Process}
use Rattle.kernel_model.specs.World.{World, of_number, process_of, living_of, if_alive}
use Rattle.kernel_model.specs.State.{place_of}
use Rattle.kernel_model.proofs.Lists.{get_within}

alive_by : (p process : Process) (t : Bool) → cond t (Some p) None ≡ Some process → Some p ≡ Some process
alive_by p process true e = e
alive_by p process false e = cc

alive_same : (found : Option Process) (process : Process) → if_alive found ≡ Some process → found ≡ Some process
alive_same None process e = cc
alive_same (Some p) process e = alive_by p process p.alive e

-- a thing with a number stands at the place before it
numbered_by : {X : Type 0} (t : Bool) (found : Option X) (x : X) → cond t None found ≡ Some x → (t ≡ false) × (found ≡ Some x)
numbered_by true found x e = cc
numbered_by false found x e = (refl, e)

pub number_get : {X : Type 0} (xs : List X) (number : ℕ) (x : X) → of_number xs number ≡ Some x
    → ((number == 0) ≡ false) × (slice_get xs (number - 1) ≡ Some x)
number_get xs number x e = numbered_by (number == 0) (slice_get xs (number - 1)) x e

pub get_number : {X : Type 0} (xs : List X) (number : ℕ) (x : X) → (number == 0) ≡ false → slice_get xs (number - 1) ≡ Some x
    → of_number xs number ≡ Some x
get_number xs number x n e = rw n e

pub living_made : (world : World) (pid : ℕ) (process : Process) → living_of world pid ≡ Some process → process_of world pid ≡ Some process
living_made world pid process e = alive_same (process_of world pid) process e

pub living_get : (world : World) (pid : ℕ) (process : Process) → living_of world pid ≡ Some process
    → slice_get world.processes (pid - 1) ≡ Some process
living_get world pid process e = (number_get world.processes pid process (living_made world pid process e)).1

-- the place of a living process
place_alive : (process : Process) (t : Bool) (place at : ℕ) → option_map (λ p. at) (cond t (Some process) None) ≡ Some place
    → (place ≡ at) × (cond t (Some process) None ≡ Some process)
place_alive process true place at e = (cc, refl)
place_alive process false place at e = cc

place_found : (found : Option Process) (place at : ℕ) → option_map (λ process. at) (if_alive found) ≡ Some place
    → (caller : Process) × (place ≡ at) × (if_alive found ≡ Some caller) × (found ≡ Some caller)
place_found None place at e = cc
place_found (Some process) place at e = let h = place_alive process process.alive place at e in (process, h.0, h.1, refl)

-- who stands in the place of a caller
pub record Stands (world : World) (pid place : ℕ) : Type 0 where
  pub caller : Process
  pub place_is : place ≡ pid - 1
  pub lives : living_of world pid ≡ Some caller
  pub stands : slice_get world.processes place ≡ Some caller
  pub there : place < length world.processes

place_by : (world : World) (pid place : ℕ) (t : Bool) → (pid == 0) ≡ t
    → cond t None (option_map (λ process. pid - 1) (if_alive (slice_get world.processes (pid - 1)))) ≡ Some place → Stands world pid place
place_by world pid place true n e = cc
place_by world pid place false n e =
    let h = place_found (slice_get world.processes (pid - 1)) place (pid - 1) e in
    let at : slice_get world.processes place ≡ Some h.0 = ap (slice_get world.processes) h.1 ∙ h.3 in
    record {
      caller = h.0;
      place_is = h.1;
      lives = ap (λ (o : Option Process). if_alive o) (get_number world.processes pid h.0 n h.3)
          ∙ ap (λ (o : Option Process). if_alive o) (sym h.3) ∙ h.2;
      stands = at;
      there = get_within world.processes place h.0 at;
    }

pub stands : (world : World) (pid place : ℕ) → place_of world.processes pid ≡ Some place → Stands world pid place
stands world pid place e = place_by world pid place (pid == 0) refl e

-- the thing of a number
pub has_number : {X : Type 0} (xs : List X) (number at : ℕ) (x : X) → at + 1 ≡ number → slice_get xs at ≡ Some x
    → of_number xs number ≡ Some x
has_number xs number at x is e =
    let n : (number == 0) ≡ false = subst (λ (k : ℕ). (k == 0) ≡ false) is (positive at) in
    let p : number - 1 ≡ at = omega (arith, is) in
    get_number xs number x n (ap (slice_get xs) p ∙ e)
  where
    positive : (k : ℕ) → (k + 1 == 0) ≡ false
    positive k = grind arith

pub some_at : {X : Type 0} (xs : List X) (i : ℕ) → i < length xs → (x : X) × (slice_get xs i ≡ Some x)
some_at [] i lt = absurd (omega (arith, lt))
some_at (y ∷ ys) zero lt = (y, refl)
some_at (y ∷ ys) (suc i) lt = let less : i < length ys = omega (arith, lt) in some_at ys i less
