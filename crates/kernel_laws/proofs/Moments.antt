-- Moments of runs: what holds of none of them, and the last one.
use Rattle.std.proofs.Common.{zero, suc, List, [], ◌∷◌, ◌⊎◌, inl, inr, refl, sym, subst, length, arith, ◌<◌}
use Rattle.std.specs.Prelude.{Any}
use Rattle.kernel_model.specs.declared.kernel_calls.call.Call.{Call}
use Rattle.kernel_model.specs.kernel_calls.Calls.{IsCall, AreCalls}
use Rattle.kernel_model.specs.World.{World}
use Rattle.kernel_model.specs.Step.{step}
use Rattle.kernel_model.specs.Runs.{Moment, moment_at, moments}
use Rattle.kernel_laws.specs.Denied.{LastIs}

pub Any-nil : {X : Type 0} (P : X → Type 0) → Any P [] → ⊥
Any-nil P (k, x, lt, is, h) = absurd (omega arith)

pub Any-cons : {X : Type 0} (P : X → Type 0) (x : X) (xs : List X) → Any P (x ∷ xs) → P x ⊎ Any P xs
Any-cons P x xs (zero, y, lt, is, h) = inl (subst P (sym is) h)
Any-cons P x xs (suc k, y, lt, is, h) = let below : k < length xs = omega arith in inr (k, y, below, is, h)

-- no moment of a run is such that no step from a world with what is kept is such
pub no_moment : (Q : World → Type 0) (P : Moment → Type 0) → ((world : World) (call : Call) → IsCall call → Q world → Q (step world call).1)
    → ((world : World) (call : Call) → IsCall call → Q world → P (moment_at world call) → ⊥)
    → (world : World) → Q world → (list : List Call) → AreCalls list → Any P (moments world list) → ⊥
no_moment Q P kept safe world start [] fit some = Any-nil P some
no_moment Q P kept safe world start (call ∷ list) fit some =
    elim (Any-cons P (moment_at world call) (moments (step world call).1 list) some) [
      | inl h ↦ safe world call fit.0 start h
      | inr later ↦ no_moment Q P kept safe (step world call).1 (kept world call fit.0 start) list fit.1 later
    ]

any_later : {X : Type 0} (P : X → Type 0) (x : X) (xs : List X) → Any P xs → Any P (x ∷ xs)
any_later P x xs (k, y, lt, is, h) = let above : suc k < length (x ∷ xs) = omega arith in (suc k, y, above, is, h)

any_first : {X : Type 0} (P : X → Type 0) (x : X) (xs : List X) → P x → Any P (x ∷ xs)
any_first P x xs h = let first : zero < length (x ∷ xs) = omega arith in (zero, x, first, refl, h)

-- the last moment is one of them
pub last_any : (P : Moment → Type 0) (ms : List Moment) → LastIs P ms → Any P ms
last_any P [] h = absurd h
last_any P (m ∷ []) h = any_first P m [] h
last_any P (m ∷ next ∷ ms) h = any_later P m (next ∷ ms) (last_any P (next ∷ ms) h)
