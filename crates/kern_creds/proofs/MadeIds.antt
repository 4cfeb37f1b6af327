-- What the new ids make is made of the new ids.
use Rattle.std.proofs.Common.{◌≡◌, ℕ, Bool, true, false, refl, cond, Result, Ok, Err, sym, ap, ◌∙◌}
use Rattle.std.specs.Prelude.{◌||◌}
use Rattle.kern_creds.specs.declared.ids.Ids.{Ids}
use Rattle.kern_creds.specs.Ids.{may_take_all, kept_ids}
use Rattle.kern_creds.specs.Setresuid.{set_all_ids}

mapped : {X : Type 0} → (Ids → X) → Result Ids ℕ → Result X ℕ
mapped made (Ok ids) = Ok (made ids)
mapped made (Err errno) = Err errno

by_ids : {X : Type 0} (made : Ids → X) (privileged : Bool) (old : Ids) (r e s : ℕ)
    → mapped made (set_all_ids (λ ids. ids) privileged old r e s) ≡ set_all_ids made privileged old r e s
unfolding mapped
by_ids made privileged old r e s = by (privileged || may_take_all old r e s)
  where
    by : (b : Bool) → mapped made (cond b (Ok (kept_ids old r e s)) (Err 1)) ≡ cond b (Ok (made (kept_ids old r e s))) (Err 1)
    by true = refl
    by false = refl

pub ids_made : {X : Type 0} (made : Ids → X) (privileged : Bool) (old : Ids) (r e s : ℕ) (ids : Ids)
    → Ok ids ≡ set_all_ids (λ i. i) privileged old r e s → set_all_ids made privileged old r e s ≡ Ok (made ids)
unfolding mapped
ids_made made privileged old r e s ids h = sym (by_ids made privileged old r e s) ∙ ap (mapped made) (sym h)
