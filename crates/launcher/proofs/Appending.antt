-- Steps that loops put behind others.
use Rattle.std.proofs.Common.{◌≡◌, ℕ, suc, Bool, true, false, cond, List, [], ◌∷◌, ◌++◌, ap, ◌∙◌, sym, ◌<◌, arith}
use Rattle.std.specs.Prelude.{map, filter, ◌+◌, ◌-◌}
use Rattle.std.specs.Prelude.{Result, Ok, Err, OnOk}
use Rattle.exec_settings.specs.cap_sets.Sets.{union, cut, minus}
use Rattle.kernel_laws.specs.Questions.{count_from, if_so}
use Rattle.kernel_laws.specs.call_table.declared.listed.CallLine.{CallLine}
use Rattle.launcher.specs.Launch.{LaunchStep, Wanted, capset_step, held, give_up_steps, given_up_steps}
use Rattle.launcher.proofs.Leading.{append_assoc}

-- the steps of the capabilities from this one to the last that pass a test
abbrev pub steps_from : (ℕ → LaunchStep) → (ℕ → Bool) → ℕ → List LaunchStep
steps_from step test cap = map step (filter test (count_from cap (41 - cap)))

one_more : (step : ℕ → LaunchStep) (test : ℕ → Bool) (cap : ℕ) → cap < 41
    → steps_from step test cap
    ≡ map step (cond (test cap) (cap ∷ filter test (count_from (cap + 1) (41 - (cap + 1))))
    (filter test (count_from (cap + 1) (41 - (cap + 1)))))
one_more step test cap lt =
    let left : 41 - cap ≡ suc (41 - (cap + 1)) = omega (arith, lt) in
    ap (λ n. map step (filter test (count_from cap n))) left

-- a step that is put where it is wanted
pub step_more : (step : ℕ → LaunchStep) (test : ℕ → Bool) (before after : List LaunchStep) (cap word : ℕ) (wanted : Bool)
    (made : LaunchStep) → cap < 41 → word ≡ cap → wanted ≡ test cap → made ≡ step word
    → after ≡ before ++ if_so wanted made → after ++ steps_from step test (cap + 1) ≡ before ++ steps_from step test cap
step_more step test before after cap word wanted made lt same is own put =
    ap (λ (steps : List LaunchStep). steps ++ steps_from step test (cap + 1))
    (put ∙ ap (λ b. before ++ if_so b made) is ∙ ap (λ (s : LaunchStep). before ++ if_so (test cap) s) (own ∙ ap step same))
    ∙ by (test cap)
    ∙ ap (λ (steps : List LaunchStep). before ++ steps) (sym (one_more step test cap lt))
  where
    by : (b : Bool) → (before ++ if_so b (step cap)) ++ map step (filter test (count_from (cap + 1) (41 - (cap + 1))))
        ≡ before ++ map step (cond b (cap ∷ filter test (count_from (cap + 1) (41 - (cap + 1))))
        (filter test (count_from (cap + 1) (41 - (cap + 1)))))
    by true = append_assoc before (step cap ∷ []) (map step (filter test (count_from (cap + 1) (41 - (cap + 1)))))
    by false = append_assoc before [] (map step (filter test (count_from (cap + 1) (41 - (cap + 1)))))

-- what was kept is given up: the steps that drop it, and one more
pub given_up_more : (lines : List CallLine) (wanted : Wanted) (given inherited : ℕ) (before mid after : List LaunchStep) (made : LaunchStep)
    → wanted.keeps_capabilities ≡ true → given ≡ minus held wanted.bounding → inherited ≡ union wanted.ambient (cut held wanted.bounding)
    → mid ≡ before ++ given_up_steps lines given → made ≡ capset_step lines wanted.ambient wanted.ambient inherited
    → after ≡ mid ++ made ∷ [] → after ≡ before ++ give_up_steps lines wanted
given_up_more lines wanted given inherited before mid after made keeps lacks stays dropped own put =
    put
    ∙ ap (λ (steps : List LaunchStep). steps ++ made ∷ []) dropped
    ∙ ap (λ n. (before ++ given_up_steps lines n) ++ made ∷ []) lacks
    ∙ ap (λ (step : LaunchStep). (before ++ given_up_steps lines (minus held wanted.bounding)) ++ step ∷ [])
    (own ∙ ap (capset_step lines wanted.ambient wanted.ambient) stays)
    ∙ append_assoc before (given_up_steps lines (minus held wanted.bounding))
    (capset_step lines wanted.ambient wanted.ambient (union wanted.ambient (cut held wanted.bounding)) ∷ [])
    ∙ ap (λ b. before ++ cond b (given_up_steps lines (minus held wanted.bounding)
    ++ capset_step lines wanted.ambient wanted.ambient (union wanted.ambient (cut held wanted.bounding)) ∷ []) []) (sym keeps)

-- what follows from an answer that is Ok
pub follows_on_ok : {A E : Type 0} (P Q : Type 0) (answer : Result A E) → (P → Q) → OnOk answer P → OnOk answer Q
follows_on_ok P Q (Ok value) to own = to own
follows_on_ok P Q (Err error) to own = own
