-- Steps that are all done.
use Rattle.std.proofs.Common.{◌≡◌, ℕ, suc, Bool, true, false, List, [], ◌∷◌, ◌++◌, refl, ap, ◌∙◌, sym, subst, length, arith}
use Rattle.std.specs.Prelude.{map, ◌+◌}
use Rattle.kernel_laws.specs.kernel_model.declared.reply.Reply.{Reply}
use Rattle.kernel_laws.specs.kernel_model.declared.reply.Reply.TheVariants as w
use Rattle.kernel_laws.specs.kernel_model.Runs.{IsDone}
use Rattle.kernel_laws.specs.kernel_model.World.{World}
use Rattle.launcher.specs.Launch.{LaunchStep, Launched, launch_step, launch_on, launch_from}

-- steps that are all done
abbrev pub Leads : World → List LaunchStep → World → Type 0
Leads world [] last = world ≡ last
Leads world (step ∷ steps) last = IsDone (launch_step world step).0 × Leads (launch_step world step).1 steps last

pub launched_leads : (world : World) (steps : List LaunchStep) (count : ℕ) (last : World) (all' : ℕ)
    → launch_from world steps count ≡ Launched last all' → Leads world steps last × (all' ≡ count + length steps)
launched_leads world [] count last all' e =
    let same : world ≡ last = cc in
    let counted : count ≡ all' = cc in
    (same, sym counted ∙ omega arith)
launched_leads world (step ∷ steps) count last all' e = by (launch_step world step).0 refl e
    (launched_leads (launch_step world step).1 steps (count + 1) last all')
  where
    next : World
    next = (launch_step world step).1

    by : (reply : Reply) → (launch_step world step).0 ≡ reply
        → launch_on reply (count + 1) (launch_from next steps (count + 1)) ≡ Launched last all'
        → (launch_from next steps (count + 1) ≡ Launched last all' → Leads next steps last × (all' ≡ count + 1 + length steps))
        → Leads world (step ∷ steps) last × (all' ≡ count + suc (length steps))
    by (w.Done value) is e rest =
        let more = rest e in
        ((subst IsDone (sym is) tt, more.0), more.1 ∙ omega arith)
    by (w.Refused errno) is e rest = cc
    by w.Killed is e rest = cc

pub record Middle (world : World) (first then : List LaunchStep) (last : World) : Type 0 where
  pub mid : World
  pub before : Leads world first mid
  pub after : Leads mid then last

pub leads_parts : (world : World) (first then : List LaunchStep) (last : World) → Leads world (first ++ then) last
    → Middle world first then last
leads_parts world [] then last l = record { mid = world; before = refl; after = l }
leads_parts world (step ∷ first) then last l =
    let more = leads_parts (launch_step world step).1 first then last l.1 in
    record { mid = more.mid; before = (l.0, more.before); after = more.after }

-- the same property kept by each step of one form
pub leads_map : {X : Type 0} (P : World → Type 0) (f : X → LaunchStep) (xs : List X) (world last : World)
    → ((x : X) (world : World) → P world → IsDone (launch_step world (f x)).0 → P (launch_step world (f x)).1) → P world
    → Leads world (map f xs) last → P last
leads_map P f [] world last keeps p l = subst P l p
leads_map P f (x ∷ xs) world last keeps p l = leads_map P f xs (launch_step world (f x)).1 last keeps (keeps x world p l.0) l.1

pub append_assoc : {X : Type 0} (xs ys zs : List X) → (xs ++ ys) ++ zs ≡ xs ++ (ys ++ zs)
append_assoc [] ys zs = refl
append_assoc (x ∷ xs) ys zs = ap (λ vs. x ∷ vs) (append_assoc xs ys zs)

pub append_parts : {X : Type 0} (xs ys zs vs : List X) → ((xs ++ ys) ++ zs) ++ vs ≡ xs ++ ((ys ++ zs) ++ vs)
append_parts [] ys zs vs = refl
append_parts (x ∷ xs) ys zs vs = ap (λ ws. x ∷ ws) (append_parts xs ys zs vs)

pub append_split : {X : Type 0} (xs ys zs vs : List X) → xs ++ ((ys ++ zs) ++ vs) ≡ (xs ++ ys) ++ (zs ++ vs)
append_split [] ys zs vs = append_assoc ys zs vs
append_split (x ∷ xs) ys zs vs = ap (λ ws. x ∷ ws) (append_split xs ys zs vs)

pub append_none : {X : Type 0} (xs : List X) → xs ++ [] ≡ xs
append_none [] = refl
append_none (x ∷ xs) = ap (λ zs. x ∷ zs) (append_none xs)

pub clash : (b : Bool) → b ≡ true → b ≡ false → ⊥
clash b one other = cc
