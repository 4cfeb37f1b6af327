-- Lists of steps that are all done, put together.
use Rattle.std.proofs.Common.{◌≡◌, ℕ, suc, List, [], ◌∷◌, ◌++◌, refl, ap, ◌∙◌, sym, subst, length, arith}
use Rattle.std.specs.Prelude.{map, ◌+◌}
use Rattle.std.specs.List.{AllByRecursion}
use Rattle.launcher.specs.kernel_model.declared.reply.Reply.{Reply}
use Rattle.launcher.specs.kernel_model.declared.reply.Reply.TheVariants as w
use Rattle.launcher.specs.kernel_model.Runs.{IsDone}
use Rattle.launcher.specs.kernel_model.World.{World}
use Rattle.launcher.specs.Launch.{LaunchStep, Launched, launch_step, launch_on, launch_from}
use Rattle.launcher.proofs.Leading.{Leads}

-- the steps are done, and this holds behind them
pub record Goes (P : World → Type 0) (world : World) (steps : List LaunchStep) : Type 0 where
  pub last : World
  pub leads : Leads world steps last
  pub holds : P last

pub leads_append : (world mid last : World) (first rest : List LaunchStep) → Leads world first mid → Leads mid rest last
    → Leads world (first ++ rest) last
leads_append world mid last [] rest l more = subst (λ (v : World). Leads v rest last) (sym l) more
leads_append world mid last (step ∷ first) rest l more = (l.0, leads_append (launch_step world step).1 mid last first rest l.1 more)

pub stays : (P : World → Type 0) (world : World) → P world → Goes P world []
stays P world p = record { last = world; leads = refl; holds = p }

pub goes_once : (P : World → Type 0) (world : World) (step : LaunchStep) → IsDone (launch_step world step).0
    → P (launch_step world step).1 → Goes P world (step ∷ [])
goes_once P world step done p = record { last = (launch_step world step).1; leads = (done, refl); holds = p }

pub goes_on : (P Q : World → Type 0) (world : World) (first rest : List LaunchStep) → Goes P world first
    → ((mid : World) → P mid → Goes Q mid rest) → Goes Q world (first ++ rest)
goes_on P Q world first rest g on =
    let more = on g.last g.holds in
    record { last = more.last; leads = leads_append world g.last more.last first rest g.leads more.leads; holds = more.holds }

-- steps of one form keep what holds before them
pub goes_each : {X : Type 0} (P : World → Type 0) (F : X → Type 0) (f : X → LaunchStep) (xs : List X) → AllByRecursion F xs
    → ((x : X) (world : World) → F x → P world → Goes P world (f x ∷ []))
    → (world : World) → P world → Goes P world (map f xs)
goes_each P F f [] all' each world p = stays P world p
goes_each P F f (x ∷ xs) all' each world p = goes_on P P world (f x ∷ []) (map f xs) (each x world all'.0 p)
    (λ mid own. goes_each P F f xs all'.1 each mid own)

-- a launch whose steps are all done ends well
pub leads_launch : (world : World) (steps : List LaunchStep) (count : ℕ) (last : World) → Leads world steps last
    → launch_from world steps count ≡ Launched last (count + length steps)
leads_launch world [] count last l =
    let same : count ≡ count + 0 = omega arith in
    ap (λ (v : World). Launched v count) l ∙ ap (Launched last) same
leads_launch world (step ∷ steps) count last l = by (launch_step world step).0 refl l.0
    (leads_launch (launch_step world step).1 steps (count + 1) last l.1)
  where
    next : World
    next = (launch_step world step).1

    by : (reply : Reply) → (launch_step world step).0 ≡ reply → IsDone reply
        → launch_from next steps (count + 1) ≡ Launched last (count + 1 + length steps)
        → launch_from world (step ∷ steps) count ≡ Launched last (count + suc (length steps))
    by (w.Done value) is done rest =
        let same : count + 1 + length steps ≡ count + suc (length steps) = omega arith in
        ap (λ (r : Reply). launch_on r (count + 1) (launch_from next steps (count + 1))) is ∙ rest ∙ ap (Launched last) same
    by (w.Refused errno) is done rest = absurd done
    by w.Killed is done rest = absurd done
