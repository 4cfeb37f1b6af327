-- The plan of mentions, and the path that is refused.
use Rattle.std.proofs.Common.{◌≡◌, ◌≢◌, ◌∙◌, ℕ, List, [], ◌∷◌, Some, None, Result, Ok, Err, Vec, Global, refl, sym, ap, subst}
use Rattle.std.specs.Prelude.{IfOk}
use Rattle.std.specs.declared.alloc.AllocError.{AllocError}
use Rattle.mount_plan.specs.path_settings.declared.mentioned.Mentioned.{Mentioned}
use Rattle.mount_plan.specs.path_settings.view_map.Kept.{Host}
use Rattle.mount_plan.specs.Planned.{AreKeptByRules, views}
use Rattle.mount_plan.specs.kern_mounts.Launch.{CanBeMounted}
use Rattle.mount_plan.specs.kern_mounts.declared.step.MountStep.{MountStep}
use Rattle.mount_plan.specs.Answers.{Plans}
use Rattle.mount_plan.specs.AsView.{FindsAsView}
use Rattle.mount_plan.specs.Form.{HasPlacesOf}
use Rattle.mount_plan.specs.declared.error.PlanError.{PlanError}
use Rattle.mount_plan.specs.declared.error.PlanError.TheVariants.{Missing, Kind, Memory}
use Rattle.unit_inputs.specs.command_answers.CommandErrors.{Prepares, first_refusal, or_line, refusal_in, error_of_line}
use Rattle.plan_command.specs.Planned.{IsPlan, path_refusals}
use Rattle.plan_command.specs.Refusals.{error_line, plan_line}

module _ (unit : List ℕ) (row_at : Host) (mentions : Mentioned) where
  -- a table is the plan
  pub plan_is : (table : List MountStep) → Plans row_at mentions (Ok table)
      → AreKeptByRules row_at mentions → IfOk (views row_at mentions) (λ view. FindsAsView view table)
      → HasPlacesOf mentions table → CanBeMounted row_at table
      → Prepares (IsPlan row_at mentions) (path_refusals unit row_at mentions) (Ok table)
  plan_is table is keeps finds places can = (
    ap (λ found. first_refusal (refusal_in (or_line (plan_line unit) found) ∷ [])) is,
    record {
      is_planned = is;
      keeps_by_rules = keeps;
      finds_as_view = finds;
      places_are_mentioned = places;
      can_be_mounted = can;
    },
  )

  -- an error is the first path that is refused
  pub plan_stops : (error : PlanError) (line : Result (Vec ℕ Global) AllocError) → error ≢ Memory → Plans row_at mentions (Err error)
      → IfOk line (λ l. l.items ≡ error_line unit error) → Prepares (IsPlan row_at mentions) (path_refusals unit row_at mentions)
      (Err (error_of_line line))
  plan_stops error (Err none) told refuses is = tt
  plan_stops (Missing path) (Ok line) told refuses is = ap (λ found. first_refusal (refusal_in (or_line (plan_line unit) found) ∷ []))
      refuses ∙ ap Some (sym is)
  plan_stops (Kind path) (Ok line) told refuses is = ap (λ found. first_refusal (refusal_in (or_line (plan_line unit) found) ∷ []))
      refuses ∙ ap Some (sym is)
  plan_stops Memory (Ok line) told refuses is = absurd (told refl)
