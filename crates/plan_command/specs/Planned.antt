-- The plan of the mentions of a unit, and the line of the first path that is refused.
use Rattle.std.specs.Prelude.{◌≡◌, ℕ, IfOk, List, [], ◌∷◌, Option, Ok}
use Rattle.mount_plan.specs.path_settings.declared.mentioned.Mentioned.{Mentioned}
use Rattle.mount_plan.specs.path_settings.view_map.Kept.{Host}
use Rattle.mount_plan.specs.kern_mounts.Launch.{CanBeMounted}
use Rattle.mount_plan.specs.kern_mounts.declared.step.MountStep.{MountStep}
use Rattle.mount_plan.specs.AsView.{FindsAsView}
use Rattle.mount_plan.specs.Form.{HasPlacesOf}
use Rattle.mount_plan.specs.Planned.{AreKeptByRules, planned, views}
use Rattle.unit_inputs.specs.command_answers.CommandErrors.{or_line, refusal_in}
use Rattle.plan_command.specs.Refusals.{plan_line}

-- a table is the plan of mentions, by the rules that read them. Each path belongs to an entry that has what the view has there. Its places
-- are the root and paths of the mentions, and a launch can take it
pub record IsPlan (row_at : Host) (mentions : Mentioned) (table : List MountStep) : Type 0 where
  pub is_planned : planned row_at mentions ≡ Ok table
  pub keeps_by_rules : AreKeptByRules row_at mentions
  pub finds_as_view : IfOk (views row_at mentions) (λ view. FindsAsView view table)
  pub places_are_mentioned : HasPlacesOf mentions table
  pub can_be_mounted : CanBeMounted row_at table

-- the first path that is refused
abbrev pub path_refusals : List ℕ → Host → Mentioned → List (Option (List ℕ))
path_refusals unit row_at mentions = refusal_in (or_line (plan_line unit) (planned row_at mentions)) ∷ []
