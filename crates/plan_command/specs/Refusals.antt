-- The lines of units whose mounts have no plan.
use Rattle.std.specs.Prelude.{ℕ, List, [], ◌++◌, codes}
use Rattle.unit_inputs.specs.abs_path.Paths.{Path, text_of}
use Rattle.unit_inputs.specs.text_forms.Escaped.{escaped_word}
use Rattle.unit_inputs.specs.command_answers.Refusals.{refused_line}
use Rattle.mount_plan.specs.path_settings.view_map.Kept.{Refusal, missing, wrong_kind}
use Rattle.mount_plan.specs.declared.error.PlanError.{PlanError}
use Rattle.mount_plan.specs.declared.error.PlanError.TheVariants.{Missing, Kind, Memory}

-- why, and at which path
abbrev pub cause_at : List ℕ → Path → List ℕ
cause_at cause path = cause ++ (codes " " ++ escaped_word (text_of path))

-- why there is no plan: no object at a path, or one of the wrong kind
abbrev pub plan_cause : Refusal → List ℕ
plan_cause (missing path) = cause_at (codes "no-path") path
plan_cause (wrong_kind path) = cause_at (codes "kind") path

abbrev pub plan_line : List ℕ → Refusal → List ℕ
plan_line unit refusal = refused_line unit (plan_cause refusal)

-- the cause of an error is the cause of the refusal that it represents; if memory runs out, there is no cause
abbrev pub error_cause : PlanError → List ℕ
error_cause (Missing path) = plan_cause (missing path)
error_cause (Kind path) = plan_cause (wrong_kind path)
error_cause Memory = []

abbrev pub error_line : List ℕ → PlanError → List ℕ
error_line unit error = refused_line unit (error_cause error)
