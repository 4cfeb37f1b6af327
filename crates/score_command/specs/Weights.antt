-- The line of a policy that weighs nothing.
use Rattle.std.specs.Prelude.{ℕ, ◌==◌, cond, codes, List, Option, Some, None}
use Rattle.unit_inputs.specs.command_answers.Refusals.{refused_line}

abbrev pub no_weight_line : List ℕ → List ℕ
no_weight_line path = refused_line path (codes "no-weight")

-- a policy of this path that weighs so much is refused where that is nothing
abbrev pub weight_refusal : List ℕ → ℕ → Option (List ℕ)
weight_refusal path weight = cond (weight == 0) (Some (no_weight_line path)) None
