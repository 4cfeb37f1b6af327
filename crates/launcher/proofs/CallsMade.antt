-- Calls of a launch that are made one after another.
use Rattle.std.proofs.Common.{◌≡◌, ℕ, List, ◌∷◌, Ok, refl, ap, ◌∙◌, sym}
use Rattle.std.specs.Prelude.{◌+◌}
use Rattle.kernel_laws.specs.kernel_model.declared.reply.Reply.{Reply}
use Rattle.kernel_laws.specs.kernel_model.declared.reply.Reply.TheVariants.{Done, Refused, Killed}
use Rattle.kernel_laws.specs.kernel_model.Runs.{IsDone}
use Rattle.kernel_laws.specs.kernel_model.World.{World}
use Rattle.launcher.specs.Ends.{StepsTo}
use Rattle.launcher.specs.Launch.{LaunchStep, LaunchOutcome, launch_step, launch_on, launch_from}

-- after a step that is done the launch goes on
pub done_on : (reply : Reply) (count : ℕ) (rest : LaunchOutcome) → IsDone reply → launch_on reply count rest ≡ rest
done_on (Done value) count rest done = refl
done_on (Refused errno) count rest done = absurd done
done_on Killed count rest done = absurd done

-- the first of some steps is done
pub step_done : (now after : World) (step : LaunchStep) (rest : List LaunchStep) (count number : ℕ)
    → StepsTo now step number (Ok tt) after → launch_from now (step ∷ rest) count ≡ launch_from after rest (count + 1)
step_done now after step rest count number is =
    done_on (launch_step now step).0 (count + 1) (launch_from (launch_step now step).1 rest (count + 1)) is.0
    ∙ ap (λ (w : World). launch_from w rest (count + 1)) (sym is.1)
