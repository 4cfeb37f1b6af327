-- What the unit with the drop-in starts as, behind the word `with`.
use Rattle.std.proofs.Common.{◌≡◌, ◌∙◌, ℕ, List, [], ◌∷◌, Some, Result, Ok, Err, Vec, Global, refl, sym, ap, subst}
use Rattle.std.specs.Prelude.{IfOk, IsErrOf, option_map}
use Rattle.std.specs.declared.alloc.AllocError.{AllocError}
use Rattle.asked_service.specs.unit_inputs.command_answers.CommandErrors.{Prepares, first_refusal, error_of_line}
use Rattle.asked_service.specs.unit_inputs.declared.command_answers.error.CommandError.{CommandError}
use Rattle.asked_service.specs.unit_inputs.declared.command_answers.error.CommandError.TheVariants as stop
use Rattle.asked_service.specs.unit_inputs.Inputs.{Inputs}
use Rattle.asked_service.specs.launcher.declared.error.LaunchError.{LaunchError}
use Rattle.asked_service.specs.launcher.declared.launched.Launched.{Launched as Service}
use Rattle.asked_service.specs.launching.Starting.{StartsAs, first_start, start_refusals}
use Rattle.effect_command.specs.Lines.{with_line}
use Rattle.effect_command.specs.Stopping.{IsBehindWith}

pub behind_tells : (line : Result (Vec ℕ Global) AllocError) (first : Vec ℕ Global) (told : CommandError) → told ≡ error_of_line line
    → IfOk line (λ l. l.items ≡ with_line first.items) → IsBehindWith (stop.Refused first) told
behind_tells (Ok line) first told is holds = subst (IsBehindWith (stop.Refused first)) (sym is) holds
behind_tells (Err none) first told is holds = subst (IsBehindWith (stop.Refused first)) (sym is) tt

module _ (unit : List ℕ) (inputs : Inputs) where
  abbrev IsStarted : Result (Result Service LaunchError) CommandError → Type 0
  IsStarted result = Prepares (StartsAs inputs) (start_refusals unit inputs) result

  -- the same behind the word
  pub starts_with_ok : (launch : Result Service LaunchError) → IsStarted (Ok launch)
      → Prepares (StartsAs inputs) (option_map with_line (first_start unit inputs) ∷ []) (Ok launch)
  starts_with_ok launch is = (ap (λ found. first_refusal (option_map with_line found ∷ [])) is.0, is.1)

  pub starts_with_stop : (why told : CommandError) → IsStarted (Err why) → IsBehindWith why told
      → Prepares (StartsAs inputs) (option_map with_line (first_start unit inputs) ∷ []) (Err told)
  starts_with_stop (stop.Refused line) (stop.Refused told) is behind = ap (λ found. first_refusal (option_map with_line found ∷ [])) is
      ∙ ap Some (sym behind)
  starts_with_stop (stop.Refused line) stop.ReadFault is behind = absurd behind
  starts_with_stop (stop.Refused line) stop.Memory is behind = tt
  starts_with_stop stop.ReadFault told is behind =
      subst (λ one. Prepares (StartsAs inputs) (option_map with_line (first_start unit inputs) ∷ []) (Err one)) (sym behind) tt
  starts_with_stop stop.Memory told is behind =
      subst (λ one. Prepares (StartsAs inputs) (option_map with_line (first_start unit inputs) ∷ []) (Err one)) (sym behind) tt

pub behind_reads_nothing : (why told : CommandError) → (IsErrOf {T = Result Service LaunchError} (Err why) stop.ReadFault → ⊥) → IsBehindWith why told
    → IsErrOf {T = Result Service LaunchError} (Err told) stop.ReadFault → ⊥
behind_reads_nothing (stop.Refused line) (stop.Refused other) nothing behind e = cc
behind_reads_nothing (stop.Refused line) stop.ReadFault nothing behind e = absurd behind
behind_reads_nothing (stop.Refused line) stop.Memory nothing behind e = cc
behind_reads_nothing stop.ReadFault told nothing behind e = nothing refl
behind_reads_nothing stop.Memory told nothing behind e = (let same : told ≡ stop.Memory = behind in cc)
