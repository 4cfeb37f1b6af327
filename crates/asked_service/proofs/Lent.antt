-- What is known of the service that is asked, said of the service for which calls are made.
use Rattle.std.proofs.Common.{◌≡◌, true, ap₂, sym, subst}
use Rattle.std.specs.Prelude.{Contains}
use Rattle.judge.specs.abs_path.Paths.{Path}
use Rattle.judge.specs.kernel_laws.Bound.{is_open}
use Rattle.judge.specs.kernel_laws.Launched.{launch_of}
use Rattle.judge.specs.kernel_laws.Questions.{questions}
use Rattle.judge.specs.kernel_model.World.{World}
use Rattle.judge.specs.kernel_ways.Laws.{IsServedWorld}
use Rattle.judge.specs.kernel_ways.Offers.{RunsProgram}
use Rattle.open_calls.specs.chosen_calls.Chosen.{calls_for}
use Rattle.open_calls.specs.declared.service.Service.{Service}
use Rattle.judge.specs.kernel_laws.declared.question_types.question.Question.{Question}
use Rattle.asked_service.specs.Asking.{IsAsked, launch_in, world_in}
use Rattle.asked_service.specs.Lent.{IsServiceOf}
use Rattle.asked_service.specs.declared.asking.Asked.{Asked}

module _ (asked : Asked) (service : Service) (is : IsServiceOf asked service) where
  pub is_served : IsAsked asked → IsServedWorld service.world.now
  is_served own = subst IsServedWorld (sym is.0) own.bounded.served

  pub runs_it : IsAsked asked → RunsProgram (launch_of service.world.now) service.program.now
  runs_it own =
      let there : RunsProgram (launch_of service.world.now) asked.bounded.service.program = subst (λ (world : World). RunsProgram (launch_of world) asked.bounded.service.program) (sym is.0) own.program in
      subst (λ (path : Path). RunsProgram (launch_of service.world.now) path) (sym is.1) there

  pub lists_it : (question : Question) → Contains (questions (world_in asked).calls (world_in asked).site) question
      → Contains (questions service.world.now.calls service.world.now.site) question
  lists_it question h = subst (λ (world : World). Contains (questions world.calls world.site) question) (sym is.0) h

  pub opens_it : (question : Question) → is_open (launch_in asked) question ≡ true → is_open (launch_of service.world.now) question ≡ true
  opens_it question h = subst (λ (world : World). is_open (launch_of world) question ≡ true) (sym is.0) h

  -- the calls that are chosen are those of the service that is asked
  pub chosen_for_it : (question : Question) → calls_for (launch_of service.world.now) service.program.now question
      ≡ calls_for (launch_in asked) asked.bounded.service.program question
  chosen_for_it question = ap₂ (λ (world : World) (path : Path). calls_for (launch_of world) path question) is.0 is.1
