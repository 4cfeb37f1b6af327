-- What the unit without a line comes to is what the line denies by itself.
use Rattle.std.proofs.Common.{◌≡◌, ◌∙◌, Ok, List, [], ◌∷◌, Vec, Global, ap, ap₂, subst, sym}
use Rattle.asked_service.specs.declared.bounding.Bounded.{Bounded}
use Rattle.why_command.proofs.Asked.{own_calls, own_site, served}
use Rattle.why_command.specs.deciding_lines.Tried.{inputs_without}
use Rattle.asked_service.specs.Asking.{world_in}
use Rattle.asked_service.specs.ByRule.{AnswersAreTrue}
use Rattle.asked_service.specs.kernel_laws.Launched.{launch_of}
use Rattle.asked_service.specs.kernel_laws.Questions.{questions}
use Rattle.asked_service.specs.launcher.declared.launched.Launched.{Launched as Service}
use Rattle.asked_service.specs.kernel_laws.declared.question_types.question.Question.{Question}
use Rattle.asked_service.specs.launching.Starting.{StartsAs}
use Rattle.asked_service.specs.unit_inputs.Inputs.{Inputs}
use Rattle.asked_service.specs.dropin_merge.declared.unit_values.value.Place.{Place}
use Rattle.why_command.proofs.Opening.{opens_exactly}
use Rattle.why_command.specs.opening_lines.ByRule.{opened_by}
use Rattle.why_command.specs.opening_lines.Judging.{IsAloneOf, IsJudged, inputs_in}
use Rattle.why_command.specs.opening_lines.Opening.{OpensOf}
use Rattle.why_command.specs.declared.opening_lines.alone.Alone.TheVariants.{Opens}
use Rattle.why_command.specs.declared.opening_lines.judged.Judged.{Judged}

module _ (judged : Judged) (is : IsJudged judged) (place : Place) where
  abbrev less : Inputs
  less = inputs_without (inputs_in judged) (place ∷ [])

  before_calls : (world_in judged.asked).calls ≡ judged.calls.now
  before_calls = own_calls (inputs_in judged) judged.asked.bounded.service is.starts

  before_site : (world_in judged.asked).site ≡ judged.site.now
  before_site = own_site (inputs_in judged) judged.asked.bounded.service is.starts

  -- the list that is asked is that of the tables
  all_of : judged.asked.questions.items ≡ questions judged.calls.now judged.site.now
  all_of = is.is_asked.questions ∙ ap₂ questions before_calls before_site

  -- the unit without the line is launched
  module _ (service : Service) (starts : StartsAs less (Ok service)) (after : Bounded) (same : after.service ≡ service) (list : List Question) (listed : list ≡ judged.asked.questions.items) where
    pub all_after : list ≡ questions after.service.world.calls after.service.world.site
    all_after =
        listed ∙ all_of
        ∙ sym (ap₂ questions (ap (λ (own : Service). own.world.calls) same ∙ own_calls less service starts)
        (ap (λ (own : Service). own.world.site) same ∙ own_site less service starts))

    opened_is : (opened : Vec Question Global) → opened.items
        ≡ opened_by (launch_of (world_in judged.asked)) (launch_of after.service.world) list
        → opened.items ≡ opened_by (launch_of (world_in judged.asked)) (launch_of service.world)
        (questions judged.calls.now judged.site.now)
    opened_is opened says =
        says ∙ ap (λ (own : Service). opened_by (launch_of (world_in judged.asked)) (launch_of own.world) list) same
        ∙ ap (λ all. opened_by (launch_of (world_in judged.asked)) (launch_of service.world) all) (listed ∙ all_of)

    pub opens_it : AnswersAreTrue → (opened : Vec Question Global)
        → opened.items ≡ opened_by (launch_of (world_in judged.asked)) (launch_of after.service.world) list
        → IsAloneOf judged place (Opens opened)
    opens_it answers opened says = record {
      service = service;
      starts = starts;
      exactly = subst (OpensOf (world_in judged.asked) service.world (questions judged.calls.now judged.site.now))
          (sym (opened_is opened says))
          (opens_exactly answers judged.calls.now judged.site.now
          (world_in judged.asked) service.world judged.asked.bounded.service.program service.program
          is.is_asked.bounded.served is.is_asked.program (served less service starts) starts.launched.runs_its_program before_calls
          before_site (own_calls less service starts) (own_site less service starts));
    }
