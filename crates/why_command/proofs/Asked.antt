-- What one verdict tells of a unit without some of its lines.
use Rattle.std.proofs.Common.{◌≡◌, ◌≢◌, ℕ, Bool, true, false, List, Some, Result, Ok, Err, Vec, Global, sym, ap, subst}
use Rattle.std.specs.Prelude.{Contains, IfOk}
use Rattle.std.specs.declared.alloc.AllocError.{AllocError}
use Rattle.asked_service.proofs.Exact.{all_at}
use Rattle.asked_service.specs.Asked.{IsBounded, is_open_by}
use Rattle.asked_service.specs.declared.bounding.Bounded.{Bounded}
use Rattle.asked_service.specs.call_table.Table as calls
use Rattle.asked_service.specs.dropin_merge.declared.resolved.Resolved.{Resolved}
use Rattle.asked_service.specs.kernel_laws.Bound.{is_open}
use Rattle.asked_service.specs.kernel_laws.Launched.{Launch, launch_of}
use Rattle.asked_service.specs.kernel_laws.Questions as asked
use Rattle.asked_service.specs.kernel_model.World.{World}
use Rattle.asked_service.specs.kernel_ways.Laws.{IsExact, IsServedWorld, QuestionsAreExact}
use Rattle.asked_service.specs.launcher.declared.launched.Launched.{Launched as Service}
use Rattle.asked_service.specs.kernel_laws.declared.question_types.question.Question.{Question}
use Rattle.asked_service.specs.site_table.Table.{Site}
use Rattle.asked_service.specs.launching.Starting.{StartsAs, given}
use Rattle.asked_service.specs.unit_inputs.Inputs.{Inputs}
use Rattle.asked_service.specs.declared.launching.refusal.Refusal.{Refusal}
use Rattle.asked_service.specs.declared.launching.refusal.Refusal.TheVariants.{Memory}
use Rattle.asked_service.specs.launching.Launched as launching
use Rattle.asked_service.specs.launching.Refusals.{refusal_line}
use Rattle.why_command.specs.deciding_lines.unit_lines.Without.{without}
use Rattle.asked_service.specs.dropin_merge.declared.unit_values.value.Place.{Place}
use Rattle.why_command.specs.deciding_lines.Tried.{IsDeniedWithout, IsNotLaunched, IsOpenWithout, IsSaid, TellsOpen, Tried, denied, inputs_without}
use Rattle.why_command.specs.deciding_lines.Tried.{IsRefusedWith, IsStarted, is_refused}
use Rattle.why_command.specs.declared.deciding_lines.starting.Started.{Started}
use Rattle.why_command.specs.declared.deciding_lines.starting.Started.TheVariants as started

-- a verdict by the rule says so
said_exactly : (world : World) (question : Question) (answer : Bool) → IsExact world question
    → answer ≡ is_open (launch_of world) question → IsSaid world question answer
said_exactly world question true exact is = exact.opens (sym is)
said_exactly world question false exact is = exact.denies (sym is)

pub said : QuestionsAreExact → (world : World) → IsServedWorld world → (question : Question)
    → Contains (asked.questions world.calls world.site) question
    → (answer : Bool) → answer ≡ is_open_by world question → IsSaid world question answer
said exact world served question listed answer is =
    said_exactly world question answer
    (all_at (IsExact world) (asked.questions world.calls world.site) question (exact world served) listed) is

-- also where it is bounded
module _ (service : Service) (bounded : Bounded) (same : bounded.service ≡ service) (question : Question) (is_listed : Contains (asked.questions service.world.calls service.world.site) question) where
  pub listed_of : Contains (asked.questions bounded.service.world.calls bounded.service.world.site) question
  listed_of = subst (λ (own : Service). Contains (asked.questions own.world.calls own.world.site) question) (sym same) is_listed

  pub said_of : QuestionsAreExact → IsBounded bounded → (answer : Bool) → answer ≡ is_open_by bounded.service.world question
      → IsSaid service.world question answer
  said_of exact bounds answer is =
      subst (λ (own : Service). IsSaid own.world question answer) same
      (said exact bounded.service.world bounds.served question listed_of answer is)

-- what starts is served, over the tables
module _ (inputs : Inputs) (service : Service) (starts : StartsAs inputs (Ok service)) where
  pub served : IsServedWorld service.world
  served = starts.launched.is_served

  pub own_calls : service.world.calls ≡ inputs.calls
  own_calls = ap (λ (made : Launch). made.calls) starts.launched.leaves_one_process.leaves.is

  pub own_site : service.world.site ≡ inputs.site
  own_site = ap (λ (made : Launch). made.site) starts.launched.leaves_one_process.leaves.is

  pub listed : (question : Question) → Contains (asked.questions inputs.calls inputs.site) question
      → Contains (asked.questions service.world.calls service.world.site) question
  listed question is =
      subst (λ (table : calls.Table). Contains (asked.questions table service.world.site) question) (sym own_calls)
      (subst (λ (site : Site). Contains (asked.questions inputs.calls site) question) (sym own_site) is)

-- what a unit is refused for
pub refused_as : (name : List ℕ) (inputs : Inputs) (refusal : Refusal) (result : Result Started AllocError)
    → launching.IsNotLaunched inputs.unit inputs.calls inputs.site refusal
    → IfOk result (λ told. (refusal ≢ Memory) × IsRefusedWith (refusal_line name refusal) told) → IfOk result (IsStarted name inputs)
refused_as name inputs refusal (Err none) refused told = tt
refused_as name inputs refusal (Ok (started.Launched service)) refused told = absurd told.1
refused_as name inputs refusal (Ok (started.Refused line)) refused told =
    subst (IsNotLaunched name inputs) (sym told.1) (is_refused refusal told.0 refused)

-- what a unit starts as without some of its lines
pub as_without : (name : List ℕ) (inputs : Inputs) (places : List Place) (less : Resolved) → less ≡ without places inputs.unit
    → (result : Result Started AllocError) → IfOk result (IsStarted name (given less inputs.calls inputs.site))
    → IfOk result (IsStarted name (inputs_without inputs places))
as_without name inputs places less is result starts =
    subst (λ (own : Resolved). IfOk result (IsStarted name (given own inputs.calls inputs.site))) is starts

-- what is told of a launch without them
module _ (tried : Tried) (places : List Place) where
  pub tells_service : (service : Service) → StartsAs (inputs_without tried.inputs places) (Ok service)
      → (result : Result Bool AllocError) → IfOk result (IsSaid service.world tried.question) → IfOk result (TellsOpen tried places)
  tells_service service starts (Ok true) found = record { service = service; starts = starts; shown = found }
  tells_service service starts (Ok false) found = denied (record { service = service; starts = starts; denied = found })
  tells_service service starts (Err none) found = tt

  pub open_as : (service : Service) → StartsAs (inputs_without tried.inputs places) (Ok service) → (answer : Bool) → answer ≡ true
      → IsSaid service.world tried.question answer → IsOpenWithout tried places
  open_as service starts answer is found =
      record { service = service; starts = starts; shown = subst (IsSaid service.world tried.question) is found }

  pub denied_as : (service : Service) → StartsAs (inputs_without tried.inputs places) (Ok service) → (answer : Bool)
      → answer ≡ false → IsSaid service.world tried.question answer → IsDeniedWithout tried places
  denied_as service starts answer is found =
      record { service = service; starts = starts; denied = subst (IsSaid service.world tried.question) is found }
