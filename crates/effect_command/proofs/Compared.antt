-- What two services are compared by is what changes.
use Rattle.std.proofs.Common.{◌≡◌, ◌∙◌, ℕ, List, Ok, ap, ap₂, refl, sym, subst}
use Rattle.std.specs.Prelude.{map}
use Rattle.asked_service.specs.Asking.{IsAsked, launch_in, world_in}
use Rattle.asked_service.specs.declared.asking.Asked.{Asked}
use Rattle.asked_service.specs.call_table.Table as calls
use Rattle.asked_service.specs.unit_inputs.declared.command_answers.exit_status.ExitStatus.{ExitStatus}
use Rattle.asked_service.specs.unit_inputs.declared.command_answers.exit_status.ExitStatus.TheVariants.{Done}
use Rattle.asked_service.specs.kernel_laws.Launched.{launch_of}
use Rattle.asked_service.specs.kernel_laws.Questions.{questions}
use Rattle.asked_service.specs.launcher.declared.launched.Launched.{Launched as Service}
use Rattle.asked_service.specs.kernel_laws.declared.question_types.question.Question.{Question}
use Rattle.asked_service.specs.site_table.Table.{Site}
use Rattle.asked_service.specs.verdict_changes.ByRule.{ChangesAreTrue, changes_by}
use Rattle.asked_service.specs.verdict_changes.Changes.{Change}
use Rattle.effect_command.specs.Lines.{effect_text}
use Rattle.effect_command.specs.Prints.{TellsBoth}
use Rattle.effect_command.specs.Stopping.{IsOver}
use Rattle.effect_command.specs.Told.{told_text}

-- the tables that a service is launched over
pub own_calls : (table : calls.Table) (site : Site) (service : Service) → IsOver table site service → service.world.calls ≡ table
own_calls table site service is = ap (λ made. made.calls) is.1.launched.leaves_one_process.leaves.is

pub own_site : (table : calls.Table) (site : Site) (service : Service) → IsOver table site service → service.world.site ≡ site
own_site table site service is = ap (λ made. made.site) is.1.launched.leaves_one_process.leaves.is

module _ (table : calls.Table) (site : Site) (before after : Service) (one : IsOver table site before) (other : IsOver table site after) (first second : Asked) (same_first : first.bounded.service ≡ before) (same_second : second.bounded.service ≡ after) where
  pub same_calls : (world_in first).calls ≡ (world_in second).calls
  same_calls =
      ap (λ (service : Service). service.world.calls) same_first ∙ own_calls table site before one
      ∙ sym (own_calls table site after other) ∙ sym (ap (λ (service : Service). service.world.calls) same_second)

  pub same_site : (world_in first).site ≡ (world_in second).site
  same_site =
      ap (λ (service : Service). service.world.site) same_first ∙ own_site table site before one
      ∙ sym (own_site table site after other) ∙ sym (ap (λ (service : Service). service.world.site) same_second)

  abbrev found : List Change
  found = changes_by (launch_of before.world) (launch_of after.world) after.program (questions table site) site.rows

  text_is : IsAsked second → told_text first second ≡ effect_text table site found
  text_is is =
      ap (λ (list : List Question). effect_text (world_in second).calls (world_in second).site
      (changes_by (launch_in first) (launch_in second) second.bounded.service.program list (world_in second).site.rows)) is.questions
      ∙ ap₂ (λ (a b : Service). effect_text b.world.calls b.world.site
      (changes_by (launch_of a.world) (launch_of b.world) b.program (questions b.world.calls b.world.site) b.world.site.rows))
      same_first same_second
      ∙ ap₂ (λ (t : calls.Table) (s : Site). effect_text t s
      (changes_by (launch_of before.world) (launch_of after.world) after.program (questions t s) s.rows))
      (own_calls table site after other) (own_site table site after other)

  pub compared : ChangesAreTrue → IsAsked second → (status : ExitStatus) (text : List ℕ) → status ≡ Done → text ≡ told_text first second
      → TellsBoth table site (Ok before) (Ok after) status text
  compared are_true is status text ends says = (
    ends,
    (
      found,
      (
        are_true table site before.world after.world before.program after.program one.1.launched.is_served one.1.launched.runs_its_program
            other.1.launched.is_served other.1.launched.runs_its_program
            (own_calls table site before one) (own_site table site before one) (own_calls table site after other)
            (own_site table site after other),
        says ∙ text_is is,
      ),
    ),
  )
