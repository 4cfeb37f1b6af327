-- What lines open is among the questions of the tables.
use Rattle.std.proofs.Common.{ℕ, List}
use Rattle.std.specs.Prelude.{Contains}
use Rattle.std.specs.List.{All, AllByRecursion}
use Rattle.std.proofs.lemmas.List.Elements.{All-contains_itself, All-from_recursion, All-weaker, recursion_from_All}
use Rattle.asked_service.specs.call_table.Table as calls
use Rattle.asked_service.specs.kernel_laws.Questions.{questions}
use Rattle.asked_service.specs.kernel_model.World.{World}
use Rattle.why_command.specs.opening_lines.Opening.{IsAlone, OpensOf, is_opened, no_question, stays_denied, was_open}
use Rattle.why_command.specs.declared.opening_lines.alone.Alone.{Alone}
use Rattle.why_command.specs.declared.opening_lines.alone.Alone.TheVariants.{Opens, Needed}
use Rattle.why_command.specs.declared.opening_lines.each.LineAlone.{LineAlone}
use Rattle.asked_service.specs.kernel_laws.declared.question_types.question.Question.{Question}
use Rattle.asked_service.specs.unit_inputs.Inputs.{Inputs}
use Rattle.asked_service.specs.dropin_merge.declared.unit_values.value.Place.{Place}
use Rattle.why_command.specs.lines_command.Lines.{IsListed}

among : {before after : World} {list opened : List Question} (P : Question → Type 0) → OpensOf before after list opened
    → AllByRecursion P list → AllByRecursion P opened
among P no_question all = tt
among P (was_open question rest opened was more) all = among P more all.1
among P (stays_denied question rest opened was is more) all = among P more all.1
among P (is_opened question rest opened was is more) all = (all.0, among P more all.1)

module _ (name : List ℕ) (inputs : Inputs) (before : World) where
  listed : (place : Place) (alone : Alone) → IsAlone name inputs before place alone → IsListed inputs.calls inputs.site alone
  listed place (Opens opened) is =
      let all = questions inputs.calls inputs.site in
      All-from_recursion (Contains all) opened.items
      (among (Contains all) is.exactly (recursion_from_All (Contains all) all (All-contains_itself all)))
  listed place Needed is = tt

  pub all_listed : (told : List LineAlone) → All (λ one. IsAlone name inputs before one.line.now.place one.alone) told
      → All (λ one. IsListed inputs.calls inputs.site one.alone) told
  all_listed told all =
      All-weaker (λ (one : LineAlone). IsAlone name inputs before one.line.now.place one.alone)
      (λ (one : LineAlone). IsListed inputs.calls inputs.site one.alone) (λ one is. listed one.line.now.place one.alone is) told all
