use Rattle.std.proofs.Common.{refl, subst, sym, ◌∙◌, ◌≡◌}
use Rattle.std.specs.Prelude.{IfOk}
use Rattle.std.specs.List.{All}
use Rattle.asked_service.specs.Asking.{world_in}
use Rattle.why_command.proofs.LinesCommandTold.{tells_it}
use Rattle.why_command.proofs.Listed.{all_listed}
use Rattle.why_command.proofs.Told.{told_as}
use Rattle.why_command.specs.lines_command.Lines.{IsListed, lines_text}
use Rattle.why_command.specs.lines_command.Prints.{TellsService}
use Rattle.why_command.specs.opening_lines.Judging.{inputs_in}
use Rattle.why_command.proofs.lines_command.answering.tell_judged.Goals as goal

pub lines_text-requires : goal.lines_text-requires
lines_text-requires c =
    let judged = c.args.judged.now in
    record {
      listed =
          subst (All (λ one. IsListed judged.calls.now judged.site.now one.alone)) (sym c.deref-2.ensures.value)
          (all_listed judged.name.now (inputs_in judged) (world_in judged.asked) c.in_ok-told.told.items c.in_ok-told.ensures.each_is_so);
    }

pub returns : goal.returns
returns c =
    let judged = c.args.judged.now in
    let inputs = inputs_in judged in
    told_as (TellsService judged.name.now inputs judged.asked.bounded.service)
    (lines_text inputs.calls inputs.site inputs.unit.files c.in_ok-told.told.items)
    (tells_it judged.name.now inputs judged.asked.bounded.service judged.asked.bounded.service refl c.in_ok-told.told.items
    (c.in_ok-told.ensures.one_each ∙ c.deref.ensures.value ∙ c.in_ok-all.ensures.all_in_order) c.in_ok-told.ensures.each_is_so _ refl)
    c.lines_text.result
    (subst (λ own. IfOk c.lines_text.result (λ text. text.items ≡ lines_text inputs.calls inputs.site inputs.unit.files own))
    c.deref-2.ensures.value c.lines_text.ensures.tells_all)
