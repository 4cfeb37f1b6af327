use Rattle.std.proofs.Common.{Some, refl, sym, ◌∙◌}
use Rattle.std.proofs.lemmas.Result.{on_ok_weaker}
use Rattle.text_forms.specs.declared.splitting.SoFar.{SoFar}
use Rattle.text_forms.proofs.SoFar.{part_passed, edge_put, edge_passed, gap_passed}
use Rattle.text_forms.proofs.splitting.SoFar.pass.Goals as goal

pub returns-in-Part : goal.returns-in-Part
returns-in-Part c =
    let new : SoFar = record { opened = c.mark_of-mark.result.1; begun = c.push_part.new.begun; whole = c.args.self.now.whole } in
    on_ok_weaker c.push_part.result
    (part_passed c.args.self.now new c.args.symbol c.in-Part.byte c.mark_of-mark.ensures.open_behind
    (sym c.in-Part.is ∙ c.mark_of-mark.ensures.mark) refl)
    c.push_part.ensures

pub returns-in-Edge : goal.returns-in-Edge
returns-in-Edge c =
    let new : SoFar = record { opened = c.mark_of-mark.result.1; begun = Some c.get_or_insert.result.now; whole = c.args.self.now.whole } in
    edge_passed c.args.self.now new c.args.symbol c.mark_of-mark.ensures.open_behind (sym c.in-Edge.is ∙ c.mark_of-mark.ensures.mark) refl
    (edge_put c.args.self.now.begun c.new.result c.get_or_insert.result.now c.new.ensures.items c.get_or_insert.ensures.value)

pub returns-in-Gap : goal.returns-in-Gap
returns-in-Gap c =
    gap_passed c.args.self.now c.end_word.new.self c.args.symbol c.end_word.result
    (c.end_word.ensures.opened ∙ c.mark_of-mark.ensures.open_behind)
    (sym c.in-Gap.is ∙ c.mark_of-mark.ensures.mark) c.end_word.ensures.ended c.end_word.ensures.whole
