use Rattle.std.proofs.Common.{[], ◌∷◌, ◌++◌, ap, sym, ◌∙◌, append_assoc}
use Rattle.std.specs.List.{cons_option, filter_map}
use Rattle.std.proofs.lemmas.List.Elements.{filter_map-append}
use Rattle.asked_service.specs.dropin_merge.declared.unit_values.value.Place.{Place}
use Rattle.asked_service.specs.dropin_merge.unit_values.Walk.{assignments_left}
use Rattle.asked_service.specs.unit_grammar.declared.unit.Assignment.{Assignment}
use Rattle.why_command.specs.deciding_lines.unit_lines.Lines.{line_at}
use Rattle.why_command.proofs.deciding_lines.unit_lines.listing.lines.Goals as goal

pub loop-place-preserved : goal.loop-place-preserved
loop-place-preserved c =
    let f = line_at c.args.unit.now.systemd in
    let one : Place × Assignment = (c.in-Some.place, c.in-Some.assignment.now) in
    let rest = assignments_left c.next.new.self in
    ap (λ lines. lines ++ filter_map f rest) c.in_ok-push_if_read.ensures
    ∙ append_assoc c.loop-place.lines.items (cons_option (f one) []) (filter_map f rest)
    ∙ ap (λ lines. c.loop-place.lines.items ++ lines) (sym (filter_map-append f (one ∷ []) rest))
    ∙ ap (λ places. c.loop-place.lines.items ++ filter_map f places) (sym c.in-Some.ensures.steps)
    ∙ c.loop-place.invariant
