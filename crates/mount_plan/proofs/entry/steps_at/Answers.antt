use Rattle.std.proofs.Common.{◌∷◌, ◌++◌, [], map, take, sym, ap, ◌∙◌, arith}
use Rattle.std.proofs.lemmas.List.{map_more}
use Rattle.mount_plan.specs.Host.{host_of}
use Rattle.mount_plan.specs.Plan.{step_at, hides_dir_at}
use Rattle.mount_plan.proofs.entry.steps_at.Goals as goal

pub loop-place-preserved : goal.loop-place-preserved
loop-place-preserved c =
    let made = step_at c.args.kept.now (hides_dir_at (host_of c.args.site.now) c.args.kept.now) in
    let before = map made (take c.loop-place.place-index c.args.places.now) in
    c.in_ok-push.ensures.items ∙ ap (λ steps. steps ++ c.in_ok-step_at.field-0 ∷ []) c.loop-place.invariant
    ∙ ap (λ step. before ++ step ∷ []) (c.in_ok-step_at.ensures ∙ ap made c.place-item.is)
    ∙ sym (map_more made c.args.places.now c.loop-place.place-index c.place-item.result (omega arith))
