use Rattle.std.proofs.Common.{◌≡◌, ◌∙◌, [], sym, ap, arith}
use Rattle.std.proofs.lemmas.Grind.{common_steps}
use Rattle.abs_path.specs.Paths.{parts_of}
use Rattle.kern_mounts.proofs.Paths.{none_behind}
use Rattle.kern_mounts.proofs.table.bind.rest_below.Goals as goal

pub returns-then-is_empty-clause-below : goal.returns-then-is_empty-clause-below
returns-then-is_empty-clause-below c =
    let none : c.in_ok-rest.rest.now ≡ [] = grind (arith, common_steps) in
    sym (none_behind c.args.source.now c.args.mount.now.step.place (sym c.in_ok-rest.ensures.further_parts ∙ ap parts_of none))
