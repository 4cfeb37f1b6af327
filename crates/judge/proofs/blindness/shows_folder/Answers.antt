use Rattle.std.proofs.Common.{◌∙◌, ◌++◌, drop, ◌+◌}
use Rattle.ceilings.specs.kernel_laws.Blind.{is_clear}
use Rattle.ceilings.specs.kern_mounts.Mounts.{steps_of}
use Rattle.judge.proofs.Exposing.{at_folder}
use Rattle.judge.proofs.blindness.shows_folder.Goals as goal

pub returns-in-Some : goal.returns-in-Some
returns-in-Some c =
    c.is_clear.ensures
    ∙ at_folder c.args.source.now c.args.folder.now c.in-Some.rest.now
    (λ rest. is_clear c.args.uncover (c.args.place.now ++ rest) (drop (c.args.at + 1) (steps_of c.args.table.now)))
    c.in-Some.ensures.behind c.in-Some.ensures.normal
