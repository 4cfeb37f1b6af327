use Rattle.std.proofs.Common.{◌∙◌, length, rules, tests}
use Rattle.std.specs.Prelude.{◌||◌, nat_le, not}
use Rattle.std.proofs.lemmas.Iterator.Search.{all_from_yields_List}
use Rattle.std.proofs.lemmas.Iterator.{YieldsList-from_slice}
use Rattle.path_settings.specs.abs_path.Paths.{tail_of}
use Rattle.path_settings.specs.systemd.Made.{lies_beneath}
use Rattle.mount_plan.proofs.Keeping.{all_lent}
use Rattle.mount_plan.proofs.systemd.making.is_as_long_as_each.Goals as goal

pub returns : goal.returns
returns c =
    all_from_yields_List
    (λ other. not (lies_beneath c.args.path.now other.now) || nat_le (length (tail_of other.now.path)) (length (tail_of c.args.one.now.path))) _ _ _
    c.all.ensures.ran (YieldsList-from_slice c.args.putting.now c.iter.ensures.rest) (λ x b q k. search (rules, tests))
    ∙ all_lent (λ other. not (lies_beneath c.args.path.now other) || nat_le (length (tail_of other.path)) (length (tail_of c.args.one.now.path)))
    c.args.putting.now
