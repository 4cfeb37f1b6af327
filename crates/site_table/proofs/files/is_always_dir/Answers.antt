use Rattle.std.proofs.Common.{ap, ◌∙◌}
use Rattle.site_table.specs.RowSteps.{is_always_dir_text}
use Rattle.site_table.proofs.Ordered.{always_by_text}
use Rattle.site_table.proofs.files.is_always_dir.Goals as goal

pub returns : goal.returns
returns c = c.is_always_dir_text.ensures.root_or_proc ∙ ap is_always_dir_text c.tail.ensures.tail
    ∙ always_by_text c.args.path.now c.tail.ensures.normal
