use Rattle.std.proofs.Common.{◌∙◌, ap}
use Rattle.kern_mounts.specs.Mounts.{steps_of}
use Rattle.kernel_model.specs.kern_files.MountCall.{kind_found}
use Rattle.kernel_model.proofs.CanBind.{can_bind_if_found}
use Rattle.kernel_model.proofs.kern_files.planning.source_kind.Goals as goal

pub returns-clause-can_bind : goal.returns-clause-can_bind
returns-clause-can_bind c = can_bind_if_found c.args.site.now
    (steps_of c.args.table.now) c.args.source.now c.kind_found.result c.rows-rows.ensures.holds_of_each_site
    (c.kind_found.ensures ∙ ap kind_found c.find.ensures.by_the_entry)
