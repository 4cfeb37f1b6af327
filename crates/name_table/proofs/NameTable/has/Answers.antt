use Rattle.std.proofs.Common.{ap, ◌∙◌}
use Rattle.std.specs.Prelude.{is_some}
use Rattle.std.specs.List.{list_any}
use Rattle.name_table.proofs.Positions.{has_name, some_passes}
use Rattle.name_table.proofs.NameTable.has.Goals as goal

pub returns : goal.returns
returns g c =
    let test = has_name g.L.Named.name_of c.args.name.now in
    record {
      by_name =
          c.is_some.ensures ∙ ap is_some c.place_of.ensures.by_name ∙ some_passes test c.deref.result.now
          ∙ ap (list_any test) (c.deref.ensures.value ∙ c.self.view_is);
    }
