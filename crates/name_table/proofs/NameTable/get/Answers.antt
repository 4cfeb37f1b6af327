use Rattle.std.proofs.Common.{sym, ap, ◌∙◌}
use Rattle.std.specs.Prelude.{find, option_copied}
use Rattle.std.specs.List.{slice_get}
use Rattle.name_table.proofs.Positions.{has_name, found_there, found_nowhere, lent}
use Rattle.name_table.proofs.NameTable.get.Goals as goal

pub returns-in_err-place : goal.returns-in_err-place
returns-in_err-place g c =
    let test = has_name g.L.Named.name_of c.args.name.now in
    record {
      by_name =
          ap option_copied c.from_residual.ensures
          ∙ sym (found_nowhere test c.deref.result.now c.in_err-place.ensures.by_name)
          ∙ ap (find test) (c.deref.ensures.value ∙ c.self.view_is);
    }

pub returns : goal.returns
returns g c =
    let test = has_name g.L.Named.name_of c.args.name.now in
    record {
      by_name =
          lent c.get.result c.deref-3.result.now c.in_ok-place.place c.get.ensures.lookup.0 c.get.ensures.lookup.1
          ∙ ap (λ lines. slice_get lines c.in_ok-place.place) (c.deref-3.ensures.value ∙ sym c.deref.ensures.value)
          ∙ sym (found_there test c.deref.result.now c.in_ok-place.place c.in_ok-place.ensures.by_name)
          ∙ ap (find test) (c.deref.ensures.value ∙ c.self.view_is);
    }
