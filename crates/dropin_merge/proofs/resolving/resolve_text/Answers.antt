use Rattle.std.proofs.Common.{◌≡◌, Some, subst, sym}
use Rattle.host_io.specs.Agreeing.{ForFiles}
use Rattle.host_io.specs.Calls.{AsksExactly}
use Rattle.unit_names.specs.Cutting.{name_of}
use Rattle.dropin_merge.specs.Asking.{course, name_asks}
use Rattle.dropin_merge.specs.Answers.{IsUnlessFailed}
use Rattle.dropin_merge.specs.Resolving.{for_unit}
use Rattle.dropin_merge.proofs.resolving.resolve_text.Goals as goal

pub returns-in-Ok-clause-asks_in_order : goal.returns-in-Ok-clause-asks_in_order
returns-in-Ok-clause-asks_in_order g c =
    let named : name_of c.args.text.now ≡ Some c.in-Ok.unit = c.in-Ok.ensures.reads_the_name in
    subst (λ name. ForFiles (g.S.Shelf.agrees c.resolve_unit.new.shelf)
    (λ files. AsksExactly g.S.Shelf.asks c.args.shelf.now c.resolve_unit.new.shelf (name_asks files name) (course c.resolve_unit.result)))
    (sym named) c.resolve_unit.ensures.asks_in_order

pub returns-in-Ok-clause-resolves_by_the_files : goal.returns-in-Ok-clause-resolves_by_the_files
returns-in-Ok-clause-resolves_by_the_files g c =
    let named : name_of c.args.text.now ≡ Some c.in-Ok.unit = c.in-Ok.ensures.reads_the_name in
    subst (λ name. ForFiles (g.S.Shelf.agrees c.resolve_unit.new.shelf) (λ files. IsUnlessFailed c.resolve_unit.result (for_unit files name)))
    (sym named) c.resolve_unit.ensures.resolves_by_the_files
