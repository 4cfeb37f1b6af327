use Rattle.std.proofs.Common.{List, map, ap, ◌∙◌, subst, inl}
use Rattle.std.specs.List.{Contains}
use Rattle.std.specs.String.{string_bytes}
use Rattle.std.proofs.lemmas.Result.{err_from_is_err_and}
use Rattle.host_io.specs.Agreeing.{ForFiles}
use Rattle.host_io.specs.Calls.{AsksExactly, Whole}
use Rattle.dropin_merge.specs.Answers.{IsUnitPath}
use Rattle.dropin_merge.specs.Asking.{unit_asks}
use Rattle.dropin_merge.specs.declared.resolved.Resolved.{Resolved}
use Rattle.dropin_merge.specs.declared.resolved.UnitFile.{UnitFile}
use Rattle.dropin_merge.proofs.Behind.{behind_it, fragment_alone}
use Rattle.dropin_merge.proofs.Asking.{course_as}
use Rattle.dropin_merge.proofs.InForce.{fragment_refused, files_refused}
use Rattle.dropin_merge.proofs.Pathed.{refuses_wider}
use Rattle.dropin_merge.proofs.resolving.resolve_unit.Goals as goal

pub returns-in_err-fragment-clause-refuses_a_file : goal.returns-in_err-fragment-clause-refuses_a_file
returns-in_err-fragment-clause-refuses_a_file g c =
    let p = err_from_is_err_and c.from_residual-in_err-fragment.result c.from_residual-in_err-fragment.ensures.1 in
    rw (p.1, p.2)
    (refuses_wider UnitFile Resolved (Contains (map string_bytes c.as_slice.result.now))
    (IsUnitPath c.args.unit) c.in_err-fragment.field-0.0
    (λ path found. inl (subst (λ paths. Contains paths path)
    (ap (map string_bytes) c.as_slice.ensures.value ∙ c.in_ok-paths.ensures.in_order) found))
    c.in_err-fragment.ensures.refuses_a_path)

pub returns-in_err-fragment-clause-resolves_by_the_files : goal.returns-in_err-fragment-clause-resolves_by_the_files
returns-in_err-fragment-clause-resolves_by_the_files g c =
    let p = err_from_is_err_and c.from_residual-in_err-fragment.result c.from_residual-in_err-fragment.ensures.1 in
    rw (p.1, p.2)
    (fragment_refused (g.S.Shelf.agrees c.read_fragment.new.shelf) c.args.unit (map string_bytes c.as_slice.result.now) c.in_err-fragment.field-0.0
    (ap (map string_bytes) c.as_slice.ensures.value ∙ c.in_ok-paths.ensures.in_order) c.in_err-fragment.ensures.reads_the_first)

pub returns-in_err-files-clause-resolves_by_the_files : goal.returns-in_err-files-clause-resolves_by_the_files
returns-in_err-files-clause-resolves_by_the_files g c =
    let p = err_from_is_err_and c.from_residual-in_err-files.result c.from_residual-in_err-files.ensures.1 in
    rw (p.1, p.2)
    (files_refused (g.S.Shelf.agrees c.read_fragment.new.shelf) (g.S.Shelf.agrees c.read_files.new.shelf) c.in_err-files.ensures.answers_stay c.args.unit
    (map string_bytes c.as_slice.result.now) c.in_ok-fragment.fragment c.in_err-files.field-0.0
    (ap (map string_bytes) c.as_slice.ensures.value ∙ c.in_ok-paths.ensures.in_order) c.in_ok-fragment.ensures.reads_the_first
    c.in_err-files.ensures.reads_the_files)

pub returns-in_err-fragment-clause-asks_in_order : goal.returns-in_err-fragment-clause-asks_in_order
returns-in_err-fragment-clause-asks_in_order g c =
    let p = err_from_is_err_and c.from_residual-in_err-fragment.result c.from_residual-in_err-fragment.ensures.1 in
    rw (p.1, p.2)
    (fragment_alone g.S.Shelf.asks (g.S.Shelf.agrees c.read_fragment.new.shelf) c.args.unit c.args.shelf.now _
    (map string_bytes c.as_slice.result.now) (ap (map string_bytes) c.as_slice.ensures.value ∙ c.in_ok-paths.ensures.in_order)
    c.in_err-fragment.field-0.0 c.in_err-fragment.ensures.reads_the_first c.in_err-fragment.ensures.asks_in_order)

pub returns-in_err-files-clause-asks_in_order : goal.returns-in_err-files-clause-asks_in_order
returns-in_err-files-clause-asks_in_order g c =
    let p = err_from_is_err_and c.from_residual-in_err-files.result c.from_residual-in_err-files.ensures.1 in
    rw (p.1, p.2)
    (subst (λ how. ForFiles (g.S.Shelf.agrees c.read_files.new.shelf)
    (λ files. AsksExactly g.S.Shelf.asks c.args.shelf.now c.read_files.new.shelf (unit_asks files c.args.unit) how))
    (course_as (List UnitFile) Resolved c.in_err-files.field-0.0)
    (behind_it g.S.Shelf.asks (g.S.Shelf.agrees c.read_fragment.new.shelf) c.args.unit c.args.shelf.now _ (map string_bytes c.as_slice.result.now)
    (ap (map string_bytes) c.as_slice.ensures.value ∙ c.in_ok-paths.ensures.in_order)
    _ (g.S.Shelf.agrees c.read_files.new.shelf) c.in_ok-fragment.fragment _ c.in_err-files.ensures.answers_stay c.in_ok-fragment.ensures.reads_the_first
    c.in_ok-fragment.ensures.asks_in_order c.in_err-files.ensures.asks_in_order))

pub returns-clause-asks_in_order : goal.returns-clause-asks_in_order
returns-clause-asks_in_order g c =
    behind_it g.S.Shelf.asks (g.S.Shelf.agrees c.read_fragment.new.shelf) c.args.unit c.args.shelf.now c.read_fragment.new.shelf
    (map string_bytes c.as_slice.result.now) (ap (map string_bytes) c.as_slice.ensures.value ∙ c.in_ok-paths.ensures.in_order)
    c.read_files.new.shelf (g.S.Shelf.agrees c.read_files.new.shelf) c.in_ok-fragment.fragment Whole c.in_ok-files.ensures.answers_stay
    c.in_ok-fragment.ensures.reads_the_first c.in_ok-fragment.ensures.asks_in_order c.in_ok-files.ensures.asks_in_order
