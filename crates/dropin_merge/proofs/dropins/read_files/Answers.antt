use Rattle.std.proofs.Common.{List, map, arith, ap, ◌∙◌, subst}
use Rattle.std.specs.List.{Contains}
use Rattle.std.specs.String.{string_bytes}
use Rattle.dropin_merge.specs.Answers.{IsDropinPath}
use Rattle.dropin_merge.specs.Places.{dropin_places}
use Rattle.dropin_merge.specs.Steps.{KeepsTo}
use Rattle.dropin_merge.specs.declared.resolved.UnitFile.{UnitFile}
use Rattle.std.proofs.lemmas.Result.{err_from_is_err_and}
use Rattle.dropin_merge.proofs.Behind.{dropins_behind, folders_alone, folders_cut, folders_stop}
use Rattle.dropin_merge.proofs.InForce.{refuses_many, reads_winners}
use Rattle.dropin_merge.proofs.Pathed.{won_path, dropins_placed, refuses_weaker}
use Rattle.dropin_merge.proofs.dropins.read_files.Goals as goal

pub returns-then-len-gt-MOST_DROPINS-clause-reads_the_files : goal.returns-then-len-gt-MOST_DROPINS-clause-reads_the_files
returns-then-len-gt-MOST_DROPINS-clause-reads_the_files g c =
    refuses_many (g.S.Shelf.agrees c.collect_winners.new.shelf) c.args.unit.now
    (map string_bytes c.as_slice.result.now) c.in_ok-winners.winners c.args.fragment
    (ap (map string_bytes) c.as_slice.ensures.value ∙ c.in_ok-places.ensures.in_order) c.len.ensures.ordered
    c.in_ok-winners.ensures.collects_the_winners
    (omega (arith, c.if-len-gt-MOST_DROPINS.true, c.len.ensures.len))

pub returns-clause-reads_the_files : goal.returns-clause-reads_the_files
returns-clause-reads_the_files g c =
    reads_winners (g.S.Shelf.agrees c.collect_winners.new.shelf) (g.S.Shelf.agrees c.read_dropins.new.shelf) c.read_dropins.ensures.answers_stay c.args.unit.now
    (map string_bytes c.as_slice.result.now) c.in_ok-winners.winners c.args.fragment c.as_slice-2.result.now c.read_dropins.result
    (ap (map string_bytes) c.as_slice.ensures.value ∙ c.in_ok-places.ensures.in_order) c.len.ensures.ordered
    c.in_ok-winners.ensures.collects_the_winners
    (omega (arith, c.if-len-gt-MOST_DROPINS.false, c.len.ensures.len))
    (c.as_slice-2.ensures.value ∙ c.in_ok-paths.ensures.by_their_names)
    c.read_dropins.ensures.reads_in_order

pub returns-clause-has_the_dropins : goal.returns-clause-has_the_dropins
returns-clause-has_the_dropins g c =
    dropins_placed (dropin_places c.args.unit.now) c.in_ok-winners.winners c.as_slice-2.result.now
    (c.as_slice-2.ensures.value ∙ c.in_ok-paths.ensures.by_their_names)
    (subst (λ places. KeepsTo places c.in_ok-winners.winners)
    (ap (map string_bytes) c.as_slice.ensures.value ∙ c.in_ok-places.ensures.in_order) c.in_ok-winners.ensures.keeps_to_places)
    c.args.fragment c.read_dropins.result
    (omega (arith, c.if-len-gt-MOST_DROPINS.false, c.len.ensures.len))
    c.read_dropins.ensures.has_the_paths

pub returns-clause-refuses_a_dropin : goal.returns-clause-refuses_a_dropin
returns-clause-refuses_a_dropin g c =
    refuses_weaker (List UnitFile) (Contains (map string_bytes c.as_slice-2.result.now))
    (IsDropinPath (dropin_places c.args.unit.now)) c.read_dropins.result
    (won_path (dropin_places c.args.unit.now) c.in_ok-winners.winners c.as_slice-2.result.now
    (c.as_slice-2.ensures.value ∙ c.in_ok-paths.ensures.by_their_names)
    (subst (λ places. KeepsTo places c.in_ok-winners.winners)
    (ap (map string_bytes) c.as_slice.ensures.value ∙ c.in_ok-places.ensures.in_order) c.in_ok-winners.ensures.keeps_to_places))
    c.read_dropins.ensures.refuses_a_path

pub returns-in_err-winners-clause-asks_in_order : goal.returns-in_err-winners-clause-asks_in_order
returns-in_err-winners-clause-asks_in_order g c =
    let p = err_from_is_err_and c.from_residual-in_err-winners.result c.from_residual-in_err-winners.ensures.1 in
    rw (p.1, p.2)
    (folders_stop g.S.Shelf.asks (g.S.Shelf.agrees c.collect_winners.new.shelf) c.args.unit.now c.args.shelf.now _
    (map string_bytes c.as_slice.result.now) (ap (map string_bytes) c.as_slice.ensures.value ∙ c.in_ok-places.ensures.in_order)
    c.in_err-winners.field-0.0 c.in_err-winners.ensures.collects_the_winners c.in_err-winners.ensures.asks_in_order)

pub returns-then-len-gt-MOST_DROPINS-clause-asks_in_order : goal.returns-then-len-gt-MOST_DROPINS-clause-asks_in_order
returns-then-len-gt-MOST_DROPINS-clause-asks_in_order g c =
    folders_alone g.S.Shelf.asks (g.S.Shelf.agrees c.collect_winners.new.shelf) c.args.unit.now c.args.shelf.now _
    (map string_bytes c.as_slice.result.now) (ap (map string_bytes) c.as_slice.ensures.value ∙ c.in_ok-places.ensures.in_order)
    c.in_ok-winners.winners c.len.ensures.ordered c.in_ok-winners.ensures.collects_the_winners c.in_ok-winners.ensures.asks_in_order
    (omega (arith, c.if-len-gt-MOST_DROPINS.true, c.len.ensures.len))

pub returns-in_err-paths-clause-asks_in_order : goal.returns-in_err-paths-clause-asks_in_order
returns-in_err-paths-clause-asks_in_order g c =
    let p = err_from_is_err_and c.from_residual-in_err-paths.result c.from_residual-in_err-paths.ensures.1 in
    rw (p.1, p.2)
    (folders_cut g.S.Shelf.asks (g.S.Shelf.agrees c.collect_winners.new.shelf) c.args.unit.now c.args.shelf.now _
    (map string_bytes c.as_slice.result.now) (ap (map string_bytes) c.as_slice.ensures.value ∙ c.in_ok-places.ensures.in_order)
    c.in_ok-winners.ensures.asks_in_order)

pub returns-clause-asks_in_order : goal.returns-clause-asks_in_order
returns-clause-asks_in_order g c =
    dropins_behind g.S.Shelf.asks (g.S.Shelf.agrees c.collect_winners.new.shelf) c.args.unit.now c.args.shelf.now _
    (map string_bytes c.as_slice.result.now) (ap (map string_bytes) c.as_slice.ensures.value ∙ c.in_ok-places.ensures.in_order)
    c.in_ok-winners.winners c.len.ensures.ordered c.in_ok-winners.ensures.collects_the_winners c.in_ok-winners.ensures.asks_in_order
    _ (g.S.Shelf.agrees c.read_dropins.new.shelf) c.as_slice-2.result.now _ c.read_dropins.ensures.answers_stay (omega (arith, c.if-len-gt-MOST_DROPINS.false, c.len.ensures.len))
    (c.as_slice-2.ensures.value ∙ c.in_ok-paths.ensures.by_their_names) c.read_dropins.ensures.asks_in_order
