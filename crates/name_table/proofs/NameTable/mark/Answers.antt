use Rattle.std.proofs.Common.{◌≡◌, ◌++◌, length, map, drop, take, sym, ap, ◌∙◌, subst}
use Rattle.std.proofs.Math.Seq.{take-append_seam}
use Rattle.std.proofs.lemmas.List.{length-map}
use Rattle.name_table.specs.Places.{ArePlaces}
use Rattle.name_table.proofs.Marking.{names_kept}
use Rattle.name_table.proofs.NameTable.mark.Goals as goal

pub invariant_of-self : goal.invariant_of-self
invariant_of-self g c =
    let f = g.L.Marked.marked c.args.mark in
    let name_of = g.L.Named.name_of in
    let items = c.self.inside.lines.items in
    let new = c.mark_each.new.lines in
    let tail = drop (length new) items in
    let same : new ≡ map f items = c.mark_each.ensures ∙ ap (map f) c.deref_mut.ensures.value in
    let long : c.self.inside.lines.len ≡ length new = c.self.inside.lines.ok.0 ∙ sym (ap length same ∙ length-map items f) in
    let all : take c.self.inside.lines.len (new ++ tail) ≡ new = ap (λ n. take n (new ++ tail)) long ∙ take-append_seam new tail in
    let names = ap (map name_of) (all ∙ same) ∙ names_kept name_of f (g.met.L.Marked.keeps_name c.args.mark) items in
    subst (λ names. ArePlaces names c.self.inside.places.items) (sym names) c.self.invariant
