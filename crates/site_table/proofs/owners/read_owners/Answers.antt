use Rattle.std.proofs.Common.{map, ◌+◌, sym, ap, ◌∙◌}
use Rattle.std.specs.List.{list_any}
use Rattle.std.specs.Str.{bytes_eq}
use Rattle.toml.specs.View.{view}
use Rattle.site_table.specs.Owners.{is_wrong, refusal_of}
use Rattle.site_table.proofs.Faults.{stands_at}
use Rattle.site_table.proofs.OwnersRead.{owner_more, owner_found, not_doubled, refused}
use Rattle.site_table.proofs.owners.read_owners.Goals as goal

pub returns-then-is_refused : goal.returns-then-is_refused
returns-then-is_refused g c =
    refused (λ read. read) c.args.kind (c.loop-at.at + 1) c.refusal.result _ c.refusal.ensures
    (owner_found g.T.Telling.said_of g.L.Named.name_of g.met.T.Telling.keeps_name (is_wrong c.args.kind) (refusal_of c.args.kind)
    (map view c.args.owners.now) c.loop-at.at c.loop-at.read (view c.index-owners-at.result) _
    c.loop-at.invariant (stands_at c.args.owners.now c.loop-at.at c.index-owners-at.result c.loop-at-test.true c.index-owners-at.is)
    (sym c.is_refused.ensures ∙ c.if-is_refused.true))

pub push-requires : goal.push-requires
push-requires g c = record {
  new_name =
      ap (λ name. list_any (λ other. bytes_eq name (g.L.Named.name_of other)) c.loop-at.read)
      (ap g.L.Named.name_of c.in_ok-say.ensures ∙ g.met.T.Telling.keeps_name (view c.index-owners-at.result))
      ∙ not_doubled (is_wrong c.args.kind (view c.index-owners-at.result)) _ (sym c.is_refused.ensures ∙ c.if-is_refused.false);
}

pub loop-at-preserved : goal.loop-at-preserved
loop-at-preserved g c =
    rw c.in_ok-push.ensures.goes_last
    (owner_more g.T.Telling.said_of g.L.Named.name_of g.met.T.Telling.keeps_name (is_wrong c.args.kind) (refusal_of c.args.kind)
    (map view c.args.owners.now) c.loop-at.at c.loop-at.read (view c.index-owners-at.result) c.in_ok-say.field-0
    c.loop-at.invariant (stands_at c.args.owners.now c.loop-at.at c.index-owners-at.result c.loop-at-test.true c.index-owners-at.is)
    (sym c.is_refused.ensures ∙ c.if-is_refused.false) c.in_ok-say.ensures)
