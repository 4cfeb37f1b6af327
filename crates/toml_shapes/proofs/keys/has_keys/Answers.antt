use Rattle.std.proofs.Common.{ap, sym, ◌∙◌, refl, Bool}
use Rattle.std.specs.List.{list_all}
use Rattle.toml_shapes.specs.Keys.{has_if_needed}
use Rattle.std.specs.Prelude.{◌&&◌}
use Rattle.toml.specs.View.{view}
use Rattle.toml_shapes.proofs.Elements.{keys_are}
use Rattle.toml_shapes.proofs.keys.has_keys.Goals as goal

pub returns-then-each_is_known : goal.returns-then-each_is_known
returns-then-each_is_known c = record {
  known_and_needed =
      ap (λ b. b && c.lacks_none.result) (sym c.if-each_is_known.true)
      ∙ keys_are c.args.keys.now (view c.args.value.now) c.in-Some.table.now.entries c.each_is_known.result c.lacks_none.result
      c.in-Some.ensures c.each_is_known.ensures c.lacks_none.ensures;
}

pub returns-else-each_is_known : goal.returns-else-each_is_known
returns-else-each_is_known c = record {
  known_and_needed =
      c.if-each_is_known.false ∙ ap (λ b. b && each) (sym c.if-each_is_known.false)
      ∙ keys_are c.args.keys.now (view c.args.value.now) c.in-Some.table.now.entries c.each_is_known.result each c.in-Some.ensures
      c.each_is_known.ensures refl;
}
  where
    each : Bool
    each = list_all (λ one. has_if_needed one.2 one.0.now (view c.args.value.now)) c.args.keys.now
