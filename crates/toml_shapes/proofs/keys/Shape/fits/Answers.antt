use Rattle.std.proofs.Common.{ap, sym, ◌∙◌}
use Rattle.toml.specs.View.{view}
use Rattle.toml_shapes.specs.Keys.{is_text, is_number, is_table, has_shape}
use Rattle.toml_shapes.proofs.Elements.{array_of}
use Rattle.toml_shapes.proofs.keys.Shape.fits.Goals as goal

pub returns-then-is_array : goal.returns-then-is_array
returns-then-is_array c =
    array_of is_text (view c.args.value.now) c.elements_of.result.now c.are_texts.result
    (sym c.is_array.ensures ∙ c.if-is_array.true) c.elements_of.ensures.elements_or_none c.are_texts.ensures
    ∙ ap (λ shape. has_shape shape (view c.args.value.now)) (sym c.in-Texts.is)

pub returns-then-is_array-2 : goal.returns-then-is_array-2
returns-then-is_array-2 c =
    array_of is_number (view c.args.value.now) c.elements_of-then-is_array-2.result.now c.are_numbers.result (sym c.is_array-in-Numbers.ensures ∙ c.if-is_array-2.true) c.elements_of-then-is_array-2.ensures.elements_or_none c.are_numbers.ensures
    ∙ ap (λ shape. has_shape shape (view c.args.value.now)) (sym c.in-Numbers.is)

pub returns-then-is_array-3 : goal.returns-then-is_array-3
returns-then-is_array-3 c =
    array_of is_table (view c.args.value.now) c.elements_of-then-is_array-3.result.now c.are_tables.result (sym c.is_array-in-Tables.ensures ∙ c.if-is_array-3.true) c.elements_of-then-is_array-3.ensures.elements_or_none c.are_tables.ensures
    ∙ ap (λ shape. has_shape shape (view c.args.value.now)) (sym c.in-Tables.is)
