use Rattle.std.proofs.Common.{◌∙◌, ap, sym, Bool}
use Rattle.std.specs.Prelude.{◌&&◌, find}
use Rattle.std.specs.Str.{bytes_eq}
use Rattle.kernel_ways.specs.call_table.Table.{Table, calls_in}
use Rattle.kernel_ways.specs.call_table.declared.listed.CallLine.{CallLine}
use Rattle.kernel_ways.specs.kernel_laws.declared.question_types.kind.CallKind.TheVariants.{PlainCall}
use Rattle.kernel_ways.specs.kernel_laws.Launched.{launch_of, lets_line}
use Rattle.ceilings.proofs.Naming.{itself_found, other_found}
use Rattle.ceilings.proofs.calls.plain_line_at.Goals as goal

pub returns-then-lets_line : goal.returns-then-lets_line
returns-then-lets_line c = record {
  first_that_passes = itself_found (lets_line (launch_of c.args.world.now) PlainCall) c.call_table-table.result.now c.args.world.now.calls
      c.call_table-table.ensures.told
      c.calls.result.now c.calls.ensures.lists c.args.at c.args.line.now c.calls.ensures.names_and_numbers_once.once c.if-at-calls.false
      c.requires.its_line
      (sym c.lets_line.ensures.passes_with_the_first_words ∙ c.if-lets_line.true);
}

pub returns : goal.returns
returns c =
    let plain : CallLine → Bool = lets_line (launch_of c.args.world.now) PlainCall in
    record {
      first_that_passes =
          c.plain_among.ensures
          ∙ ap (λ name. find (λ other. bytes_eq name other.name && plain other) c.calls_in.result.now) c.as_str-2.ensures.same_text
          ∙ ap (find (λ other. bytes_eq c.args.line.now.name other.name && plain other))
          (c.calls_in.ensures.lists ∙ ap (λ (t : Table). calls_in t 1) c.call_table-table.ensures.told)
          ∙ other_found plain c.call_table-table.result.now c.args.world.now.calls c.call_table-table.ensures.told
          c.calls.result.now c.calls.ensures.lists c.args.at c.args.line.now c.calls.ensures.names_and_numbers_once.once
          c.if-at-calls.false c.requires.its_line
          (sym c.lets_line.ensures.passes_with_the_first_words ∙ c.if-lets_line.false);
    }
