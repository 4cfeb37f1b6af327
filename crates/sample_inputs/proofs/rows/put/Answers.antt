use Rattle.std.proofs.Common.{ap, ◌∙◌}
use Rattle.toml.specs.View.{view, members_view, table_view}
use Rattle.sample_inputs.specs.Members.{with_member}
use Rattle.sample_inputs.proofs.Entries.{members_put}
use Rattle.sample_inputs.proofs.rows.put.Goals as goal

pub returns : goal.returns
returns c = record {
  puts_the_member =
      ap members_view c.in_ok-insert.ensures.entries ∙ members_put c.args.table.now.entries c.in_ok-from_str.field-0 c.args.value
      ∙ ap (λ key. with_member key (view c.args.value) (table_view c.args.table.now)) c.in_ok-from_str.ensures.ok;
}
