use Rattle.std.proofs.Common.{◌∙◌, ◌++◌, ap}
use Rattle.std.specs.Prelude.{slice_get}
use Rattle.effect_command.specs.Told.{turns_at}
use Rattle.effect_command.proofs.Flattened.{folder_counted, folder_told}
use Rattle.effect_command.proofs.telling.tell_row.Goals as goal

pub folder_change-change-requires : goal.folder_change-change-requires
folder_change-change-requires c = record {
  before = c.requires.before;
  after = c.requires.after;
  row_before = (c.requires.listed.0, ap (λ site. slice_get site.rows c.requires.listed.0) c.requires.same_site ∙ c.requires.listed.1);
  row_after = c.requires.listed;
}

pub returns-clause-tells : goal.returns-clause-tells
returns-clause-tells c =
    c.in_ok-push_turn.ensures
    ∙ ap (λ more. c.args.text.now.items ++ more)
    (folder_told c.args.after.now c.args.row.now.path c.folder_change-change.result
    (turns_at c.args.before.now c.args.after.now c.args.row.now) c.folder_change-change.ensures.by_the_rule)

pub returns-clause-counts : goal.returns-clause-counts
returns-clause-counts c =
    c.in_ok-push_turn_kind.ensures
    ∙ ap (λ more. c.args.kinds.now.items ++ more)
    (folder_counted c.args.row.now.path c.folder_change-change.result
    (turns_at c.args.before.now c.args.after.now c.args.row.now) c.folder_change-change.ensures.by_the_rule)
