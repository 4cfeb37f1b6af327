use Rattle.std.proofs.Common.{◌∙◌, ◌++◌, ap}
use Rattle.std.specs.Prelude.{flat_map, map}
use Rattle.effect_command.specs.Lines.{counts_line, kind_of}
use Rattle.effect_command.specs.Told.{changes_at, lines_in, turns_at}
use Rattle.effect_command.proofs.Flattened.{told_is}
use Rattle.effect_command.proofs.telling.effect_text.Goals as goal

pub of-requires : goal.of-requires
of-requires c = record { launched = c.requires.after.bounded.served.launched; its_own_ceiling = c.requires.after.bounded.ceiling }

pub tell_questions-requires : goal.tell_questions-requires
tell_questions-requires c = record {
  before = c.requires.before;
  after = c.requires.after;
  its_service = c.in_ok-service.ensures.of_the_launch;
  same_calls = c.requires.same_calls;
  same_site = c.requires.same_site;
  all = c.as_slice-list.ensures.value ∙ c.requires.after.questions;
}

pub tell_rows-requires : goal.tell_rows-requires
tell_rows-requires c = record {
  before = c.requires.before;
  after = c.requires.after;
  same_site = c.requires.same_site;
  all = c.rows-rows.ensures.rows ∙ ap (λ site. site.rows) c.site_table.ensures.told;
}

pub returns : goal.returns
returns c = record {
  tells_all =
      let before = c.args.before.now in
      let after = c.args.after.now in
      let list = c.as_slice-list.result.now in
      let rows = c.rows-rows.result.now in
      told_is before after list rows c.tell_questions.new.text.items c.tell_rows.new.text.items c.in_ok-counts.counts.items
      c.extend_from_slice.new.self.items
      c.as_slice-list.ensures.value
      (c.rows-rows.ensures.rows ∙ ap (λ site. site.rows) c.site_table.ensures.told)
      (c.in_ok-tell_questions.ensures.tells
      ∙ ap (λ front. front ++ flat_map (λ question. lines_in after (changes_at before after question)) list) c.new-text.ensures.items)
      c.in_ok-tell_rows.ensures.tells
      (c.in_ok-counts.ensures.counts
      ∙ ap counts_line (c.as_slice.ensures.value ∙ c.in_ok-tell_rows.ensures.counts
      ∙ ap (λ front. front ++ flat_map (λ row. map kind_of (turns_at before after row)) rows)
      (c.in_ok-tell_questions.ensures.counts
      ∙ ap (λ front. front ++ flat_map (λ question. map kind_of (changes_at before after question)) list) c.new-kinds.ensures.items)))
      (c.in_ok-extend_from_slice.ensures.items ∙ ap (λ more. c.tell_rows.new.text.items ++ more) c.as_slice-2.ensures.value);
}
