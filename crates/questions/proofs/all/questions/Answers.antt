use Rattle.std.proofs.Common.{◌++◌, ◌∙◌, ap, map}
use Rattle.kernel_laws.specs.Questions.{of_rows, of_calls, of_families, count_from, uids_of, gids_of, other_questions}
use Rattle.kernel_laws.specs.call_table.Table.{every_call}
use Rattle.kernel_laws.specs.declared.question_types.question.Question.TheVariants.{Cap, Uid, Gid}
use Rattle.questions.proofs.Pushing.{seven_parts}
use Rattle.questions.proofs.all.questions.Goals as goal

pub returns : goal.returns
returns c =
    let calls = c.args.calls.now in
    let site = c.args.site.now in
    record {
      in_their_order =
          seven_parts c.new-list.result.items c.push_rows.new.list.items c.push_calls.new.list.items c.push_families.new.list.items
          c.extend_from_slice.new.self.items
          c.push_caps.new.list.items c.push_uids.new.list.items c.push_gids.new.list.items
          (of_rows 0 site.rows) (of_calls (every_call calls) 0 (every_call calls)) (of_families 0 calls.families) other_questions
          (map Cap (count_from 0 41)) (map Uid (uids_of site)) (map Gid (gids_of site))
          c.new-list.ensures.items
          (c.in_ok-push_rows.ensures ∙ ap (λ r. c.new-list.result.items ++ of_rows 0 r) c.rows.ensures.rows)
          c.in_ok-push_calls.ensures
          (c.in_ok-push_families.ensures ∙ ap (λ r. c.push_calls.new.list.items ++ of_families 0 r) c.families.ensures.lists)
          (c.in_ok-extend_from_slice.ensures.items ∙ ap (λ l. c.push_families.new.list.items ++ l) c.other_questions.ensures)
          c.in_ok-push_caps.ensures
          (c.in_ok-push_uids.ensures ∙ ap (λ r. c.push_caps.new.list.items ++ map Uid r) (c.deref.ensures.value ∙ c.in_ok-uids.ensures))
          (c.in_ok-push_gids.ensures ∙ ap (λ r. c.push_uids.new.list.items ++ map Gid r) (c.deref-2.ensures.value ∙ c.in_ok-gids.ensures));
    }
