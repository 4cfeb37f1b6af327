use Rattle.std.proofs.Common.{ap, ◌∙◌, ◌++◌}
use Rattle.dropin_merge.proofs.OneMore.{added_by_all}
use Rattle.mount_settings.specs.Written.{word_paths}
use Rattle.mount_settings.specs.Notes.{word_notes}
use Rattle.mount_settings.proofs.written.add_words.Goals as goal

pub loop-word-preserved : goal.loop-word-preserved
loop-word-preserved c =
    let i = c.loop-word.word-index in
    let words = c.args.words.now in
    let word = c.word-item.result in
    let below = c.loop-word-test.true in
    let dialect = c.args.dialect in
    let key = c.args.key in
    let value = c.args.value.now in
    record {
      added =
          added_by_all (word_paths dialect key) words i word c.args.paths.now.items _ _ below c.word-item.is c.loop-word.invariant.added
          (c.in_ok-add_word.ensures.added ∙ ap (λ w. c.loop-word.paths.items ++ word_paths dialect key w) c.as_str.ensures.same_text);
      noted =
          added_by_all (word_notes dialect key value) words i word c.args.notes.now.items _ _ below c.word-item.is c.loop-word.invariant.noted
          (c.in_ok-add_word.ensures.noted ∙ ap (λ w. c.loop-word.notes.items ++ word_notes dialect key value w) c.as_str.ensures.same_text);
    }
