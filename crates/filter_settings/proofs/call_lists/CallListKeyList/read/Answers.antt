use Rattle.std.proofs.Common.{ap, sym, ◌∙◌, ◌++◌}
use Rattle.std.specs.Prelude.{unwrap_or}
use Rattle.filter_settings.specs.Modes.{mode_of}
use Rattle.filter_settings.specs.CallLists.{line_notes}
use Rattle.filter_settings.specs.Steps.{next_mode}
use Rattle.filter_settings.proofs.NextModes.{mode_next, notes_next}
use Rattle.filter_settings.proofs.call_lists.CallListKeyList.read.Goals as goal

pub loop-one-preserved : goal.loop-one-preserved
loop-one-preserved c =
    let i = c.loop-one.one-index in
    let all = c.args.all.now in
    let one = c.one-item.result in
    let below = c.loop-one-test.true in
    let now = c.loop-one.notes.items in
    record {
      mode = c.next_mode-mode.ensures.kept_or_set ∙ ap (λ mode. next_mode mode one) c.loop-one.invariant.mode
          ∙ sym (mode_next all i one below c.one-item.is);
      noted =
          notes_next c.args.systemd c.args.table.now all i one c.args.notes.now.items now _ below c.one-item.is c.loop-one.invariant.noted
          (c.in_ok-note_words.ensures.noted
          ∙ ap (λ mode. now ++ line_notes c.args.systemd c.args.table.now mode one)
          (c.unwrap_or.ensures ∙ ap (unwrap_or c.loop-one.mode) c.mode_of.ensures.denies_where_inverted)
          ∙ ap (λ mode. now ++ line_notes c.args.systemd c.args.table.now (unwrap_or mode (mode_of one.line)) one) c.loop-one.invariant.mode);
    }
