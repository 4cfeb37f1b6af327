use Rattle.std.proofs.Common.{◌≡◌, sym, ap, ◌∙◌}
use Rattle.std.specs.List.{filter_map}
use Rattle.std.proofs.lemmas.Result.{IfOk-weaker}
use Rattle.std.specs.Prelude.{fold, unwrap_or}
use Rattle.std.specs.Option.{option_map}
use Rattle.dropin_merge.specs.unit_values.Values.{given_by, note_of, values_of}
use Rattle.dropin_merge.specs.unit_values.Lasting.{unread_notes}
use Rattle.dropin_merge.specs.unit_values.Words.{split, words_behind, words_in, unit_words}
use Rattle.dropin_merge.proofs.Found.{found_more}
use Rattle.dropin_merge.proofs.Folding.{adds_more, folds_more, unread_parts, words_steps, words_folded}
use Rattle.dropin_merge.proofs.unit_values.words.words_of_key.Goals as goal

pub loop-place-preserved : goal.loop-place-preserved
loop-place-preserved c =
    record {
      means =
          folds_more (fold words_behind) (λ a o. unwrap_or (option_map (words_behind a) o) a) words_steps
          (given_by c.args.unit.now.systemd c.args.unit.now.name c.args.key.now) _ _
          (c.in-Some.place, c.in-Some.assignment.now) _ _ _ _ c.in-Some.ensures.steps c.in_ok-value.ensures.given
          c.loop-place.invariant.means c.in_ok-words.ensures.means;
      notes = found_more (note_of c.args.unit.now.systemd c.args.unit.now.name c.args.key.now) _ _
          (c.in-Some.place, c.in-Some.assignment.now) _ _ _ c.in-Some.ensures.steps c.loop-place.invariant.notes
          c.in_ok-value.ensures.noted;
      unread =
          adds_more (unread_notes split) (unread_parts split) (given_by c.args.unit.now.systemd c.args.unit.now.name c.args.key.now) _ _
          (c.in-Some.place, c.in-Some.assignment.now) _ _ _ _ c.in-Some.ensures.steps c.in_ok-value.ensures.given
          c.loop-place.invariant.unread c.in_ok-words.ensures.noted;
    }

pub returns-clause-values_in_force : goal.returns-clause-values_in_force
unfolding unit_words
returns-clause-values_in_force c =
    let name = c.args.unit.now.name in
    let key = c.args.key.now in
    let words = c.loop-place.words in
    let none_left = ap (λ left. fold words_behind words (filter_map (given_by c.args.unit.now.systemd name key) left)) c.in-None.ensures.steps.0 in
    let all : words ≡ words_in (values_of c.args.unit.now key) = sym (words_folded (values_of c.args.unit.now key) ∙ c.loop-place.invariant.means ∙ none_left) in
    IfOk-weaker c.behind.result _ _ (λ said same. same ∙ all) c.behind.ensures.as_said
