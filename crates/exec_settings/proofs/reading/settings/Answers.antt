use Rattle.std.proofs.Common.{ap, ◌∙◌, ◌++◌}
use Rattle.std.specs.Prelude.{◌==◌, not}
use Rattle.exec_settings.proofs.Noted.{in_order, key_by_key}
use Rattle.exec_settings.proofs.Reasons.{command_first, handed_on, identity_next, missing_next, no_reason, paths_last}
use Rattle.exec_settings.proofs.Whole.{ambient_is, bounding_is, filtered_is, keeps_is, new_privileges_are}
use Rattle.exec_settings.proofs.reading.settings.Goals as goal

pub returns-in_err-launched-clause-refuses_first : goal.returns-in_err-launched-clause-refuses_first
returns-in_err-launched-clause-refuses_first c =
    handed_on _ _ _ c.from_residual-in_err-launched.ensures.1
    (command_first c.args.unit.now c.args.calls.now c.args.site.now _ c.in_err-launched.ensures.refuses_first)

pub returns-in_err-own-clause-refuses_first : goal.returns-in_err-own-clause-refuses_first
returns-in_err-own-clause-refuses_first c =
    handed_on _ _ _ c.from_residual-in_err-own.ensures.1
    (identity_next c.args.unit.now c.args.calls.now c.args.site.now c.in_ok-launched.ensures.refuses_first _
    c.in_err-own.ensures.refuses_first)

pub returns-in_err-made-clause-refuses_first : goal.returns-in_err-made-clause-refuses_first
returns-in_err-made-clause-refuses_first c =
    handed_on _ _ _ c.from_residual-in_err-made.ensures.1
    (missing_next c.args.unit.now c.args.calls.now c.args.site.now c.in_ok-launched.ensures.refuses_first c.in_ok-own.ensures.refuses_first
    _ c.in_err-made.ensures.refuses_first)

pub returns-in_err-mentions-clause-refuses_first : goal.returns-in_err-mentions-clause-refuses_first
returns-in_err-mentions-clause-refuses_first c =
    handed_on _ _ _ c.from_residual-in_err-mentions.ensures.1
    (paths_last c.args.unit.now c.args.calls.now c.args.site.now c.in_ok-launched.ensures.refuses_first c.in_ok-own.ensures.refuses_first
    c.in_ok-made.ensures.refuses_first _ c.in_err-mentions.ensures.too_many)

pub returns-clause-refuses_first : goal.returns-clause-refuses_first
returns-clause-refuses_first c =
    no_reason c.args.unit.now c.args.calls.now c.args.site.now c.in_ok-launched.ensures.refuses_first c.in_ok-own.ensures.refuses_first
    c.in_ok-made.ensures.refuses_first
    c.in_ok-mentions.ensures.too_many

pub returns-clause-settles : goal.returns-clause-settles
returns-clause-settles c =
    let unit = c.args.unit.now in
    let table = c.args.calls.now in
    let bounded = bounding_is unit table _ _ _ c.in_ok-own.ensures.bounding c.in_ok-made.ensures.taken c.minus-bounding.ensures.minus in
    let ambient = ambient_is unit table _ _ _ c.in_ok-own.ensures.ambient bounded c.ambient_within-ambient.ensures.cut_to_the_bounding_set in
    let named = c.in_ok-made.ensures.as_wanted.exactly_those_on in
    let some = ap not c.is_empty-has_filter.ensures ∙ ap (λ n. not (n == 0)) c.in_ok-made.made.filters.ok.0 in
    let filtered = filtered_is unit table c.in_ok-made.made.filters.items _ _ _ _ named some c.in_ok-made.ensures.marks c.in_ok-counts.ensures.one_of_three c.any_of_three-is_filtered.ensures.one_is_true in
    let keeps = keeps_is unit table _ _ _ _ filtered c.in_ok-made.ensures.gives_up c.keeps_capabilities-keeps.ensures.by_the_version in
    record {
      launches_the_first_command = c.in_ok-launched.ensures.program;
      runs_as = c.in_ok-own.ensures.ids;
      bounding_without_what_is_taken = bounded;
      ambient = ambient;
      keeps_for_the_filters = keeps;
      new_privileges =
          new_privileges_are unit table c.in_ok-made.made.filters.items _ _ _ _ _ _ _ named c.in_ok-own.ensures.sets some filtered ambient
          keeps c.no_new_privs.ensures.set_or_implied;
      refuses_memory = c.in_ok-made.ensures.marks;
      filters_as_wanted = c.in_ok-made.ensures.as_wanted;
      mentions_written_and_implied = c.in_ok-mentions.ensures.mentions;
      leaves_the_root = c.in_ok-mentions.ensures.leaves_the_root c.in_ok-launched.ensures.leaves_the_root;
      paths_are_short = c.in_ok-mentions.ensures.short;
      all_notes_in_order =
          in_order _ _ _
          (key_by_key unit table _ _ _ _ _ _ c.in_ok-notes.ensures.of_the_unit
          (c.in_ok-paths.ensures.notes_behind ∙ ap (λ notes. c.in_ok-notes.notes.items ++ notes)
          c.in_ok-written_paths.ensures.notes_the_unread)
          c.in_ok-launched.ensures.notes_the_others c.in_ok-own.ensures.noted c.in_ok-made.ensures.noted c.in_ok-mentions.ensures.noted)
          c.in_ok-put_in_order.ensures.the_same c.in_ok-put_in_order.ensures.by_files_and_lines c.in_ok-put_in_order.ensures.as_they_stood;
    }
