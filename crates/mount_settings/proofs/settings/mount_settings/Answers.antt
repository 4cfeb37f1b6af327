use Rattle.std.proofs.Common.{ap, ◌∙◌, sym, subst}
use Rattle.path_settings.specs.declared.mentioned.Mentioned.{Mentioned}
use Rattle.path_settings.specs.Mentioned.{leaves_the_root, AreShort}
use Rattle.mount_settings.specs.Settings.{all_mentions}
use Rattle.mount_settings.proofs.Placing.{mentions_leave, mentions_are_short}
use Rattle.mount_settings.proofs.settings.mount_settings.Goals as goal

pub returns-clause-leaves_the_root : goal.returns-clause-leaves_the_root
returns-clause-leaves_the_root c = λ none.
    ap leaves_the_root
    (c.in_ok-mentions.ensures ∙ ap (all_mentions c.args.unit.now c.args.site.now c.args.switches) c.list-paths.ensures.all_in_order)
    ∙ mentions_leave c.args.unit.now c.args.site.now c.args.switches c.args.paths.now c.list-paths.ensures.as_held none

pub returns-clause-short_paths : goal.returns-clause-short_paths
returns-clause-short_paths c =
    subst (λ (mentions : Mentioned). AreShort mentions)
    (sym (c.in_ok-mentions.ensures ∙ ap (all_mentions c.args.unit.now c.args.site.now c.args.switches) c.list-paths.ensures.all_in_order))
    (mentions_are_short c.args.unit.now c.args.site.now c.args.switches c.args.paths.now c.list-paths.ensures.as_held)
