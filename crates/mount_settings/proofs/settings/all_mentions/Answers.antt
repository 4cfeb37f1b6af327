use Rattle.std.proofs.Common.{◌≤◌, List, length, sym, subst}
use Rattle.path_settings.specs.declared.mentions.Mention.{Mention}
use Rattle.mount_settings.proofs.CountingRows.{few_base}
use Rattle.mount_settings.proofs.settings.all_mentions.Goals as goal

pub listed-requires : goal.listed-requires
listed-requires c = subst (λ (mentions : List Mention). length mentions ≤ 192) (sym c.in_ok-mentions-in-None.ensures)
    (few_base c.args.site.now c.args.switches c.args.protections c.args.paths.now c.requires.few)
