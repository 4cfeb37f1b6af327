use Rattle.std.proofs.Common.{◌≤◌, List, length, sym, subst}
use Rattle.path_settings.specs.declared.systemd.entries.MountEntry.{MountEntry}
use Rattle.mount_settings.proofs.CountingRows.{few_by}
use Rattle.mount_settings.proofs.settings.version_mentions.Goals as goal

pub listed_entries-requires : goal.listed_entries-requires
listed_entries-requires c = subst (λ (entries : List MountEntry). length entries ≤ 192) (sym c.in_ok-entries.ensures)
    (few_by c.args.version c.args.switches c.args.protections c.in_ok-keys.keys c.args.site.now c.args.paths.now c.requires.few)
