use Rattle.std.proofs.Common.{◌≡◌, ◌++◌, take, map}
use Rattle.std.specs.Prelude.{filter}
use Rattle.mount_settings.specs.systemd.Mentions.{stands}
use Rattle.mount_settings.specs.systemd.Rows.{asks_for}
use Rattle.mount_settings.proofs.systemd.rows.bring.Given as goal

abbrev pub invariant-loop-text : goal.invariant-loop-text
invariant-loop-text l = l.entries.items ≡ l.fn.entries.items ++ filter (stands l.site)
    (asks_for l.mode (map (λ text. text.now) (take l.text-index l.texts)))
