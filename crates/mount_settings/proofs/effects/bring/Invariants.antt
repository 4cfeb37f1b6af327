use Rattle.std.proofs.Common.{◌≡◌, ◌++◌, take, map}
use Rattle.std.specs.Prelude.{filter}
use Rattle.mount_settings.specs.Effects.{brings, stands}
use Rattle.mount_settings.proofs.effects.bring.Given as goal

abbrev pub invariant-loop-text : goal.invariant-loop-text
invariant-loop-text l = l.mentions.items ≡ l.fn.mentions.items ++ filter (stands l.site)
    (brings l.effect (map (λ text. text.now) (take l.text-index l.texts)))
