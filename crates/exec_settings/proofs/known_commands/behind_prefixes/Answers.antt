use Rattle.exec_settings.proofs.Prefixed.{known_boundary}
use Rattle.exec_settings.proofs.known_commands.behind_prefixes.Goals as goal

pub range_from-requires : goal.range_from-requires
range_from-requires c = λ above. known_boundary c.args.word.now c.args.count c.utf8.word c.requires
