use Rattle.std.proofs.Common.{◌∙◌, ap}
use Rattle.std.specs.List.{prefix_len}
use Rattle.exec_settings.specs.Commands.{is_prefix}
use Rattle.exec_settings.proofs.Prefixed.{prefix_boundary}
use Rattle.exec_settings.proofs.commands.behind_prefixes.Goals as goal

pub range_from-requires : goal.range_from-requires
range_from-requires c = λ above. prefix_boundary c.args.word.now c.count_prefixes.result c.utf8.word
    (c.count_prefixes.ensures ∙ ap (prefix_len is_prefix) c.as_bytes.ensures.value)
