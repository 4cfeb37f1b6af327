use Rattle.std.proofs.Common.{◌≡◌, ◌++◌, drop}
use Rattle.std.specs.List.{filter_map}
use Rattle.filter_settings.proofs.list_words.add_line.Given as goal

abbrev pub invariant-loop-word : goal.invariant-loop-word
invariant-loop-word g l =
    l.mentions.items ++ filter_map (g.M.ListMention.mention_of l.systemd l.table l.mode l.adds) (drop l.word-index l.words)
    ≡ l.fn.mentions.items ++ filter_map (g.M.ListMention.mention_of l.systemd l.table l.mode l.adds) l.words
