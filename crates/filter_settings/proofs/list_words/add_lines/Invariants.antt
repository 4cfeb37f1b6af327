use Rattle.std.proofs.Common.{◌≡◌, ◌++◌, drop}
use Rattle.std.specs.Prelude.{flat_map}
use Rattle.std.specs.List.{filter_map}
use Rattle.filter_settings.specs.Modes.{adds_to}
use Rattle.filter_settings.proofs.list_words.add_lines.Given as goal

abbrev pub invariant-loop-one : goal.invariant-loop-one
invariant-loop-one g l =
    l.mentions.items ++ flat_map (λ one. filter_map (g.M.ListMention.mention_of l.systemd l.table l.mode (adds_to l.mode one.line)) one.line.words)
    (drop l.one-index l.lines)
    ≡ l.fn.mentions.items ++ flat_map
    (λ one. filter_map (g.M.ListMention.mention_of l.systemd l.table l.mode (adds_to l.mode one.line)) one.line.words) l.lines
