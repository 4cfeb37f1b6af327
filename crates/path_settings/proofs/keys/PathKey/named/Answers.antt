use Rattle.std.proofs.Common.{arith}
use Rattle.path_settings.proofs.ShortTexts.{short_text_names_none}
use Rattle.path_settings.proofs.keys.PathKey.named.Goals as goal

pub returns-then-text-lt-SHORTEST_NAME : goal.returns-then-text-lt-SHORTEST_NAME
returns-then-text-lt-SHORTEST_NAME c = record {
  first_of_this_name = short_text_names_none c.args.dialect c.args.text.now (omega arith);
}
