use Rattle.path_settings.proofs.ReadFolders.{words_short, words_optional}
use Rattle.path_settings.proofs.ReadMentions.{mention_short, implied_optional}
use Rattle.path_settings.proofs.laws.mentions_that_are_read.Goals as goal

pub returns : goal.returns
returns c = record {
  short_paths = mention_short;
  implied_are_optional = implied_optional;
  all_short = words_short;
  all_implied_are_optional = words_optional;
}
