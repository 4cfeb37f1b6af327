use Rattle.filter_check.proofs.Lists.{map_set}
use Rattle.filter_check.proofs.filter_paths.region.Region.with_word.Goals as goal

pub returns : goal.returns
returns c = record { sets_the_word = map_set (λ one. one.conditions.items) c.args.self.words.items c.args.at c.args.word }
