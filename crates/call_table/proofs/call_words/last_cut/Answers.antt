use Rattle.std.proofs.Common.{arith}
use Rattle.call_table.proofs.Cuts.{cut_char}
use Rattle.call_table.proofs.call_words.last_cut.Goals as goal

pub returns : goal.returns
returns c = cut_char 58 c.args.word.now _ c.rsplit_once.ensures.cases (omega arith)
