use Rattle.call_table.proofs.Back.{has_other_name, read_back}
use Rattle.call_table.proofs.call_words.is_read_back.Goals as goal

pub returns : goal.returns
returns c = record { is_read_back = read_back c.args.table.now (has_other_name c.args.table.now c.abis.ensures.whole.sound) }
