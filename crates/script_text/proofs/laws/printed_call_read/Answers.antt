use Rattle.script_text.proofs.PrintedRead.{reads_back}
use Rattle.script_text.proofs.laws.printed_call_read.Goals as goal

pub returns : goal.returns
returns c = record { read_back = reads_back }
