use Rattle.script_text.proofs.Abis.{each_once}
use Rattle.script_text.proofs.Written.{answer_written}
use Rattle.script_text.proofs.reader.read_script.Goals as goal

pub returns-clause-each_is_printed_again : goal.returns-clause-each_is_printed_again
returns-clause-each_is_printed_again c = answer_written c.args.calls.now c.args.bytes.now c.read_bytes.result
    (each_once c.args.calls.now c.abis-abis.ensures.whole.sound) c.read_bytes.ensures
