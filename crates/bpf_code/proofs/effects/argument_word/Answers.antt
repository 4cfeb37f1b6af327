use Rattle.std.proofs.Common.{◌∙◌}
use Rattle.bpf_code.proofs.Words.{word_of_arguments}
use Rattle.bpf_code.proofs.effects.argument_word.Goals as goal

pub returns : goal.returns
returns c = c.half.ensures ∙ word_of_arguments c.args.args.now c.args.at c.requires
