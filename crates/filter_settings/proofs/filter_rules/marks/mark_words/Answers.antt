use Rattle.std.proofs.Common.{arith}
use Rattle.filter_settings.specs.filter_rules.Marks.{said}
use Rattle.filter_settings.proofs.Marked.{one_word, all_words, same_said}
use Rattle.filter_settings.proofs.filter_rules.marks.mark_words.Goals as goal

pub loop-mention-init : goal.loop-mention-init
loop-mention-init c = record { as_many = c.requires.as_many; each = λ at call first. c.requires.unmarked at }

pub mark_word-requires : goal.mark_word-requires
mark_word-requires c = c.loop-mention.invariant.as_many

pub loop-mention-preserved : goal.loop-mention-preserved
loop-mention-preserved c =
    one_word c.args.table.now (said c.args.mode c.args.default) c.args.mentions.now c.loop-mention.mention-index c.mention-item.result
    c.loop-mention.marks c.mark_word.new.marks (omega arith) c.mention-item.is (omega arith) c.loop-mention.invariant
    (same_said c.args.table.now c.as_str.result.now c.mention-item.result.name c.said-what.result
    (said c.args.mode c.args.default c.mention-item.result) c.loop-mention.marks c.mark_word.new.marks c.as_str.ensures.same_text
    c.said-what.ensures c.mark_word.ensures)

pub returns : goal.returns
returns c =
    all_words c.args.table.now (said c.args.mode c.args.default) c.args.mentions.now c.loop-mention.mention-index c.loop-mention.marks
    (omega arith) c.loop-mention.invariant
