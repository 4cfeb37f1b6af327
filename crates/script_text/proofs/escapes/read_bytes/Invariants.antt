use Rattle.std.proofs.Common.{◌≡◌, length}
use Rattle.kernel_model.specs.text_forms.Escaped.{word_read}
use Rattle.script_text.proofs.WordsRead.{behind}
use Rattle.script_text.proofs.escapes.read_bytes.Given as goal

abbrev pub invariant-loop-left : goal.invariant-loop-left
invariant-loop-left l = behind l.bytes.items (word_read l.left) ≡ word_read l.word

abbrev pub decreases-loop-left : goal.decreases-loop-left
decreases-loop-left l = length l.left
