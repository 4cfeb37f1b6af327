use Rattle.std.proofs.Common.{◌≡◌, length}
use Rattle.text_forms.specs.Words.{symbols_of, words_of}
use Rattle.text_forms.specs.SoFar.{splits_on}
use Rattle.text_forms.proofs.splitting.words.Given as goal

abbrev pub invariant-loop-left : goal.invariant-loop-left
invariant-loop-left l = splits_on l.so_far (symbols_of l.left) ≡ words_of l.text

abbrev pub decreases-loop-left : goal.decreases-loop-left
decreases-loop-left l = length l.left
