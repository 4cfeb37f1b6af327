use Rattle.std.proofs.Common.{◌≡◌, length, sym, ap, ◌∙◌, arith}
use Rattle.std.proofs.lemmas.Bool.Decides.{nat_tests}
use Rattle.text_forms.specs.Words.{words_of}
use Rattle.text_forms.proofs.SoFar.{starts, all_read}
use Rattle.text_forms.proofs.splitting.words.Goals as goal

pub loop-left-init : goal.loop-left-init
loop-left-init c = starts c.nothing-so_far.result c.as_bytes-left.result.now c.nothing-so_far.ensures
    ∙ ap words_of c.as_bytes-left.ensures.value

pub returns : goal.returns
returns c =
    let none : length c.loop-left.left.now ≡ 0 = grind (arith, nat_tests, c.loop-left-test.ensures, c.loop-left-test.false) in
    let all = all_read c.loop-left.so_far c.loop-left.left.now c.args.text.now c.loop-left.invariant none in
    record { splits_or_first_fault = rw (sym all) c.words.ensures }
