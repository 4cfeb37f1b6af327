use Rattle.std.proofs.Common.{◌≡◌, length, arith, sym}
use Rattle.std.proofs.lemmas.Bool.Decides.{nat_tests}
use Rattle.script_text.proofs.WordsRead.{whole}
use Rattle.script_text.proofs.escapes.read_bytes.Goals as goal

pub returns : goal.returns
returns c =
    let none : length c.loop-left.left.now ≡ 0 = grind (arith, nat_tests, c.loop-left-test.ensures, c.loop-left-test.false) in
    sym (whole c.loop-left.bytes.items c.loop-left.left.now c.args.word.now c.loop-left.invariant none)
