use Rattle.std.proofs.Common.{◌≡◌, ◌+◌, ◌*◌, ◌-◌, ◌++◌, ◌∷◌, [], length, sym, ap, ◌∙◌, append_assoc}
use Rattle.seccomp_compile.specs.Code.{compare, look_code}
use Rattle.seccomp_compile.specs.Looks.{mask_of, comparison_of}
use Rattle.seccomp_compile.proofs.emit.test.Goals as goal

pub returns-clause-adds : goal.returns-clause-adds
returns-clause-adds c =
    let old = c.args.code.now.items in
    let test = c.args.test in
    let hit = length old - c.args.hit in
    let miss = length old - c.args.miss in
    let insn = compare (comparison_of test) test.value hit miss in
    let compared : c.compare.new.code.items ≡ insn ∷ old =
    c.in_ok-compare.ensures.adds ∙ ap (λ comparison. compare comparison c.test.inside.value hit miss ∷ old) c.comparison_for.ensures.of_the_test ∙ ap (λ test. compare (comparison_of c.args.test) test.value hit miss ∷ old) c.test.view_is in
    c.in_ok-look.ensures.adds
    ∙ ap (λ offset. look_code offset c.mask_for.result ++ c.compare.new.code.items) c.arg_offset.ensures.of_the_argument
    ∙ ap (λ mask. look_code (16 + 8 * c.test.inside.arg) mask ++ c.compare.new.code.items) c.mask_for.ensures.of_the_test
    ∙ ap (λ test. look_code (16 + 8 * test.arg) (mask_of c.args.test) ++ c.compare.new.code.items) c.test.view_is
    ∙ ap (λ code. look_code (16 + 8 * test.arg) (mask_of test) ++ code) compared
    ∙ sym (append_assoc (look_code (16 + 8 * test.arg) (mask_of test)) (insn ∷ []) old)
