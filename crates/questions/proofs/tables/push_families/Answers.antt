use Rattle.std.proofs.Common.{◌∷◌, [], ◌+◌, map, drop, arith}
use Rattle.kernel_laws.specs.Questions.{of_families}
use Rattle.kernel_laws.specs.declared.question_types.question.Question.TheVariants.{Socket}
use Rattle.questions.proofs.Pushing.{piece_more, families_left}
use Rattle.questions.proofs.tables.push_families.Goals as goal

pub loop-at-preserved : goal.loop-at-preserved
loop-at-preserved c =
    piece_more c.loop-at.list.items c.push.new.self.items (Socket c.loop-at.at ∷ [])
    (of_families c.loop-at.at (drop c.loop-at.at c.args.families.now))
    (of_families (c.loop-at.at + 1) (drop (c.loop-at.at + 1) c.args.families.now)) _
    c.loop-at.invariant
    c.in_ok-push.ensures.items
    (families_left c.args.families.now c.loop-at.at (omega (arith, c.loop-at-test.true)))
