use Rattle.std.proofs.Common.{◌∷◌, [], ◌+◌, ◌-◌, map, arith}
use Rattle.kernel_laws.specs.Questions.{count_from}
use Rattle.kernel_laws.specs.declared.question_types.question.Question.TheVariants.{Cap}
use Rattle.questions.proofs.Pushing.{piece_more, caps_left}
use Rattle.questions.proofs.all.push_caps.Goals as goal

pub loop-cap-preserved : goal.loop-cap-preserved
loop-cap-preserved c =
    piece_more c.loop-cap.list.items c.push.new.self.items (Cap c.loop-cap.cap ∷ [])
    (map Cap (count_from c.loop-cap.cap (41 - c.loop-cap.cap)))
    (map Cap (count_from (c.loop-cap.cap + 1) (41 - (c.loop-cap.cap + 1)))) _
    c.loop-cap.invariant
    c.in_ok-push.ensures.items
    (caps_left c.loop-cap.cap (omega (arith, c.loop-cap-test.true)))
