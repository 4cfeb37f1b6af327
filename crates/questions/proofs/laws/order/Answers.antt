use Rattle.questions.proofs.Order.{stand_in_order}
use Rattle.questions.proofs.laws.order.Goals as goal

pub returns : goal.returns
returns c = record { each_before_the_later_ones = stand_in_order }
