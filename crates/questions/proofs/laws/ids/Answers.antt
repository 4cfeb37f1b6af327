use Rattle.questions.proofs.Ascending.{ids_ascend}
use Rattle.questions.proofs.laws.ids.Goals as goal

pub returns : goal.returns
returns c = record { ascend_each_once = ids_ascend }
