use Rattle.kernel_ways.proofs.Exact.{verdict_is_exact, questions_are_exact, ceiling_is_exact}
use Rattle.kernel_ways.proofs.FitQuestions.{listed_are_fit}
use Rattle.kernel_ways.proofs.Shown.{open_is_shown}
use Rattle.kernel_ways.proofs.openness.Goals as goal

pub returns-clause-shown : goal.returns-clause-shown
returns-clause-shown c = open_is_shown

pub returns-clause-exact : goal.returns-clause-exact
returns-clause-exact c = verdict_is_exact

pub returns-clause-listed : goal.returns-clause-listed
returns-clause-listed c = listed_are_fit

pub returns-clause-bounds : goal.returns-clause-bounds
returns-clause-bounds c = ceiling_is_exact

pub returns-clause-each_listed : goal.returns-clause-each_listed
returns-clause-each_listed c = questions_are_exact
