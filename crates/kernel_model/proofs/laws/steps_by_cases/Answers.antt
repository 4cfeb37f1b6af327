use Rattle.kernel_model.proofs.Cases.{steps_by_cases, cases_are_steps}
use Rattle.kernel_model.proofs.laws.steps_by_cases.Goals as goal

pub returns-clause-each_step_is_a_case : goal.returns-clause-each_step_is_a_case
returns-clause-each_step_is_a_case c = steps_by_cases

pub returns-clause-each_case_is_the_step : goal.returns-clause-each_case_is_the_step
returns-clause-each_case_is_the_step c = cases_are_steps
