use Rattle.kernel_model.proofs.OneRule as one
use Rattle.kernel_model.proofs.kernel_calls.laws.each_call_has_one_rule.Goals as goal

pub returns-clause-by_its_line : goal.returns-clause-by_its_line
returns-clause-by_its_line c = one.one_rule

pub returns-clause-absent : goal.returns-clause-absent
returns-clause-absent c = one.absent

pub returns-clause-plain : goal.returns-clause-plain
returns-clause-plain c = one.plain

pub returns-clause-absent_calls_are_lacking : goal.returns-clause-absent_calls_are_lacking
returns-clause-absent_calls_are_lacking c = one.absent_calls_are_lacking
