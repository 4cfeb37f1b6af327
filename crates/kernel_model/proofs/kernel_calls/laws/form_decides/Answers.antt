use Rattle.kernel_model.proofs.OneRule as one
use Rattle.kernel_model.proofs.Forms as forms
use Rattle.kernel_model.proofs.kernel_calls.laws.form_decides.Goals as goal

pub returns-clause-of_the_rule : goal.returns-clause-of_the_rule
returns-clause-of_the_rule c = forms.form_decides

pub returns-clause-lacking : goal.returns-clause-lacking
returns-clause-lacking c = one.lacking

pub returns-clause-misformed : goal.returns-clause-misformed
returns-clause-misformed c = one.misformed
