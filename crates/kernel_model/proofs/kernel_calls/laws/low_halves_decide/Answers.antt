use Rattle.kernel_model.proofs.Forms as forms
use Rattle.kernel_model.proofs.kernel_calls.laws.low_halves_decide.Goals as goal

pub returns : goal.returns
returns c = record { same = forms.low_halves_decide }
