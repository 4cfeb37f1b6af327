use Rattle.exec_settings.proofs.OtherSites.{refusal_rests, settings_rest}
use Rattle.exec_settings.proofs.laws.few_of_a_site.Goals as goal

pub returns : goal.returns
returns c = record { rest_on_few = settings_rest; refusal_rests_on_few = refusal_rests }
