use Rattle.cred_settings.proofs.CapsNamed.{found_cap}
use Rattle.cred_settings.proofs.cap_names.cap_named.Goals as goal

pub returns-clause-number : goal.returns-clause-number
returns-clause-number c = found_cap c.args.word.now c.from_name.result c.from_name.ensures.in_range c.from_name.ensures.named
