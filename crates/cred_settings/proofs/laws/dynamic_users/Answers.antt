use Rattle.cred_settings.proofs.DynamicUsers.{nobody_is_refused}
use Rattle.cred_settings.proofs.laws.dynamic_users.Goals as goal

pub returns : goal.returns
returns c = record { nobody_is_refused = nobody_is_refused }
