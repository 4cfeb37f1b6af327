use Rattle.cred_settings.proofs.NamedMembers.{members_named}
use Rattle.cred_settings.proofs.laws.named_members.Goals as goal

pub returns : goal.returns
returns c = record { named = members_named }
