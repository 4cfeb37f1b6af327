use Rattle.path_settings.proofs.Carries.{same_leading, same_object, same_read_only, same_no_exec}
use Rattle.path_settings.proofs.view_map.laws.view_on_the_way.Goals as goal

pub returns : goal.returns
returns c = record { same_mentions_decide = same_leading; object_is_carried_on = same_object; as_read_only = same_read_only; as_executable = same_no_exec }
