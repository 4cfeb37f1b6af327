use Rattle.path_settings.proofs.SystemdLaws.{listed_among, listed_ascends, listed_seen}
use Rattle.path_settings.proofs.systemd.laws.one_entry_for_a_path.Goals as goal

pub returns : goal.returns
returns c = record { none_is_made_up = listed_among; each_path_once = listed_ascends; none_below_what_is_hidden = listed_seen }
