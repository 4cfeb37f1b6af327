use Rattle.path_settings.proofs.KeptLaws.{kept_among_mentions, keeps_by_rules, asks_beneath}
use Rattle.path_settings.proofs.BelowHidden.{none_below_hidden}
use Rattle.path_settings.proofs.Resting.{kept_rests}
use Rattle.path_settings.proofs.view_map.laws.kept_by_the_rules.Goals as goal

pub returns : goal.returns
returns c = record { none_is_made_up = kept_among_mentions; by_the_kept_ones = keeps_by_rules; asks_beneath_the_kept = asks_beneath; rests_on_what_is_asked = kept_rests; none_below_what_is_hidden = none_below_hidden }
