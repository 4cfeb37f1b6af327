use Rattle.mount_settings.proofs.Counting.{counted}
use Rattle.mount_settings.proofs.Optional.{implied_are_optional, implied_have_rows}
use Rattle.mount_settings.proofs.laws.implied_mentions.Goals as goal

pub returns : goal.returns
returns c = record { optional = implied_are_optional; have_rows = implied_have_rows; at_most_31_more = counted }
