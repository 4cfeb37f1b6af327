use Rattle.judge.proofs.Noninterference.{blind_to_others}
use Rattle.judge.proofs.laws.sites_are_alike.Goals as goal

pub returns : goal.returns
returns c = record { blind = blind_to_others }
