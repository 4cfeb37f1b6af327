use Rattle.mount_settings.proofs.CountingRows.{counted_by}
use Rattle.mount_settings.proofs.OptionalFolders.{implied_by_are_optional, implied_by_have_rows}
use Rattle.mount_settings.proofs.laws.implied_by_a_version.Goals as goal

pub returns : goal.returns
returns c = record {
  optional = implied_by_are_optional;
  have_rows = implied_by_have_rows;
  at_most_58_more = λ version site switches protections keys paths. counted_by version switches protections keys site paths;
}
