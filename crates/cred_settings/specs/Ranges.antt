-- Ids that the kernel accepts (credentials(7)): none of them is the number that means no id.
use Rattle.std.specs.Prelude.{ℕ, ◌≤◌, List}
use Rattle.std.specs.List.{AllByRecursion}
use Rattle.site_table.specs.Ids.{greatest_id}
use Rattle.cred_settings.specs.declared.accounts.Identity.{Identity}

abbrev pub AreIds : List ℕ → Type 0
AreIds ids = AllByRecursion (λ id. id ≤ greatest_id) ids

pub record HasIds (identity : Identity) : Type 0 where
  pub uid : identity.uid ≤ greatest_id
  pub gid : identity.gid ≤ greatest_id
  pub groups : AreIds identity.groups
