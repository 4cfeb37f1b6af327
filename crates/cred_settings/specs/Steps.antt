-- The ids at each step of the reading.
use Rattle.std.specs.Prelude.{ℕ, Bool, cond, List, Option}
use Rattle.dropin_merge.specs.unit_names.Versions.{is_known}
use Rattle.dropin_merge.specs.unit_names.declared.version.Version.{Version}
use Rattle.site_table.specs.Table.{Site}
use Rattle.cred_settings.specs.declared.accounts.Identity.{Identity}
use Rattle.cred_settings.specs.declared.accounts.Account.{Account}
use Rattle.cred_settings.specs.Groups.{gid_of}
use Rattle.cred_settings.specs.FurtherGroups.{groups_of_account, initial_groups}
use Rattle.cred_settings.specs.Identities.{uid_of}

-- the ids of an account with the chosen group, and with the further groups of its user
abbrev pub begun : Site → Option ℕ → Account → Identity
begun site chosen account = record { uid = uid_of site account; gid = gid_of site chosen account; groups = groups_of_account account }

-- the groups that the account gives if its user has these further groups
abbrev pub groups_with : Option Version → Bool → ℕ → List ℕ → List ℕ
groups_with systemd with_user gid groups = cond (is_known systemd) (initial_groups with_user gid groups) groups
