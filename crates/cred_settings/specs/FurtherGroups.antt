-- systemd.exec(5), SupplementaryGroups=: the supplementary groups of a service.
use Rattle.std.specs.Prelude.{ℕ, ◌==◌, ◌&&◌, not, Bool, cond, codes, Option, List, [], ◌∷◌, ◌++◌}
use Rattle.std.specs.List.{filter_map}
use Rattle.dropin_merge.specs.declared.resolved.Resolved.{Resolved}
use Rattle.dropin_merge.specs.declared.unit_values.value.FileNote.{FileNote}
use Rattle.dropin_merge.specs.unit_values.Words.{unit_words, unit_words_notes}
use Rattle.dropin_merge.specs.unit_names.Versions.{is_known}
use Rattle.dropin_merge.specs.unit_names.declared.version.Version.{Version}
use Rattle.site_table.specs.Table.{Site}
use Rattle.cred_settings.specs.declared.accounts.Account.{Account}
use Rattle.cred_settings.specs.declared.accounts.Account.TheVariants.{Dynamic, Fixed}
use Rattle.cred_settings.specs.Groups.{gid_meant}

-- the further groups of the user
abbrev pub groups_of_account : Account → List ℕ
groups_of_account Dynamic = []
groups_of_account (Fixed identity) = identity.groups

-- in a version of systemd a service with a user, and with another group than 0, has the groups that initgroups(3) gives: the groups of the
-- user, and its own group. Any other service has none
abbrev pub initial_groups : Bool → ℕ → List ℕ → List ℕ
initial_groups has_user gid groups = cond (has_user && not (gid == 0)) (groups ++ gid ∷ []) []

-- the groups that an account gives to a service with this gid
abbrev pub account_groups : Option Version → Bool → ℕ → Account → List ℕ
account_groups systemd has_user gid account =
    cond (is_known systemd) (initial_groups has_user gid (groups_of_account account)) (groups_of_account account)

-- the groups of the words follow them, in order and with duplicates
abbrev pub groups_of : Option Version → Site → Bool → ℕ → Account → List (List ℕ) → List ℕ
groups_of systemd site has_user gid account words =
    account_groups systemd has_user gid account ++ filter_map (gid_meant systemd site) words

-- the words that the files of a unit give, and their notes
abbrev pub further_words : Resolved → List (List ℕ)
further_words unit = unit_words unit (codes "SupplementaryGroups")

abbrev pub further_notes : Resolved → List FileNote
further_notes unit = unit_words_notes unit (codes "SupplementaryGroups")
