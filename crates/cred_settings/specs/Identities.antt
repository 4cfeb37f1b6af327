-- systemd.exec(5), User/Group Identity: the ids that a service runs with.
use Rattle.std.specs.Prelude.{ℕ, Bool, not, is_some, cond, find, List, ◌++◌, Option, Some, None, Result, Ok, Err}
use Rattle.dropin_merge.specs.declared.resolved.Resolved.{Resolved}
use Rattle.dropin_merge.specs.declared.unit_values.value.FileNote.{FileNote}
use Rattle.dropin_merge.specs.unit_names.declared.version.Version.{Version}
use Rattle.site_table.specs.Table.{Site}
use Rattle.cred_settings.specs.declared.accounts.Identity.{Identity}
use Rattle.cred_settings.specs.declared.accounts.Account.{Account}
use Rattle.cred_settings.specs.declared.accounts.Account.TheVariants.{Dynamic, Fixed}
use Rattle.cred_settings.specs.declared.error.IdentityError.{IdentityError}
use Rattle.cred_settings.specs.declared.error.IdentityError.TheVariants.{NoSuchUser, NoSuchGroup}
use Rattle.cred_settings.specs.Users.{account_of, has_user, user_word, user_notes}
use Rattle.cred_settings.specs.Groups.{gid_meant, chosen_gid, gid_of, filled, group_word, group_notes}
use Rattle.cred_settings.specs.FurtherGroups.{account_groups, groups_of, further_words, further_notes}

abbrev pub uid_of : Site → Account → ℕ
uid_of site Dynamic = site.dynamic_uid
uid_of site (Fixed identity) = identity.uid

-- the ids of an account with this gid and the words of SupplementaryGroups=. A command with the prefix `!` (systemd.service(5),
-- ExecStart=) starts as the superuser, without the groups of these words
abbrev pub identity_at : Option Version → Site → Bool → Bool → ℕ → Account → List (List ℕ) → Identity
identity_at systemd site with_user leaves_ids gid account further = cond leaves_ids
    (record { uid = 0; gid = 0; groups = account_groups systemd with_user gid account })
    (record { uid = uid_of site account; gid = gid; groups = groups_of systemd site with_user gid account further })

-- the ids of an account with the words of Group= and SupplementaryGroups=
abbrev pub identity_with : Option Version → Site → Bool → Bool → Account → List ℕ → List (List ℕ) → Identity
identity_with systemd site with_user leaves_ids account group further =
    identity_at systemd site with_user leaves_ids (gid_of site (chosen_gid systemd site group) account) account further

abbrev pub names_no_group : Option Version → Site → List ℕ → Bool
names_no_group systemd site word = not (is_some (gid_meant systemd site word))

-- the first word that names no group: the word of Group=, then the words of SupplementaryGroups=
abbrev pub bad_group : Option Version → Site → List ℕ → List (List ℕ) → Option (List ℕ)
bad_group systemd site group further = find (names_no_group systemd site) (filled group ++ further)

-- an account is refused for the first word that names no group
abbrev pub unless_bad : Option (List ℕ) → Identity → Result Identity IdentityError
unless_bad None identity = Ok identity
unless_bad (Some word) identity = Err (NoSuchGroup word)

abbrev pub identity_by : Option Version → Site → Bool → Bool → List ℕ → List ℕ → List (List ℕ) → Option Account
    → Result Identity IdentityError
identity_by systemd site is_dynamic leaves_ids user group further None = Err (NoSuchUser user)
identity_by systemd site is_dynamic leaves_ids user group further (Some account) =
    unless_bad (bad_group systemd site group further)
    (identity_with systemd site (has_user is_dynamic user) leaves_ids account group further)

-- the ids that the words of User=, Group= and SupplementaryGroups= give, or the first refusal: of the user, then of a group
abbrev pub identity_from : Option Version → Site → Bool → Bool → List ℕ → List ℕ → List (List ℕ) → Result Identity IdentityError
identity_from systemd site is_dynamic leaves_ids user group further =
    identity_by systemd site is_dynamic leaves_ids user group further (account_of systemd site is_dynamic user)

-- the ids by the files of a unit. `is_dynamic` says if DynamicUser= is on, and `leaves_ids` if the command has the prefix `!`
unfoldable pub identity_of : Resolved → Site → Bool → Bool → Result Identity IdentityError
identity_of unit site is_dynamic leaves_ids =
    identity_from unit.systemd site is_dynamic leaves_ids (user_word unit) (group_word unit) (further_words unit)

-- the notes, key by key
unfoldable pub identity_notes : Resolved → List FileNote
identity_notes unit = (user_notes unit ++ group_notes unit) ++ further_notes unit
