-- With DynamicUser= a word of User= always gives an account.
use Rattle.std.proofs.Common.{◌≢◌, ℕ, Bool, true, List, [], ◌∷◌, Option, Some, None, Err}
use Rattle.dropin_merge.specs.declared.resolved.Resolved.{Resolved}
use Rattle.dropin_merge.specs.unit_names.declared.version.Version.{Version}
use Rattle.site_table.specs.Table.{Site}
use Rattle.cred_settings.specs.declared.accounts.Identity.{Identity}
use Rattle.cred_settings.specs.declared.error.IdentityError.TheVariants.{NoSuchUser}
use Rattle.cred_settings.specs.Users.{user_meant, account_meant, account_of, user_word}
use Rattle.cred_settings.specs.Groups.{group_word}
use Rattle.cred_settings.specs.FurtherGroups.{further_words}
use Rattle.cred_settings.specs.Identities.{unless_bad, identity_by, identity_of}

no_user : (bad : Option (List ℕ)) (identity : Identity) (word : List ℕ) → unless_bad bad identity ≢ Err (NoSuchUser word)
no_user None identity word e = cc
no_user (Some group) identity word e = cc

module _ (systemd : Option Version) (site : Site) (leaves_ids : Bool) where
  meant : (user group : List ℕ) (further : List (List ℕ)) (word : List ℕ) (o : Option Identity)
      → identity_by systemd site true leaves_ids user group further (account_meant true o) ≢ Err (NoSuchUser word)
  meant user group further word None = no_user _ _ word
  meant user group further word (Some identity) = no_user _ _ word

  given : (user group : List ℕ) (further : List (List ℕ)) (word : List ℕ)
      → identity_by systemd site true leaves_ids user group further (account_of systemd site true user) ≢ Err (NoSuchUser word)
  given [] group further word = no_user _ _ word
  given (byte ∷ user) group further word = meant (byte ∷ user) group further word (user_meant systemd site true (byte ∷ user))

pub nobody_is_refused : (unit : Resolved) (site : Site) (leaves_ids : Bool) (word : List ℕ)
    → identity_of unit site true leaves_ids ≢ Err (NoSuchUser word)
unfolding identity_of
nobody_is_refused unit site leaves_ids word = given unit.systemd site leaves_ids (user_word unit) (group_word unit) (further_words unit) word
