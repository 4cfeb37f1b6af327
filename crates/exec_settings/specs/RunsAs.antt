-- The ids that a service runs with (systemd.exec(5), User/Group Identity).
use Rattle.std.specs.Prelude.{Result}
use Rattle.cred_settings.specs.declared.accounts.Identity.{Identity}
use Rattle.cred_settings.specs.declared.error.IdentityError.{IdentityError}
use Rattle.cred_settings.specs.dropin_merge.declared.resolved.Resolved.{Resolved}
use Rattle.cred_settings.specs.site_table.Table.{Site}
use Rattle.cred_settings.specs.Identities.{identity_of}
use Rattle.exec_settings.specs.Dynamic.{is_dynamic}
use Rattle.exec_settings.specs.Launched.{unit_leaves_ids}

-- a command with the prefix `!` leaves the ids as they are
abbrev pub unit_identity : Resolved → Site → Result Identity IdentityError
unit_identity unit site = identity_of unit site (is_dynamic unit) (unit_leaves_ids unit)
