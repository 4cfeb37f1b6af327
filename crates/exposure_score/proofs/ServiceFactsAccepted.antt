-- A unit that nothing refuses writes few paths.
use Rattle.std.proofs.Common.{◌≡◌, ◌≤◌, Bool, true, false, cond, [], ◌∷◌, length, Option, Some, None, nat_lt, refl}
use Rattle.std.proofs.lemmas.Bool.{ltb-false}
use Rattle.exec_settings.specs.call_table.Table.{Table}
use Rattle.exec_settings.specs.dropin_merge.declared.resolved.Resolved.{Resolved}
use Rattle.exec_settings.specs.declared.errors.SettingsError.{SettingsError}
use Rattle.exec_settings.specs.declared.errors.SettingsError.TheVariants.{TooManyPaths}
use Rattle.exec_settings.specs.Mounts.{paths_refusal}
use Rattle.exec_settings.specs.Refusals.{first_reason, command_refusal, identity_refusal, group_refusal, refusal_of}
use Rattle.exec_settings.specs.mount_settings.Written.{unit_written}
use Rattle.exec_settings.specs.site_table.Table.{Site}

-- where none of the reasons is there, the last is not
last_is_none : (one two three last : Option SettingsError) → first_reason (one ∷ two ∷ three ∷ last ∷ []) ≡ None → last ≡ None
last_is_none None None None None e = refl
last_is_none None None None (Some reason) e = e
last_is_none None None (Some reason) last e = cc
last_is_none None (Some reason) three last e = cc
last_is_none (Some reason) two three last e = cc

not_many : (b : Bool) → cond b (Some TooManyPaths) None ≡ None → b ≡ false
not_many true e = cc
not_many false e = refl

few_written : (unit : Resolved) → paths_refusal unit ≡ None → length (unit_written unit) ≤ 128
unfolding paths_refusal
few_written unit e = ltb-false 128 (length (unit_written unit)) (not_many (nat_lt 128 (length (unit_written unit))) e)

pub few_paths : (unit : Resolved) (table : Table) (site : Site) → refusal_of unit table site ≡ None → length (unit_written unit) ≤ 128
unfolding refusal_of
few_paths unit table site e =
    few_written unit (last_is_none (command_refusal unit site) (identity_refusal unit site) (group_refusal unit table) (paths_refusal unit) e)
