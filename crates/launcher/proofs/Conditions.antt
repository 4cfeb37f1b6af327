-- The settings of every unit can be launched.
use Rattle.std.proofs.Common.{◌≡◌, ℕ, Bool, true, false, cond, List, Option, Some, None, refl, sym, subst, ◌∙◌, arith}
use Rattle.std.specs.Prelude.{◌==◌, ◌&&◌, not}
use Rattle.std.proofs.lemmas.Bool.{and_parts, not-true}
use Rattle.exec_settings.specs.cap_sets.Sets.{cut, IsWithin}
use Rattle.exec_settings.proofs.OfCapSets.Members.{cut_within_right, within_self}
use Rattle.exec_settings.specs.cred_settings.NewPrivileges.{is_keeping}
use Rattle.exec_settings.specs.unit_names.Versions.{is_257, is_known}
use Rattle.exec_settings.specs.unit_names.declared.version.Version.{Version}
use Rattle.exec_settings.proofs.OfCredSettings.InRange.{ids_in_range}
use Rattle.exec_settings.specs.Dynamic.{is_dynamic}
use Rattle.exec_settings.specs.Launched.{unit_leaves_ids}
use Rattle.exec_settings.specs.Settings.{ambient_within, unit_bounding}
use Rattle.exec_settings.specs.cred_settings.Ambient.{ambient_of}
use Rattle.exec_settings.specs.declared.service.Settings.{Settings}
use Rattle.launcher.specs.Answers.{wanted_of}
use Rattle.launcher.specs.Conditions.{CanBeLaunched, SettingsCanBeLaunched}
use Rattle.launcher.specs.Launches.{KeepsForUser}

-- a launch of such settings
pub keeps_for_user : (settings : Settings) (programs : List (List ℕ)) → CanBeLaunched settings → KeepsForUser (wanted_of settings programs)
keeps_for_user settings programs fit = record { user = fit.keeps_for_a_user; ambient = fit.keeps_the_ambient }

-- what is kept is kept by systemd 257, for another user than root
known : (systemd : Option Version) → is_257 systemd ≡ true → is_known systemd ≡ true
known None e = cc
known (Some version) e = refl

keeping : (systemd : Option Version) (filtered gives : Bool) (uid : ℕ) → is_keeping systemd filtered uid gives ≡ true
    → (is_known systemd ≡ true) × ((uid == 0) ≡ false)
keeping systemd filtered gives uid e =
    let parts = and_parts (is_257 systemd) ((filtered && not (uid == 0)) && gives) e in
    let user = and_parts (filtered && not (uid == 0)) gives parts.1 in
    (known systemd parts.0, not-true (uid == 0) (and_parts filtered (not (uid == 0)) user.0).1)

-- a version of systemd takes only what of the ambient set is in the bounding set
ambient_below : (systemd : Option Version) (ambient bounding : ℕ) → is_known systemd ≡ true
    → IsWithin (ambient_within systemd ambient bounding) bounding
ambient_below systemd ambient bounding e =
    subst (λ b. IsWithin (cond b (cut ambient bounding) ambient) bounding) (sym e)
    (cut_within_right ambient bounding bounding (within_self bounding))

pub settings_can_be_launched : SettingsCanBeLaunched
settings_can_be_launched unit table site made sound are =
    let ids = ids_in_range unit site (is_dynamic unit) (unit_leaves_ids unit)
    (record { uid = made.uid; gid = made.gid; groups = made.groups }) sound are.runs_as in
    let filters = are.filters_as_wanted in
    let bounded = are.bounding_without_what_is_taken in
    record {
      can_be_compiled = filters.can_be_compiled;
      fit_into_a_stack = filters.fit_into_a_stack;
      uid = omega (arith, ids.uid);
      gid = omega (arith, ids.gid);
      keeps_for_a_user = λ on. (keeping unit.systemd _ _ made.uid (sym are.keeps_for_the_filters ∙ on)).1;
      keeps_the_ambient = λ on.
          subst (λ set. IsWithin set made.bounding) (sym are.ambient)
          (subst (λ set. IsWithin (ambient_within unit.systemd (ambient_of unit) (unit_bounding unit table)) set) (sym bounded)
          (ambient_below unit.systemd (ambient_of unit) (unit_bounding unit table)
          (keeping unit.systemd _ _ made.uid (sym are.keeps_for_the_filters ∙ on)).0));
    }
