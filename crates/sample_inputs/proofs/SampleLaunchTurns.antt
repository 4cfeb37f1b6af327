-- What a sample's unit says depends on the remainder of its number by four.
use Rattle.std.proofs.Common.{◌≡◌, ◌∙◌, ℕ, Bool, cond, codes, ◌+◌, ◌%◌, List, [], ◌∷◌, ◌++◌, flat_map, refl, sym, ap, arith}
use Rattle.std.specs.Prelude.{◌==◌}
use Rattle.std.proofs.Math.Nat.{add-mod-mod}
use Rattle.sample_inputs.specs.Site.{folder_path, numbers_from}
use Rattle.sample_inputs.specs.Unit.{Setting, assignments_from, folder_settings, folder_settings_by, privilege_settings, unit_said}
use Rattle.sample_inputs.specs.Unit.{unit_settings}

-- the settings of a unit, with those of privileges and those of folders
abbrev with_settings : List Setting → List Setting → List Setting
with_settings privileges folders =
    record { key = codes "ExecStart"; value = codes "/usr/bin/app" } ∷ record { key = codes "User"; value = codes "app" } ∷
    (privileges ++ folders)

abbrev privileges : Bool → List Setting
privileges even = cond even (record { key = codes "NoNewPrivileges"; value = codes "yes" } ∷ []) []

module _ (n m : ℕ) (same : n % 4 ≡ m % 4) where
  pub same_turn : (k : ℕ) → (k + n) % 4 ≡ (k + m) % 4
  same_turn k = sym (add-mod-mod k n 4) ∙ ap (λ r. (k + r) % 4) same ∙ add-mod-mod k m 4

  pub same_half : n % 2 ≡ m % 2
  same_half = omega arith

  same_folder : (k : ℕ) → folder_settings n k ≡ folder_settings m k
  same_folder k = ap (λ turn. folder_settings_by turn (folder_path k)) (same_turn k)

  same_folders : (ks : List ℕ) → flat_map (folder_settings n) ks ≡ flat_map (folder_settings m) ks
  same_folders [] = refl
  same_folders (k ∷ ks) = ap (λ one. one ++ flat_map (folder_settings n) ks) (same_folder k)
      ∙ ap (λ rest. folder_settings m k ++ rest) (same_folders ks)

  same_settings : unit_settings n ≡ unit_settings m
  same_settings =
      ap (λ even. with_settings (privileges even) (flat_map (folder_settings n) (numbers_from 0 16))) (ap (λ half. half == 0) same_half)
      ∙ ap (with_settings (privilege_settings m)) (same_folders (numbers_from 0 16))

  pub same_said : unit_said n ≡ unit_said m
  same_said = ap (λ settings. record { assignments = assignments_from 2 settings; notes = [] }) same_settings
