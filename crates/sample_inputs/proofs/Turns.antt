-- What the unit of a sample says depends on the rest of its number by four.
use Rattle.std.proofs.Common.{◌≡◌, ℕ, ◌%◌, ◌==◌, cond, codes, List, [], ◌∷◌, ◌++◌, refl, sym, ap, ◌∙◌, arith}
use Rattle.std.specs.Prelude.{flat_map}
use Rattle.std.proofs.Math.Nat.{add-mod-mod}
use Rattle.sample_inputs.specs.Site.{folder_path, numbers_from}
use Rattle.sample_inputs.specs.Unit.{Setting, folder_settings, folder_settings_by, privilege_settings, unit_settings}

pub flat_map_alike : {X Y : Type 0} (f g : X → List Y) → ((x : X) → f x ≡ g x) → (xs : List X) → flat_map f xs ≡ flat_map g xs
flat_map_alike f g same [] = refl
flat_map_alike f g same (x ∷ xs) = ap (λ front. front ++ flat_map f xs) (same x) ∙ ap (λ back. g x ++ back) (flat_map_alike f g same xs)

half_of_quarter : (n : ℕ) → (n % 4) % 2 ≡ n % 2
half_of_quarter n = omega arith

same_folder_settings : (n k : ℕ) → folder_settings n k ≡ folder_settings (n % 4) k
same_folder_settings n k = ap (λ turn. folder_settings_by turn (folder_path k)) (sym (add-mod-mod k n 4))

privileges_by : ℕ → List Setting
privileges_by rest = cond (rest == 0) (record { key = codes "NoNewPrivileges"; value = codes "yes" } ∷ []) []

same_privileges : (n : ℕ) → privilege_settings n ≡ privilege_settings (n % 4)
unfolding privileges_by
same_privileges n = ap privileges_by (sym (half_of_quarter n))

-- the settings by what they say of privileges and of folders
abbrev pub settings_with : List Setting → List Setting → List Setting
settings_with privileges folders = record { key = codes "ExecStart"; value = codes "/usr/bin/app" } ∷ record
    { key = codes "User"; value = codes "app" } ∷ (privileges ++ folders)

pub same_settings : (n : ℕ) → unit_settings n ≡ unit_settings (n % 4)
same_settings n =
    ap (λ privileges. settings_with privileges (flat_map (folder_settings n) (numbers_from 0 16))) (same_privileges n)
    ∙ ap (settings_with (privilege_settings (n % 4)))
    (flat_map_alike (folder_settings n) (folder_settings (n % 4)) (same_folder_settings n) (numbers_from 0 16))
