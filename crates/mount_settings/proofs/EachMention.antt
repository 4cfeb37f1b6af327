-- If each mention of a protection, each folder and each written path has a property, so have all mentions.
use Rattle.std.proofs.Common.{◌≡◌, ℕ, zero, suc, Bool, true, false, cond, List, [], ◌∷◌, ◌++◌, get_or, map, refl, ap, ◌∙◌}
use Rattle.std.specs.Prelude.{◌&&◌, not, filter}
use Rattle.std.specs.List.{list_all}
use Rattle.std.proofs.lemmas.List.Folds.{list_all-append, list_all-map}
use Rattle.path_settings.specs.declared.keys.PathKey.{PathKey}
use Rattle.path_settings.specs.declared.keys.PathKey.TheVariants.{StateDirectory, RuntimeDirectory, CacheDirectory, LogsDirectory}
use Rattle.path_settings.specs.declared.mentions.Mention.{Mention}
use Rattle.path_settings.specs.Keys.{is_implied}
use Rattle.site_table.specs.Table.{Site}
use Rattle.mount_settings.specs.declared.written.WrittenPath.{WrittenPath}
use Rattle.mount_settings.specs.declared.protections.SystemProtection.{SystemProtection}
use Rattle.mount_settings.specs.declared.protections.SystemProtection.TheVariants.{No, Yes, Full, Strict}
use Rattle.mount_settings.specs.declared.protections.HomeProtection.{HomeProtection}
use Rattle.mount_settings.specs.declared.protections.HomeProtection.TheVariants.{No as HomeNo, Yes as HomeYes, ReadOnly as HomeReadOnly}
use Rattle.mount_settings.specs.declared.protections.HomeProtection.TheVariants.{Tmpfs}
use Rattle.mount_settings.specs.declared.protections.Protections.{Protections}
use Rattle.mount_settings.specs.declared.protections.Switches.{Switches}
use Rattle.mount_settings.specs.Assigned.{is_key}
use Rattle.mount_settings.specs.Written.{of_key}
use Rattle.mount_settings.specs.Effects.{stands}
use Rattle.mount_settings.specs.Table.{by_system, by_home, by_tmp, by_devices, by_tunables, by_modules, by_logs, by_control_groups}
use Rattle.mount_settings.specs.Implied.{joined, by_files, by_kernel, by_folders, asked, implied}
use Rattle.mount_settings.specs.Settings.{as_written, mentions_of}

-- the mentions of each protection, group by group
abbrev groups : List (List Mention)
groups =
    by_system Yes ∷ by_system Full ∷ by_system Strict ∷ by_home HomeYes ∷ by_home HomeReadOnly ∷ by_home Tmpfs
    ∷ by_tmp true ∷ by_devices true ∷ by_tunables true ∷ by_modules true ∷ by_logs true ∷ by_control_groups true ∷ []

-- each mention of each protection has the property
abbrev pub OfTable : (Mention → Bool) → Type 0
OfTable q = list_all (list_all q) groups ≡ true

pub both : (a b : Bool) → (a && b) ≡ true → (a ≡ true) × (b ≡ true)
both true b e = (refl, e)
both false b e = let bad : ⊥ = cc in absurd bad

-- so each mention of one group has it
of_group : (q : Mention → Bool) (i : ℕ) (xs : List (List Mention)) → list_all (list_all q) xs ≡ true → list_all q (get_or xs i []) ≡ true
of_group q i [] of = refl
of_group q zero (x ∷ xs) of = (both (list_all q x) (list_all (list_all q) xs) of).0
of_group q (suc i) (x ∷ xs) of = of_group q i xs (both (list_all q x) (list_all (list_all q) xs) of).1

of_system : (q : Mention → Bool) → OfTable q → (system : SystemProtection) → list_all q (by_system system) ≡ true
of_system q of No = refl
of_system q of Yes = of_group q 0 groups of
of_system q of Full = of_group q 1 groups of
of_system q of Strict = of_group q 2 groups of

of_home : (q : Mention → Bool) → OfTable q → (home : HomeProtection) → list_all q (by_home home) ≡ true
of_home q of HomeNo = refl
of_home q of HomeYes = of_group q 3 groups of
of_home q of HomeReadOnly = of_group q 4 groups of
of_home q of Tmpfs = of_group q 5 groups of

-- a switch that is off gives no mentions
of_switch : (q : Mention → Bool) (by : Bool → List Mention) → list_all q (by false) ≡ true → list_all q (by true) ≡ true → (on : Bool)
    → list_all q (by on) ≡ true
of_switch q by off on true = on
of_switch q by off on false = off

pub of_picked : {X : Type 0} (p q : X → Bool) (xs : List X) → list_all q xs ≡ true → list_all q (filter p xs) ≡ true
of_picked p q [] all = refl
of_picked p q (x ∷ xs) all =
    let rest = of_picked p q xs (both (q x) (list_all q xs) all).1 in
    elim (p x) as (λ v. list_all q (cond v (x ∷ filter p xs) (filter p xs)) ≡ true) [
      | true ↦ ap (λ v. v && list_all q (filter p xs)) (both (q x) (list_all q xs) all).0 ∙ rest
      | false ↦ rest
    ]

pub of_two : {X : Type 0} (q : X → Bool) (xs ys : List X) → list_all q xs ≡ true → list_all q ys ≡ true → list_all q (xs ++ ys) ≡ true
of_two q xs ys one other = list_all-append q xs ys ∙ ap (λ v. v && list_all q ys) one ∙ other

of_four : (q : Mention → Bool) (one two three four : List Mention) → list_all q one ≡ true → list_all q two ≡ true
    → list_all q three ≡ true → list_all q four ≡ true → list_all q (joined (one ∷ two ∷ three ∷ four ∷ [])) ≡ true
of_four q one two three four a b c d =
    of_two q one (two ++ (three ++ (four ++ []))) a
    (of_two q two (three ++ (four ++ [])) b (of_two q three (four ++ []) c (of_two q four [] d refl)))

-- all folders have the property
pub of_folders : (q : Mention → Bool) (paths : List WrittenPath)
    → ((key : PathKey) → is_implied key ≡ true → list_all q (of_key key paths) ≡ true) → list_all q (joined (by_folders paths)) ≡ true
of_folders q paths folders =
    of_four q (of_key StateDirectory paths) (of_key RuntimeDirectory paths) (of_key CacheDirectory paths) (of_key LogsDirectory paths)
    (folders StateDirectory refl) (folders RuntimeDirectory refl) (folders CacheDirectory refl) (folders LogsDirectory refl)

-- all implied mentions have the property if the folders have it
pub of_implied : (q : Mention → Bool) → OfTable q → (site : Site) (switches : Switches) (protections : Protections)
    (paths : List WrittenPath) → ((key : PathKey) → is_implied key ≡ true → list_all q (of_key key paths) ≡ true)
    → list_all q (implied site switches protections paths) ≡ true
unfolding implied
of_implied q of site switches protections paths folders =
    let files = of_four q (by_system protections.protect_system) (by_home protections.protect_home) (by_tmp protections.private_tmp) (by_devices switches.private_devices)
    (of_system q of protections.protect_system) (of_home q of protections.protect_home) (of_switch q by_tmp refl (of_group q 6 groups of) protections.private_tmp) (of_switch q by_devices refl (of_group q 7 groups of) switches.private_devices) in
    let kernel = of_four q (by_tunables protections.protect_kernel_tunables) (by_modules switches.protect_kernel_modules) (by_logs switches.protect_kernel_logs) (by_control_groups protections.protect_control_groups)
    (of_switch q by_tunables refl (of_group q 8 groups of) protections.protect_kernel_tunables) (of_switch q by_modules refl (of_group q 9 groups of) switches.protect_kernel_modules) (of_switch q by_logs refl (of_group q 10 groups of) switches.protect_kernel_logs) (of_switch q by_control_groups refl (of_group q 11 groups of) protections.protect_control_groups) in
    of_picked (stands site) q (asked switches protections paths)
    (of_two q (joined (by_files switches protections)) (joined (by_kernel switches protections) ++ joined (by_folders paths)) files
    (of_two q (joined (by_kernel switches protections)) (joined (by_folders paths)) kernel (of_folders q paths folders)))

-- some of the written paths have the property if all have it
pub of_some : (q : Mention → Bool) (p : WrittenPath → Bool) (paths : List WrittenPath) → list_all (λ path. q path.mention) paths ≡ true
    → list_all q (map (λ path. path.mention) (filter p paths)) ≡ true
of_some q p paths all = list_all-map q (λ (path : WrittenPath). path.mention) (filter p paths)
    ∙ of_picked p (λ path. q path.mention) paths all

-- all mentions have the property if all written paths have it
pub of_all : (q : Mention → Bool) → OfTable q → (site : Site) (switches : Switches) (protections : Protections) (paths : List WrittenPath)
    → list_all (λ path. q path.mention) paths ≡ true → list_all q (mentions_of site switches protections paths) ≡ true
unfolding mentions_of
of_all q of site switches protections paths all =
    of_two q (as_written paths) (implied site switches protections paths)
    (of_some q (λ path. not (is_implied path.key)) paths all)
    (of_implied q of site switches protections paths (λ key implies. of_some q (λ path. is_key path.key key) paths all))
