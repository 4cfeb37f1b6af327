-- A capability that the ceiling has is gained in one of the ways.
use Rattle.std.proofs.Common.{◌≡◌, ℕ, Bool, true, false, Option, Some, None, refl, ap, ◌∙◌, sym, cond, ◌⊎◌, inl, inr}
use Rattle.std.specs.Prelude.{find, slice_get, not, ◌&&◌, ◌||◌, option_map, option_and_then}
use Rattle.std.specs.Option.{option_or}
use Rattle.std.proofs.lemmas.Bool.{and_from, and_parts, or_cases, or_left, or_right}
use Rattle.ceilings.specs.cap_sets.Sets.{has, none, cut}
use Rattle.ceilings.proofs.OfCapSets.Members.{has_cut, has_union, has_none}
use Rattle.ceilings.specs.site_table.declared.row.Row.{Row}
use Rattle.ceilings.specs.kernel_laws.Bound.{is_owner, can_run, file_gain, gain_at, gathered, when, caps_before, caps_at, with_root}
use Rattle.ceilings.specs.kernel_laws.Bound.{power_by, power_of}
use Rattle.ceilings.specs.kernel_laws.declared.question_types.kind.CallKind.TheVariants.{ChangesMounts, RemovesMounts, SetsCaps, TakesUid}
use Rattle.ceilings.specs.kernel_laws.declared.question_types.power.Power.{Power}
use Rattle.ceilings.specs.kernel_laws.declared.question_types.power.Power.TheVariants.{None as Nowise, Unmount as Unmounting}
use Rattle.ceilings.specs.kernel_laws.declared.question_types.power.Power.TheVariants.{Mount as Mounting}
use Rattle.ceilings.specs.kernel_laws.Launched.{Launch, lets}
use Rattle.ceilings.proofs.OfKernelWays.Attained.{gathered_from}
use Rattle.open_calls.specs.chosen_calls.Gaining.{FileWay, Held, ByRun, ByCapset, CapWay, ByFile, ByRoot, AtOnce, Behind, gives_at_once}
use Rattle.open_calls.specs.chosen_calls.Gaining.{gives_by_capset, by_rows, by_launch, takes_root, cap_way, at_once, at_power, gain}
use Rattle.open_calls.proofs.Lists.{member_found}

-- there is one
abbrev pub Is : {X : Type 0} → Option X → Type 0
Is {X = X} o = (x : X) × (o ≡ Some x)

first_is : {X : Type 0} (one other : Option X) → Is one → Is (option_or one other)
first_is one other h = (h.0, ap (λ o. option_or o other) h.1)

second_is : {X : Type 0} (one other : Option X) → Is other → Is (option_or one other)
second_is None other h = h
second_is (Some x) other h = (x, refl)

mapped_is : {X Y : Type 0} (f : X → Y) (o : Option X) → Is o → Is (option_map f o)
mapped_is f o h = (f h.0, ap (option_map f) h.1)

-- ---- a way by a row
module _ (launch : Launch) (off : launch.creds.no_new_privs ≡ false) (power : Power) (number : ℕ) where
  abbrev runs : Option Row
  runs = find (λ row. gives_at_once launch number row && can_run launch power row) launch.site.rows

  abbrev sets : Option Row
  sets = find (λ row. gives_by_capset launch number row && can_run launch power row) launch.site.rows

  rows_are : by_rows launch power number ≡ option_or (option_map ByRun runs)
      (cond {A = Option FileWay} (lets launch SetsCaps) (option_map ByCapset sets) None)
  rows_are = ap (λ b. cond {A = Option FileWay} b None
      (option_or (option_map ByRun runs) (cond (lets launch SetsCaps) (option_map ByCapset sets) None))) off

  rows_is : Is (option_or (option_map ByRun runs) (cond {A = Option FileWay} (lets launch SetsCaps) (option_map ByCapset sets) None))
      → Is (by_rows launch power number)
  rows_is h = (h.0, rows_are ∙ h.1)

  by_run : (at : ℕ) (row : Row) → slice_get launch.site.rows at ≡ Some row → can_run launch power row ≡ true
      → gives_at_once launch number row ≡ true → Is (by_rows launch power number)
  by_run at row e c g =
      let f = member_found (λ row. gives_at_once launch number row && can_run launch power row) launch.site.rows at row e (and_from _ _ g c) in
      rows_is (first_is (option_map ByRun runs) (cond {A = Option FileWay} (lets launch SetsCaps) (option_map ByCapset sets) None)
      (mapped_is ByRun runs f))

  by_capset : (at : ℕ) (row : Row) → slice_get launch.site.rows at ≡ Some row → can_run launch power row ≡ true
      → lets launch SetsCaps ≡ true → gives_by_capset launch number row ≡ true → Is (by_rows launch power number)
  by_capset at row e c s g =
      let f = member_found (λ row. gives_by_capset launch number row && can_run launch power row) launch.site.rows at row e (and_from _ _ g c) in
      let m = mapped_is ByCapset sets f in
      let own : Is (cond {A = Option FileWay} (lets launch SetsCaps) (option_map ByCapset sets) None) = (m.0, ap (λ b. cond {A = Option FileWay} b (option_map ByCapset sets) None) s ∙ m.1) in
      rows_is (second_is (option_map ByRun runs) (cond {A = Option FileWay} (lets launch SetsCaps) (option_map ByCapset sets) None) own)

  by_file : (at : ℕ) (row : Row) → slice_get launch.site.rows at ≡ Some row → can_run launch power row ≡ true → (z : Bool)
      → is_owner 0 row.setuid ≡ z → (b : Bool) → row.effective ≡ b → (s : Bool) → lets launch SetsCaps ≡ s
      → has (cond z launch.creds.bounding (cond (b || s) (cut row.caps launch.creds.bounding) none)) number ≡ true
      → Is (by_rows launch power number)
  by_file at row e c true z b f s k h =
      by_run at row e c (or_left (is_owner 0 row.setuid && has launch.creds.bounding number) (row.effective && has row.caps number)
      (and_from _ _ z h))
  by_file at row e c false z true f s k h =
      let both = and_parts (has row.caps number) (has launch.creds.bounding number) (sym (has_cut row.caps launch.creds.bounding number) ∙ h) in
      by_run at row e c (or_right (is_owner 0 row.setuid && has launch.creds.bounding number) (row.effective && has row.caps number)
      (and_from _ _ f both.0))
  by_file at row e c false z false f true k h = by_capset at row e c k (and_from _ _ (ap not f) h)
  by_file at row e c false z false f false k h = let off' = has_none number in cc

  gained_by_rows : has (gathered (gain_at launch power) launch.site.rows) number ≡ true → Is (by_rows launch power number)
  gained_by_rows h =
      let f = gathered_from (gain_at launch power) launch.site.rows number h in
      by f.0 f.1 f.2 (can_run launch power f.1) refl f.3
    where
      by : (at : ℕ) (row : Row) → slice_get launch.site.rows at ≡ Some row → (c : Bool) → can_run launch power row ≡ c
          → has (cond c (file_gain launch row) none) number ≡ true → Is (by_rows launch power number)
      by at row e true c h = by_file at row e c (is_owner 0 row.setuid) refl row.effective refl (lets launch SetsCaps) refl h
      by at row e false c h = let off' = has_none number in cc

  pub before : has (caps_before launch power) number ≡ true → (has launch.creds.effective number ≡ true) ⊎ Is (by_rows launch power number)
  before h = by (or_cases _ _ (sym (has_union launch.creds.effective (gathered (gain_at launch power) launch.site.rows) number) ∙ h))
    where
      by : (has launch.creds.effective number ≡ true) ⊎ (has (gathered (gain_at launch power) launch.site.rows) number ≡ true)
          → (has launch.creds.effective number ≡ true) ⊎ Is (by_rows launch power number)
      by (inl held) = inl held
      by (inr rows) = inr (gained_by_rows rows)

-- ---- held at launch, or by a row of the launched table
module _ (launch : Launch) (number : ℕ) where
  pub held_is : has launch.creds.effective number ≡ true → Is (by_launch launch number)
  held_is h = (Held, ap (λ b. cond b (Some Held) (by_rows launch Nowise number)) h)

  pub launch_is : Is (by_rows launch Nowise number) → Is (by_launch launch number)
  launch_is h = by (has launch.creds.effective number)
    where
      by : (b : Bool) → Is (cond b (Some Held) (by_rows launch Nowise number))
      by true = (Held, refl)
      by false = h

  cap_own : (own setuid : Option FileWay) → Is own → Is (cap_way launch number own setuid)
  cap_own own setuid h = first_is (option_map ByFile own)
      (cond {A = Option CapWay} (takes_root launch number) (option_map ByRoot setuid) None) (mapped_is ByFile own h)

  cap_root : (own setuid : Option FileWay) → takes_root launch number ≡ true → Is setuid → Is (cap_way launch number own setuid)
  cap_root own setuid t h =
      let m = mapped_is ByRoot setuid h in
      let root : Is (cond {A = Option CapWay} (takes_root launch number) (option_map ByRoot setuid) None) = (m.0, ap (λ b. cond {A = Option CapWay} b (option_map ByRoot setuid) None) t ∙ m.1) in
      second_is (option_map ByFile own) (cond {A = Option CapWay} (takes_root launch number) (option_map ByRoot setuid) None) root

  pub once_own : Is (by_launch launch number) → Is (at_once launch number)
  unfolding at_once
  once_own h = cap_own (by_launch launch number) (by_launch launch 7) h

  pub once_root : takes_root launch number ≡ true → Is (by_launch launch 7) → Is (at_once launch number)
  unfolding at_once
  once_root t h = cap_root (by_launch launch number) (by_launch launch 7) t h

  pub power_own : Is (by_rows launch (power_of launch) number) → Is (at_power launch number)
  unfolding at_power
  power_own h = cap_own (by_rows launch (power_of launch) number) (by_rows launch (power_of launch) 7) h

  pub power_root : takes_root launch number ≡ true → Is (by_rows launch (power_of launch) 7) → Is (at_power launch number)
  unfolding at_power
  power_root t h = cap_root (by_rows launch (power_of launch) number) (by_rows launch (power_of launch) 7) t h

-- who takes uid 0 has the bounding set
root_takes : (launch : Launch) → launch.creds.no_new_privs ≡ false → (number : ℕ) → lets launch TakesUid ≡ true
    → has launch.creds.bounding number ≡ true → takes_root launch number ≡ true
root_takes launch off number t h = and_from _ _ (and_from _ _ (ap not off) t) h

-- what root adds, by its parts
root_parts : (launch : Launch) (before : Bool) (number : ℕ) → (t : Bool) → lets launch TakesUid ≡ t
    → has (when (before && t) launch.creds.bounding) number ≡ true
    → (before ≡ true) × (lets launch TakesUid ≡ true) × (has launch.creds.bounding number ≡ true)
root_parts launch true number true t h = (refl, t, h)
root_parts launch true number false t h = let off = has_none number in cc
root_parts launch false number true t h = let off = has_none number in cc
root_parts launch false number false t h = let off = has_none number in cc

module _ (launch : Launch) where
  -- on the launched table
  nowise_free : launch.creds.no_new_privs ≡ false → (number : ℕ)
      → has (with_root launch (lets launch TakesUid) (caps_before launch Nowise)) number ≡ true → Is (at_once launch number)
  nowise_free off number h =
      by (or_cases _ _ (sym
      (has_union (caps_before launch Nowise) (when (has (caps_before launch Nowise) 7 && lets launch TakesUid) launch.creds.bounding)
      number) ∙ h))
    where
      file_is : (other : ℕ) → has (caps_before launch Nowise) other ≡ true → Is (by_launch launch other)
      file_is other h = elim (before launch off Nowise other h)
          [ inl held ↦ held_is launch other held | inr rows ↦ launch_is launch other rows ]

      by : (has (caps_before launch Nowise) number ≡ true) ⊎
          (has (when (has (caps_before launch Nowise) 7 && lets launch TakesUid) launch.creds.bounding) number ≡ true)
          → Is (at_once launch number)
      by (inl own) = once_own launch number (file_is number own)
      by (inr root) =
          let parts = root_parts launch (has (caps_before launch Nowise) 7) number (lets launch TakesUid) refl root in
          once_root launch number (root_takes launch off number parts.1 parts.2) (file_is 7 parts.0)

  pub nowise_is : (number : ℕ) → has (caps_at launch Nowise) number ≡ true → Is (at_once launch number)
  nowise_is number h = by launch.creds.no_new_privs refl h
    where
      by : (n : Bool) → launch.creds.no_new_privs ≡ n
          → has (cond n launch.creds.effective (with_root launch (lets launch TakesUid) (caps_before launch Nowise))) number ≡ true
          → Is (at_once launch number)
      by true on h = once_own launch number (held_is launch number h)
      by false off h = nowise_free off number h

  -- with the launch's power
  power_free : launch.creds.no_new_privs ≡ false → (number : ℕ)
      → has (with_root launch (lets launch TakesUid) (caps_before launch (power_of launch))) number ≡ true
      → Is (at_once launch number) ⊎ Is (at_power launch number)
  power_free off number h =
      by (or_cases _ _ (sym
      (has_union (caps_before launch (power_of launch))
      (when (has (caps_before launch (power_of launch)) 7 && lets launch TakesUid) launch.creds.bounding) number) ∙ h))
    where
      by : (has (caps_before launch (power_of launch)) number ≡ true) ⊎
          (has (when (has (caps_before launch (power_of launch)) 7 && lets launch TakesUid) launch.creds.bounding) number ≡ true)
          → Is (at_once launch number) ⊎ Is (at_power launch number)
      by (inl own) = elim (before launch off (power_of launch) number own) [
        | inl held ↦ inl (once_own launch number (held_is launch number held))
        | inr rows ↦ inr (power_own launch number rows)
      ]
      by (inr root) =
          let parts = root_parts launch (has (caps_before launch (power_of launch)) 7) number (lets launch TakesUid) refl root in
          let takes = root_takes launch off number parts.1 parts.2 in
          elim (before launch off (power_of launch) 7 parts.0) [
            | inl held ↦ inl (once_root launch number takes (held_is launch 7 held))
            | inr rows ↦ inr (power_root launch number takes rows)
          ]

  -- CAP_SYS_ADMIN, where there is some power
  admin_by : (x m u : Bool) (power : Power) → has (caps_at launch Nowise) 21 ≡ x → power_by x m u ≡ power → (power ≡ Nowise → ⊥)
      → has (caps_at launch Nowise) 21 ≡ true
  admin_by true m u power e f n = e
  admin_by false m u power e f n = absurd (n (sym f))

  pub admin_is : (power_of launch ≡ Nowise → ⊥) → Is (at_once launch 21)
  admin_is n = nowise_is 21
      (admin_by (has (caps_at launch Nowise) 21) (lets launch ChangesMounts) (lets launch RemovesMounts) (power_of launch) refl refl n)

  gain_once : (number : ℕ) → Is (at_once launch number) → Is (gain launch number)
  gain_once number h = first_is (option_map AtOnce (at_once launch number))
      (option_and_then (λ admin. option_map (Behind admin) (at_power launch number)) (at_once launch 21))
      (mapped_is AtOnce (at_once launch number) h)

  gain_behind : (number : ℕ) → Is (at_once launch 21) → Is (at_power launch number) → Is (gain launch number)
  gain_behind number admin own =
      let m = mapped_is (Behind admin.0) (at_power launch number) own in
      let both : Is (option_and_then (λ admin. option_map (Behind admin) (at_power launch number)) (at_once launch 21)) = (m.0, ap (option_and_then (λ admin. option_map (Behind admin) (at_power launch number))) admin.1 ∙ m.1) in
      second_is (option_map AtOnce (at_once launch number))
      (option_and_then (λ admin. option_map (Behind admin) (at_power launch number)) (at_once launch 21)) both

  -- each capability of the ceiling
  pub gain_is : (number : ℕ) → has (caps_at launch (power_of launch)) number ≡ true → Is (gain launch number)
  gain_is number h = by_power (power_of launch) refl
    where
      by_mark : (power_of launch ≡ Nowise → ⊥) → (n : Bool) → launch.creds.no_new_privs ≡ n
          → has (cond n launch.creds.effective (with_root launch (lets launch TakesUid) (caps_before launch (power_of launch)))) number
          ≡ true → Is (gain launch number)
      by_mark some true on h = gain_once number (once_own launch number (held_is launch number h))
      by_mark some false off h = elim (power_free off number h)
          [ inl once ↦ gain_once number once | inr own ↦ gain_behind number (admin_is some) own ]

      by_some : (power_of launch ≡ Nowise → ⊥) → Is (gain launch number)
      by_some some = by_mark some launch.creds.no_new_privs refl h

      by_power : (power : Power) → power_of launch ≡ power → Is (gain launch number)
      by_power Nowise e = gain_once number (nowise_is number (ap (λ p. has (caps_at launch p) number) (sym e) ∙ h))
      by_power Unmounting e = by_some (λ none'. let no : Unmounting ≡ Nowise = sym e ∙ none' in cc)
      by_power Mounting e = by_some (λ none'. let no : Mounting ≡ Nowise = sym e ∙ none' in cc)
