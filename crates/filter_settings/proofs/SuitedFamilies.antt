-- RestrictAddressFamilies=: the rules do what the setting says.
use Rattle.std.proofs.Common.{◌≡◌, ℕ, ◌≤◌, Bool, true, false, cond, eqb, Option, Some, None, List, [], ◌∷◌, length, map, find, reverse}
use Rattle.std.proofs.Common.{refl, sym, ap, ◌∙◌, arith, inr, codes, subst}
use Rattle.std.specs.Prelude.{◌||◌, ◌&&◌, ◌==◌, not, filter, is_some, if◌then◌else◌, option_and_then}
use Rattle.std.specs.Option.{option_map_or, IfSome, ForSome}
use Rattle.std.specs.List.{list_any, All, AllByRecursion}
use Rattle.std.specs.Str.{bytes_eq}
use Rattle.std.proofs.lemmas.Bool.{eqb-true, eq-eqb}
use Rattle.std.proofs.lemmas.List.{length-map}
use Rattle.std.proofs.lemmas.List.Elements.{recursion_from_All}
use Rattle.std.proofs.lemmas.List.Sorted.{All-permutation, IsPermutation-reverse}
use Rattle.std.proofs.lemmas.Map.Views.{any-filter_same}
use Rattle.call_rules.specs.bpf_code.declared.machine.CallData.{CallData}
use Rattle.dropin_merge.specs.unit_names.declared.version.Version.{Version}
use Rattle.call_rules.specs.declared.actions.Action.{Action}
use Rattle.call_rules.specs.declared.actions.Action.TheVariants as action
use Rattle.call_table.specs.Table.{Table}
use Rattle.call_table.specs.Lookups.{has_number}
use Rattle.call_table.specs.declared.listed.CallLine.{CallLine}
use Rattle.filter_settings.specs.declared.filter_rules.mentions.Mode.{Mode}
use Rattle.filter_settings.specs.declared.filter_rules.mentions.Mode.TheVariants.{Allow, Deny}
use Rattle.filter_settings.specs.declared.filter_rules.mentions.FamilyMention.{FamilyMention}
use Rattle.filter_settings.specs.declared.filter_rules.mentions.FamilyList.{FamilyList}
use Rattle.dropin_merge.specs.linux_numbers.Errnos.{eafnosupport}
use Rattle.filter_settings.specs.filter_rules.Actions.{unless_refused, meets}
use Rattle.filter_settings.specs.filter_rules.Choices.{choice_action, whole, by_value}
use Rattle.filter_settings.specs.filter_rules.Known.{IsKnown}
use Rattle.filter_settings.specs.filter_rules.Families.{last_family, is_listed_family, is_refused_by, refuses_family}
use Rattle.filter_settings.specs.filter_rules.FamiliesChoice.{family_tests, family_choice, socket_choice, families_choice}
use Rattle.filter_settings.proofs.Mapped.{list_any-map}
use Rattle.filter_settings.proofs.WideValues.{by_value_means, wide_few}
use Rattle.filter_settings.proofs.Suited.{IsSmall, AreSmall}
use Rattle.filter_settings.proofs.SuitedNamespaces.{length_filter_le}
use Rattle.filter_settings.proofs.SuitedSimple.{one_name}
use Rattle.filter_settings.proofs.Counted.{AreAmong}

eqb_swap : (x y : ℕ) → eqb x y ≡ eqb y x
eqb_swap x y =
    elim (eqb y x) as (λ b. eqb y x ≡ b → eqb x y ≡ b) [
      | true ↦ λ e. eq-eqb x y (sym (eqb-true y x e))
      | false ↦ λ e. elim (eqb x y) as (λ b. eqb x y ≡ b → b ≡ false)
          [ true ↦ λ f. sym (eq-eqb y x (sym (eqb-true x y f))) ∙ e | false ↦ λ f. refl ] refl
    ] refl

-- the word that decides is known
known_of : (table : Table) (number : ℕ) (mentions : List FamilyMention) → AllByRecursion (IsKnown table) mentions
    → is_some (find (λ mention. mention.number == number) mentions) ≡ true → list_any (has_number number) table.families ≡ true
known_of table number [] h some = cc
known_of table number (mention ∷ mentions) h some =
    elim (mention.number == number) as (λ b. (mention.number == number) ≡ b
    → is_some (cond b (Some mention) (find (λ mention. mention.number == number) mentions)) ≡ true
    → list_any (has_number number) table.families ≡ true) [
      | true ↦ λ e some. subst (λ n. list_any (has_number n) table.families ≡ true) (eqb-true mention.number number e) h.0
      | false ↦
          λ e some. known_of table number mentions h.1 some
    ] refl some

-- the table has each listed family
listed_known : (table : Table) (mentions : List FamilyMention) (number : ℕ) → All (IsKnown table) mentions
    → (is_listed_family mentions number && list_any (has_number number) table.families) ≡ is_listed_family mentions number
listed_known table mentions number h =
    by_word (last_family mentions number)
    (known_of table number (reverse mentions)
    (recursion_from_All (IsKnown table) (reverse mentions)
    (All-permutation (IsKnown table) mentions (reverse mentions) (IsPermutation-reverse mentions) h)))
  where
    by_word : (o : Option FamilyMention) → (is_some o ≡ true → list_any (has_number number) table.families ≡ true)
        → (option_map_or (λ mention. mention.adds) o false && list_any (has_number number) table.families)
        ≡ option_map_or (λ mention. mention.adds) o false
    by_word None k = refl
    by_word (Some mention) k = ap (λ b. mention.adds && b) (k refl) ∙ both mention.adds
      where
        both : (b : Bool) → (b && true) ≡ b
        both true = refl
        both false = refl

any_agree : {X : Type 0} (test other : X → Bool) (xs : List X) → ((x : X) → test x ≡ other x) → list_any test xs ≡ list_any other xs
any_agree test other [] h = refl
any_agree test other (x ∷ xs) h = ap (λ b. b || list_any test xs) (h x) ∙ ap (λ b. other x || b) (any_agree test other xs h)

-- the numbers of the listed families
abbrev listed_numbers : List FamilyMention → List CallLine → List ℕ
listed_numbers mentions families = map (λ family. family.number) (filter (λ family. is_listed_family mentions family.number) families)

map-map : (families : List CallLine) → map (λ family. whole 0 family.number) families
    ≡ map (whole 0) (map (λ family. family.number) families)
map-map [] = refl
map-map (family ∷ families) = ap (λ ts. whole 0 family.number ∷ ts) (map-map families)

-- a number is one of them exactly where its family is listed
some_family : (table : Table) (mentions : List FamilyMention) (number : ℕ) → All (IsKnown table) mentions
    → list_any (λ value. number == value) (listed_numbers mentions table.families) ≡ is_listed_family mentions number
some_family table mentions number h =
    list_any-map (λ value. number == value) (λ family. family.number)
    (filter (λ family. is_listed_family mentions family.number) table.families)
    ∙ any_agree (λ family. number == family.number) (has_number number)
    (filter (λ family. is_listed_family mentions family.number) table.families)
    (λ family. eqb_swap number family.number)
    ∙ any-filter_same (has_number number) (λ family. is_listed_family mentions family.number) (is_listed_family mentions number)
    (λ family e. ap (is_listed_family mentions) (eqb-true family.number number e)) table.families
    ∙ listed_known table mentions number h

by_mode : (systemd : Option Version) (mode : Mode) (values : List ℕ) (listed : ℕ → Bool) (input : CallData)
    → ((word : ℕ) → list_any (λ value. word == value) values ≡ listed word)
    → choice_action input (family_choice systemd mode (map (whole 0) values))
    ≡ unless_refused eafnosupport (is_refused_by mode (meets systemd input 0 listed))
by_mode systemd Allow values listed input h =
    by_value_means systemd input 0 values listed action.Allow (action.Errno eafnosupport) h ∙ turned (meets systemd input 0 listed)
  where
    turned : (b : Bool) → cond b action.Allow (action.Errno eafnosupport) ≡ cond (not b) (action.Errno eafnosupport) action.Allow
    turned true = refl
    turned false = refl
by_mode systemd Deny values listed input h =
    by_value_means systemd input 0 values listed (action.Errno eafnosupport) action.Allow h

pub families_mean : (systemd : Option Version) (table : Table) (families : Option FamilyList)
    → ForSome families (λ list. All (IsKnown table) list.mentions) → (name : List ℕ) (input : CallData) →
    option_map_or (choice_action input) (families_choice systemd table families name) action.Allow
    ≡ unless_refused eafnosupport (refuses_family systemd families name input)
families_mean systemd table families h name input = by_name (bytes_eq name (codes "socket")) families h
  where
    by_list : (families : Option FamilyList) → ForSome families (λ list. All (IsKnown table) list.mentions) →
        option_map_or (choice_action input) (option_and_then (λ list. Some (socket_choice systemd table list)) families) action.Allow
        ≡ unless_refused eafnosupport (option_map_or (λ list. is_refused_by list.mode (meets systemd input 0 (is_listed_family list.mentions))) families false)
    by_list None h = refl
    by_list (Some list) h =
        ap (λ tests. choice_action input (family_choice systemd list.mode tests))
        (map-map (filter (λ family. is_listed_family list.mentions family.number) table.families))
        ∙ by_mode systemd list.mode (listed_numbers list.mentions table.families) (is_listed_family list.mentions) input
        (λ word. some_family table list.mentions word (h list refl))

    by_name : (b : Bool) (families : Option FamilyList) → ForSome families (λ list. All (IsKnown table) list.mentions) →
        option_map_or (choice_action input) (if b then option_and_then (λ list. Some (socket_choice systemd table list)) families else None)
        action.Allow
        ≡ unless_refused eafnosupport (b && option_map_or (λ list. is_refused_by list.mode (meets systemd input 0 (is_listed_family list.mentions))) families false)
    by_name true families h = by_list families h
    by_name false families h = refl

few_families : (table : Table) (mentions : List FamilyMention) → length table.families ≤ 128
    → length (family_tests mentions table.families) ≤ 128
few_families table mentions few =
    omega (arith, length-map (filter (λ family. is_listed_family mentions family.number) table.families) (λ family. whole 0 family.number), length_filter_le (λ family. is_listed_family mentions family.number) table.families)

socket_small : (systemd : Option Version) (table : Table) (list : FamilyList) → length table.families ≤ 128
    → IsSmall 128 1 1 (socket_choice systemd table list)
socket_small systemd table list few = by_list_mode list.mode
  where
    are_whole : (action rest : Action)
        → IsSmall 128 1 1 (by_value systemd 0 (family_tests list.mentions table.families) action rest)
    are_whole action rest = record {
      cases_fit = few_families table list.mentions few;
      tests_fit = omega arith;
      wide_fits = wide_few systemd 0 rest;
      short =
          inr (record { alone = refl; at = 0; values = listed_numbers list.mentions table.families; are = map-map (filter (λ family. is_listed_family list.mentions family.number) table.families) });
    }

    by_list_mode : (mode : Mode) → IsSmall 128 1 1 (family_choice systemd mode (family_tests list.mentions table.families))
    by_list_mode Allow = are_whole action.Allow (action.Errno eafnosupport)
    by_list_mode Deny = are_whole (action.Errno eafnosupport) action.Allow

pub families_small : (systemd : Option Version) (table : Table) (families : Option FamilyList) → length table.families ≤ 128
    → AreSmall 128 1 1 (families_choice systemd table families)
families_small systemd table families few name = by_name (bytes_eq name (codes "socket")) families
  where
    by_name : (b : Bool) (families : Option FamilyList) → IfSome
        (if b then option_and_then (λ list. Some (socket_choice systemd table list)) families else None) (IsSmall 128 1 1)
    by_name true None = tt
    by_name true (Some list) = socket_small systemd table list few
    by_name false families = tt

pub families_among : (systemd : Option Version) (table : Table) (families : Option FamilyList)
    → AreAmong (codes "socket" ∷ []) (families_choice systemd table families)
families_among systemd table families = one_name (codes "socket") (families_choice systemd table families)
    (λ name e. ap (λ b. if b then option_and_then (λ list. Some (socket_choice systemd table list)) families else None) e)
