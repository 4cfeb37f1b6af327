-- RestrictNamespaces=: the rules do what the setting says.
use Rattle.std.proofs.Common.{◌≡◌, ℕ, ◌+◌, ◌≤◌, Bool, true, false, cond, Option, Some, None, List, [], ◌∷◌, ◌++◌, length, map, refl, sym, ap, ◌∙◌}
use Rattle.std.proofs.Common.{arith, inl, codes}
use Rattle.std.specs.Prelude.{◌||◌, ◌&&◌, ◌==◌, not, filter, is_some, if◌then◌else◌}
use Rattle.std.specs.Option.{option_map_or, option_map, IfSome}
use Rattle.std.specs.List.{list_any}
use Rattle.std.specs.Str.{bytes_eq}
use Rattle.std.proofs.lemmas.List.{length-map, length-append}
use Rattle.std.proofs.lemmas.List.Folds.{list_any-append}
use Rattle.std.proofs.lemmas.Slice.Eq.{bytes_eq-Decides}
use Rattle.dropin_merge.specs.unit_names.declared.version.Version.{Version}
use Rattle.call_rules.specs.bpf_code.declared.machine.CallData.{CallData}
use Rattle.call_rules.specs.Tested.{Tested}
use Rattle.call_rules.specs.Action.{test_holds}
use Rattle.filter_settings.specs.declared.filter_rules.namespace_types.NamespaceTypes.{NamespaceTypes}
use Rattle.filter_settings.specs.filter_rules.NamespaceTypes.{all_types, permits}
use Rattle.dropin_merge.specs.linux_numbers.Errnos.{eperm, enosys}
use Rattle.call_rules.specs.declared.actions.Action.TheVariants.{Errno, Allow}
use Rattle.filter_settings.specs.declared.filter_rules.choice.Choice.{Choice}
use Rattle.filter_settings.specs.filter_rules.Actions.{unless_refused, low, has_bits, is_one_of}
use Rattle.filter_settings.specs.filter_rules.Choices.{choice_action, always, bits, whole, refused_where}
use Rattle.filter_settings.specs.filter_rules.Namespaces.{forbidden_types, types_argument, has_forbidden, enters_any, refuses_namespace}
use Rattle.filter_settings.specs.filter_rules.Namespaces.{clone_newtime, makes_time, namespace_action}
use Rattle.filter_settings.specs.filter_rules.NamespacesChoice.{any_type_tests, flag_test, namespace_tests, namespaces_choice}
use Rattle.filter_settings.specs.filter_rules.NamespacesChoice.{time_tests, namespaces_choice_in}
use Rattle.filter_settings.proofs.Mapped.{list_any-map}
use Rattle.filter_settings.proofs.LowWords.{or_false, whole_holds}
use Rattle.filter_settings.proofs.Suited.{IsSmall, AreSmall}
use Rattle.filter_settings.proofs.Counted.{AreAmong}

any_type : (input : CallData) (setns : Bool) → list_any (test_holds input) (if setns then whole 1 0 ∷ [] else [])
    ≡ (setns && low input 1 == 0)
any_type input true = or_false (test_holds input (whole 1 0)) ∙ whole_holds input 1 0
any_type input false = refl

some_test : (types : NamespaceTypes) (name : List ℕ) (input : CallData) (at : ℕ)
    → list_any (test_holds input) (namespace_tests types name at) ≡ (enters_any name input || has_forbidden types (low input at))
some_test types name input at =
    list_any-append (test_holds input) (any_type_tests name) (map (flag_test at) (forbidden_types types))
    ∙ ap (λ b. b || list_any (test_holds input) (map (flag_test at) (forbidden_types types)))
    (any_type input (bytes_eq name (codes "setns")))
    ∙ ap (λ b. enters_any name input || b) (list_any-map (test_holds input) (flag_test at) (forbidden_types types))

abbrev argument_by : Bool → Bool → Option ℕ
argument_by one other = if one then Some 0 else if other then Some 1 else None

-- a call without an argument for the flags is not setns(2)
none_enters : (one other : Bool) (zero_type : Bool) → argument_by one other ≡ None → ((other && zero_type) || false) ≡ false
none_enters true other zero_type e = cc
none_enters false true zero_type e = cc
none_enters false false zero_type e = refl

by_argument : (types : NamespaceTypes) (name : List ℕ) (input : CallData) (at : Option ℕ) → types_argument name ≡ at →
    option_map_or (choice_action input) (option_map (λ at. refused_where (namespace_tests types name at)) at) Allow
    ≡ unless_refused eperm (enters_any name input || option_map_or (λ at. has_forbidden types (low input at)) at false)
by_argument types name input None e = ap (unless_refused eperm)
    (sym (none_enters (is_one_of name (codes "unshare" ∷ codes "clone" ∷ [])) (bytes_eq name (codes "setns")) (low input 1 == 0) e))
by_argument types name input (Some at) e = ap (unless_refused eperm) (some_test types name input at)

namespaces_means : (types : NamespaceTypes) (name : List ℕ) (input : CallData)
    → option_map_or (choice_action input) (namespaces_choice types name) Allow ≡ unless_refused eperm (refuses_namespace types name input)
namespaces_means types name input = by_argument types name input (types_argument name) refl

pub length_filter_le : {X : Type 0} (test : X → Bool) (xs : List X) → length (filter test xs) ≤ length xs
length_filter_le test [] = omega arith
length_filter_le test (x ∷ xs) =
    let rest : length (filter test xs) ≤ length xs = length_filter_le test xs in
    elim (test x) as (λ b. length (cond b (x ∷ filter test xs) (filter test xs)) ≤ length (x ∷ xs))
    [ true ↦ omega arith | false ↦ omega arith ]

few_types : (types : NamespaceTypes) → length (forbidden_types types) ≤ 7
few_types types = length_filter_le (λ kind. not (permits types kind)) all_types

few_any : (setns : Bool) → length {A = Tested} (if setns then whole 1 0 ∷ [] else []) ≤ 1
few_any true = omega arith
few_any false = omega arith

few_tests : (types : NamespaceTypes) (name : List ℕ) (at : ℕ) → length (namespace_tests types name at) ≤ 8
few_tests types name at =
    omega (arith, length-append (any_type_tests name) (map (flag_test at) (forbidden_types types)), length-map (forbidden_types types) (flag_test at), few_types types, few_any (bytes_eq name (codes "setns")))

namespaces_small : (types : NamespaceTypes) → AreSmall 8 1 0 (namespaces_choice types)
namespaces_small types name = one (types_argument name)
  where
    one : (at : Option ℕ) → IfSome (option_map (λ at. refused_where (namespace_tests types name at)) at) (IsSmall 8 1 0)
    one None = tt
    one (Some at) = record { cases_fit = few_tests types name at; tests_fit = omega arith; wide_fits = omega arith; short = inl (few_tests types name at) }

-- by the rules of a version of systemd
time_test : (input : CallData) (clone : Bool) → list_any (test_holds input) (if clone then bits 0 clone_newtime ∷ [] else [])
    ≡ (clone && has_bits (low input 0) clone_newtime)
time_test input true = or_false (test_holds input (bits 0 clone_newtime))
time_test input false = refl

some_test_in : (types : NamespaceTypes) (name : List ℕ) (input : CallData) (at : ℕ)
    → list_any (test_holds input) (namespace_tests types name at ++ time_tests name)
    ≡ ((enters_any name input || has_forbidden types (low input at)) || makes_time name input)
some_test_in types name input at =
    list_any-append (test_holds input) (namespace_tests types name at) (time_tests name)
    ∙ ap (λ b. b || list_any (test_holds input) (time_tests name)) (some_test types name input at)
    ∙ ap (λ b. (enters_any name input || has_forbidden types (low input at)) || b) (time_test input (bytes_eq name (codes "clone")))

-- a call without an argument for the flags is not clone(2) either
none_makes : (unshare clone other zero_type time : Bool) → argument_by (unshare || (clone || false)) other ≡ None
    → (((other && zero_type) || false) || (clone && time)) ≡ false
none_makes true clone other zero_type time e = cc
none_makes false true other zero_type time e = cc
none_makes false false true zero_type time e = cc
none_makes false false false zero_type time e = refl

by_argument_in : (types : NamespaceTypes) (name : List ℕ) (input : CallData) (at : Option ℕ) → types_argument name ≡ at →
    option_map_or (choice_action input) (option_map (λ at. refused_where (namespace_tests types name at ++ time_tests name)) at) Allow
    ≡ unless_refused eperm ((enters_any name input || option_map_or (λ at. has_forbidden types (low input at)) at false) || makes_time name input)
by_argument_in types name input None e = ap (unless_refused eperm)
    (sym (none_makes (bytes_eq name (codes "unshare")) (bytes_eq name (codes "clone")) (bytes_eq name (codes "setns")) (low input 1 == 0)
    (has_bits (low input 0) clone_newtime) e))
by_argument_in types name input (Some at) e = ap (unless_refused eperm) (some_test_in types name input at)

pub namespaces_means_in : (systemd : Option Version) (types : NamespaceTypes) (name : List ℕ) (input : CallData)
    → option_map_or (choice_action input) (namespaces_choice_in systemd types name) Allow ≡ namespace_action systemd types name input
namespaces_means_in None types name input = namespaces_means types name input
namespaces_means_in (Some version) types name input = by (bytes_eq name (codes "clone3"))
  where
    by : (b : Bool) → option_map_or (choice_action input)
        (if b then Some (always (Errno enosys)) else option_map (λ at. refused_where (namespace_tests types name at ++ time_tests name)) (types_argument name)) Allow
        ≡ (if b then Errno enosys else unless_refused eperm (refuses_namespace types name input || makes_time name input))
    by true = refl
    by false = by_argument_in types name input (types_argument name) refl

-- setns(2) is not clone(2)
few_extra : (name : List ℕ) → length (any_type_tests name) + length (time_tests name) ≤ 1
few_extra name = by (bytes_eq name (codes "setns")) (bytes_eq name (codes "clone")) refl refl
  where
    by : (setns clone : Bool) → bytes_eq name (codes "setns") ≡ setns → bytes_eq name (codes "clone") ≡ clone
        → length {A = Tested} (if setns then whole 1 0 ∷ [] else []) + length {A = Tested} (if clone then bits 0 clone_newtime ∷ [] else []) ≤ 1
    by true true e f =
        let apart : bytes_eq (codes "setns") (codes "clone") ≡ true = ap (λ own. bytes_eq own (codes "clone")) (sym ((bytes_eq-Decides name (codes "setns")).0 e)) ∙ f in
        cc
    by true false e f = omega arith
    by false true e f = omega arith
    by false false e f = omega arith

few_tests_in : (types : NamespaceTypes) (name : List ℕ) (at : ℕ) → length (namespace_tests types name at ++ time_tests name) ≤ 8
few_tests_in types name at =
    omega (arith, length-append (namespace_tests types name at) (time_tests name), length-append (any_type_tests name) (map (flag_test at) (forbidden_types types)), length-map (forbidden_types types) (flag_test at), few_types types, few_extra name)

pub namespaces_small_in : (systemd : Option Version) (types : NamespaceTypes) → AreSmall 8 1 0 (namespaces_choice_in systemd types)
namespaces_small_in None types name = namespaces_small types name
namespaces_small_in (Some version) types name = by (bytes_eq name (codes "clone3")) (types_argument name)
  where
    by : (b : Bool) (at : Option ℕ) → IfSome
        (if b then Some (always (Errno enosys)) else option_map (λ at. refused_where (namespace_tests types name at ++ time_tests name)) at) (IsSmall 8 1 0)
    by true at = record { cases_fit = omega arith; tests_fit = omega arith; wide_fits = omega arith; short = inl (omega arith) }
    by false None = tt
    by false (Some at) = record { cases_fit = few_tests_in types name at; tests_fit = omega arith; wide_fits = omega arith; short = inl (few_tests_in types name at) }

pub namespaces_names : List (List ℕ)
namespaces_names = codes "clone3" ∷ codes "unshare" ∷ codes "clone" ∷ codes "setns" ∷ []

pub length_namespaces_names : length namespaces_names ≡ 4
unfolding namespaces_names
length_namespaces_names = refl

-- a choice by the argument with the flags
among_by : (make : ℕ → Choice) (later a b c : Bool)
    → is_some (option_map make (if a || (b || false) then Some 0 else if c then Some 1 else None)) ≡ true
    → (later || (a || (b || (c || false)))) ≡ true
among_by make true a b c h = refl
among_by make false true b c h = refl
among_by make false false true c h = refl
among_by make false false false true h = refl
among_by make false false false false h = h

pub namespaces_among_in : (systemd : Option Version) (types : NamespaceTypes) → AreAmong namespaces_names (namespaces_choice_in systemd types)
unfolding namespaces_names
namespaces_among_in None types name h =
    among_by (λ at. refused_where (namespace_tests types name at)) (bytes_eq name (codes "clone3")) (bytes_eq name (codes "unshare"))
    (bytes_eq name (codes "clone")) (bytes_eq name (codes "setns")) h
namespaces_among_in (Some version) types name h = by (bytes_eq name (codes "clone3")) h
  where
    by : (b : Bool) → is_some (if b then Some (always (Errno enosys)) else option_map (λ at. refused_where (namespace_tests types name at ++ time_tests name)) (types_argument name)) ≡ true
        → (b || (bytes_eq name (codes "unshare") || (bytes_eq name (codes "clone") || (bytes_eq name (codes "setns") || false)))) ≡ true
    by true h = refl
    by false h = among_by (λ at. refused_where (namespace_tests types name at ++ time_tests name)) false (bytes_eq name (codes "unshare"))
        (bytes_eq name (codes "clone")) (bytes_eq name (codes "setns")) h
