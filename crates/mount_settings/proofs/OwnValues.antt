-- The values of one key, among all that are assigned, are its own.
use Rattle.std.proofs.Common.{◌≡◌, ℕ, true, false, cond, Option, Some, None, List, [], ◌∷◌, ◌++◌, map, refl, sym, ap, ◌∙◌}
use Rattle.std.specs.Prelude.{◌||◌, filter, option_and_then}
use Rattle.std.specs.List.{cons_option, filter_map, list_any}
use Rattle.std.specs.Option.{option_map}
use Rattle.std.specs.Str.{bytes_eq}
use Rattle.std.proofs.lemmas.List.{map-append}
use Rattle.std.proofs.lemmas.List.Elements.{filter-append}
use Rattle.std.proofs.lemmas.Slice.Eq.{bytes_eq-Decides}
use Rattle.path_settings.specs.declared.keys.PathKey.{PathKey}
use Rattle.path_settings.specs.declared.dialect.Dialect.{Dialect}
use Rattle.path_settings.specs.declared.dialect.Dialect.TheVariants.{Base}
use Rattle.path_settings.specs.Keys.{is_named, is_of_base, key_named, name_of, path_keys}
use Rattle.path_settings.proofs.Named.{found_named, found_passes}
use Rattle.dropin_merge.specs.unit_grammar.declared.unit.Assignment.{Assignment}
use Rattle.dropin_merge.specs.unit_names.Names.{Name}
use Rattle.dropin_merge.specs.unit_names.declared.version.Version.{Version}
use Rattle.dropin_merge.specs.declared.resolved.Resolved.{Resolved}
use Rattle.dropin_merge.specs.declared.unit_values.value.Value.{Value}
use Rattle.dropin_merge.specs.declared.unit_values.value.Place.{Place}
use Rattle.dropin_merge.specs.unit_values.Assignments.{service_assignments}
use Rattle.dropin_merge.specs.unit_values.Values.{expanded_at, given_by, values_of}
use Rattle.mount_settings.specs.Assigned.{Assigned, is_key, given_to, assigned_by, assigned_of, dialect_of}
use Rattle.mount_settings.specs.OneKey.{values_named, values_to}
use Rattle.mount_settings.proofs.SameKeys.{is_itself, same_key}

-- the value of an assignment, if it is to the key
abbrev own : PathKey → Option Assigned → Option Value
own key None = None
own key (Some one) = cond (is_key one.key key) (Some one.value) None

own_given : (key : PathKey) (value : Option Value) → own key (option_map (λ v. record { key = key; value = v }) value) ≡ value
own_given key None = refl
own_given key (Some value) = ap (λ b. cond b (Some value) None) (is_itself key)

other_given : (key other : PathKey) (value : Option Value) → is_key other key ≡ false
    → own key (option_map (λ v. record { key = other; value = v }) value) ≡ None
other_given key other None e = refl
other_given key other (Some value) e = ap (λ b. cond b (Some value) None) e

true≡false : true ≡ false → ⊥
true≡false e = let bad : ⊥ = cc in bad

-- a key that is found for a name and is not the key of that name is another key
not_same : (dialect : Dialect) (key other : PathKey) (name : List ℕ) → is_named dialect name other ≡ true
    → is_named dialect name key ≡ false → is_key other key ≡ false
not_same dialect key other name is not =
    (elim (is_key other key) as (λ b. is_key other key ≡ b → b ≡ false) [
      | true ↦ λ same. absurd (true≡false (sym is ∙ ap (is_named dialect name) (same_key other key same) ∙ not))
      | false ↦ λ e. refl
    ]) refl

-- an assignment of the service
own_assigned : (systemd : Option Version) (name : Name) (one : Place × Assignment) (key : PathKey)
    → own key (assigned_by systemd name one) ≡ cond (is_named (dialect_of systemd) one.1.key key) (expanded_at systemd name one) None
own_assigned systemd name one key =
    let dialect = dialect_of systemd in
    (elim (is_named dialect one.1.key key) as (λ b. is_named dialect one.1.key key ≡ b
    → own key (option_and_then (given_to systemd name one) (key_named dialect one.1.key)) ≡ cond b (expanded_at systemd name one) None) [
      | true ↦ λ is.
          ap (λ found. own key (option_and_then (given_to systemd name one) found)) (found_named dialect key one.1.key is)
          ∙ own_given key (expanded_at systemd name one)
      | false ↦ λ not.
          (elim (key_named dialect one.1.key) as (λ found. key_named dialect one.1.key ≡ found
          → own key (option_and_then (given_to systemd name one) found) ≡ None) [
            | None ↦ λ e. refl
            | Some other ↦ λ e. other_given key other (expanded_at systemd name one)
                (not_same dialect key other one.1.key (found_passes (is_named dialect one.1.key) path_keys other e) not)
          ]) refl
    ]) refl

one_own : (key : PathKey) (one : Option Assigned) (rest : List Assigned)
    → values_to key (cons_option one rest) ≡ cons_option (own key one) (values_to key rest)
one_own key None rest = refl
one_own key (Some one) rest =
    elim (is_key one.key key) as
    (λ b. map (λ (other : Assigned). other.value)
    (cond b (one ∷ filter (λ other. is_key other.key key) rest) (filter (λ other. is_key other.key key) rest))
    ≡ cons_option (cond b (Some one.value) None) (values_to key rest)) [ true ↦ refl | false ↦ refl ]

own_over : (systemd : Option Version) (name : Name) (key : PathKey) (ones : List (Place × Assignment))
    → values_to key (filter_map (assigned_by systemd name) ones)
    ≡ filter_map (λ one. cond (is_named (dialect_of systemd) one.1.key key) (expanded_at systemd name one) None) ones
own_over systemd name key [] = refl
own_over systemd name key (one ∷ ones) =
    let by_name : Place × Assignment → Option Value = λ each. cond (is_named (dialect_of systemd) each.1.key key) (expanded_at systemd name each) None in
    one_own key (assigned_by systemd name one) (filter_map (assigned_by systemd name) ones)
    ∙ ap (λ rest. cons_option (own key (assigned_by systemd name one)) rest) (own_over systemd name key ones)
    ∙ ap (λ first. cons_option first (filter_map by_name ones)) (own_assigned systemd name one key)

pub values_add : (key : PathKey) (xs ys : List Assigned) → values_to key (xs ++ ys) ≡ values_to key xs ++ values_to key ys
values_add key xs ys =
    ap (map (λ one. one.value)) (filter-append (λ one. is_key one.key key) xs ys)
    ∙ map-append (λ (one : Assigned). one.value) (filter (λ one. is_key one.key key) xs) (filter (λ one. is_key one.key key) ys)

pub own_values : (unit : Resolved) (key : PathKey) → values_to key (assigned_of unit) ≡ values_named unit key
own_values unit key = own_over unit.systemd unit.name key (service_assignments unit)

-- ---- the base profile knows one name of a key
one_name : (key : PathKey) (text : List ℕ) → is_of_base key ≡ true → is_named Base text key ≡ bytes_eq text (name_of key)
one_name key text base =
    ap (λ b. list_any (λ name. bytes_eq name text) (cond b (name_of key ∷ []) [])) base ∙ turned (name_of key) text
  where
    turned : (one other : List ℕ) → (bytes_eq one other || false) ≡ bytes_eq other one
    turned one other =
        (elim (bytes_eq one other) as (λ b. bytes_eq one other ≡ b → (b || false) ≡ bytes_eq other one) [
          | true ↦ λ is. sym ((bytes_eq-Decides other one).1 (sym ((bytes_eq-Decides one other).0 is)))
          | false ↦ λ not.
              (elim (bytes_eq other one) as (λ b. bytes_eq other one ≡ b → false ≡ b) [
                | true ↦ λ is. absurd
                    (true≡false (sym ((bytes_eq-Decides one other).1 (sym ((bytes_eq-Decides other one).0 is))) ∙ not))
                | false ↦ λ e. refl
              ]) refl
        ]) refl

base_over : (name : Name) (key : PathKey) (ones : List (Place × Assignment)) → is_of_base key ≡ true
    → filter_map (λ one. cond (is_named Base one.1.key key) (expanded_at None name one) None) ones
    ≡ filter_map (given_by None name (name_of key)) ones
base_over name key [] base = refl
base_over name key (one ∷ ones) base =
    ap (λ b. cons_option (cond b (expanded_at None name one) None)
    (filter_map (λ each. cond (is_named Base each.1.key key) (expanded_at None name each) None) ones)) (one_name key one.1.key base)
    ∙ ap (λ rest. cons_option (given_by None name (name_of key) one) rest) (base_over name key ones base)

pub base_values : (unit : Resolved) (key : PathKey) → unit.systemd ≡ None → is_of_base key ≡ true
    → values_named unit key ≡ values_of unit (name_of key)
base_values unit key none base =
    ap (λ systemd. filter_map (λ one. cond (is_named (dialect_of systemd) one.1.key key) (expanded_at systemd unit.name one) None)
    (service_assignments unit)) none
    ∙ base_over unit.name key (service_assignments unit) base
    ∙ sym (ap (λ systemd. filter_map (given_by systemd unit.name (name_of key)) (service_assignments unit)) none)
