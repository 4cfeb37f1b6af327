-- RestrictNamespaces= after one more value.
use Rattle.std.proofs.Common.{◌≡◌, ℕ, ◌+◌, ◌<◌, Bool, true, false, cond, List, [], ◌∷◌, ◌++◌, length, take, get_or, refl, ap, ◌∙◌, append-nil}
use Rattle.std.specs.Prelude.{◌||◌, ◌&&◌, not, unwrap_or, filter, Option}
use Rattle.std.specs.List.{filter_map, list_any}
use Rattle.std.proofs.lemmas.List.Folds.{list_any-append}
use Rattle.std.proofs.lemmas.List.Elements.{filter-append}
use Rattle.dropin_merge.specs.unit_grammar.Before.{with_before, last_of}
use Rattle.dropin_merge.proofs.OfUnitGrammar.Befores.{last_more}
use Rattle.dropin_merge.specs.unit_names.declared.version.Version.{Version}
use Rattle.dropin_merge.specs.declared.unit_values.listed.Listed.{Listed}
use Rattle.dropin_merge.specs.unit_values.Listed.{is_reset}
use Rattle.dropin_merge.proofs.OneMore.{after_last-push, take_item, unwrap_later}
use Rattle.filter_settings.specs.linux_numbers.declared.namespaces.NamespaceType.{NamespaceType}
use Rattle.filter_settings.specs.linux_numbers.declared.namespaces.NamespaceType.TheVariants.{Cgroup, Ipc, Net, Mnt, Pid, User, Uts}
use Rattle.filter_settings.specs.Lines.{in_force}
use Rattle.filter_settings.specs.Namespaces.{begins, counts, is_begun, says_of, is_permitted, types_by, namespaces_of}
use Rattle.filter_settings.specs.Steps.{next_types, types_behind, next_begun, begun_behind}

-- the same types, type by type
types_same : (f g : NamespaceType → Bool) → ((kind : NamespaceType) → f kind ≡ g kind) → types_by f ≡ types_by g
types_same f g h =
    let a = h Cgroup in
    let b = h Ipc in
    let c = h Net in
    let d = h Mnt in
    let e = h Pid in
    let k = h User in
    let m = h Uts in
    cc

-- an empty value resets
begun_cond : (systemd : Option Version) (b : Bool) (all : List Listed) (one : Listed)
    → list_any (begins systemd) (cond b [] (all ++ one ∷ [])) ≡ (not b && (list_any (begins systemd) all || begins systemd one))
begun_cond systemd true all one = refl
begun_cond systemd false all one = list_any-append (begins systemd) all (one ∷ [])
    ∙ ap (λ b. list_any (begins systemd) all || b) (or_false (begins systemd one))
  where
    or_false : (b : Bool) → (b || false) ≡ b
    or_false true = refl
    or_false false = refl

module _ (systemd : Option Version) where
  permitted_next : (all : List Listed) (one : Listed) (kind : NamespaceType)
      → is_permitted systemd (all ++ one ∷ []) kind ≡ unwrap_or (says_of systemd kind (all, one)) (is_permitted systemd all kind)
  permitted_next all one kind =
      ap (λ o. unwrap_or o true) (last_more (says_of systemd kind) all one)
      ∙ unwrap_later (says_of systemd kind (all, one)) (last_of (filter_map (says_of systemd kind) (with_before [] all))) true

  -- one more value, which may be ignored
  abbrev counted : List Listed → List Listed
  counted all = filter (counts systemd) all

  counted_next : (all : List Listed) (i : ℕ) (one : Listed) → i < length all → one ≡ get_or all i one
      → counted (take (i + 1) all) ≡ counted (take i all) ++ cond (counts systemd one) (one ∷ []) []
  counted_next all i one lt is = ap counted (take_item all i one lt is) ∙ filter-append (counts systemd) (take i all) (one ∷ [])

  types_more : (b : Bool) (all : List Listed) (one : Listed) → types_by (is_permitted systemd (all ++ cond b (one ∷ []) []))
      ≡ cond b (next_types (is_begun systemd all) one (types_by (is_permitted systemd all))) (types_by (is_permitted systemd all))
  types_more true all one = types_same (is_permitted systemd (all ++ one ∷ []))
      (λ kind. unwrap_or (says_of systemd kind (all, one)) (is_permitted systemd all kind)) (permitted_next all one)
  types_more false all one = ap (λ (own : List Listed). types_by (is_permitted systemd own)) (append-nil all)

  pub namespaces_next : (all : List Listed) (i : ℕ) (one : Listed) → i < length all → one ≡ get_or all i one
      → namespaces_of systemd (take (i + 1) all)
      ≡ types_behind systemd (is_begun systemd (counted (take i all))) one (namespaces_of systemd (take i all))
  namespaces_next all i one lt is =
      ap (λ (own : List Listed). types_by (is_permitted systemd own)) (counted_next all i one lt is)
      ∙ types_more (counts systemd one) (counted (take i all)) one

  begun_more : (b : Bool) (all : List Listed) (one : Listed) → is_begun systemd (all ++ cond b (one ∷ []) [])
      ≡ cond b (next_begun systemd (is_begun systemd all) one) (is_begun systemd all)
  begun_more true all one = ap (list_any (begins systemd)) (after_last-push is_reset all one)
      ∙ begun_cond systemd (is_reset one) (in_force all) one
  begun_more false all one = ap (is_begun systemd) (append-nil all)

  pub begun_next : (all : List Listed) (i : ℕ) (one : Listed) → i < length all → one ≡ get_or all i one
      → is_begun systemd (counted (take (i + 1) all)) ≡ begun_behind systemd (is_begun systemd (counted (take i all))) one
  begun_next all i one lt is = ap (is_begun systemd) (counted_next all i one lt is) ∙ begun_more (counts systemd one) (counted (take i all)) one
