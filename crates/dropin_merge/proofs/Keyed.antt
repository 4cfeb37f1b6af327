-- The assignments to a key are in its bucket.
use Rattle.std.proofs.Common.{◌≡◌, ℕ, Bool, true, false, cond, Option, Some, None, List, [], ◌∷◌, ◌++◌, refl, sym, ap, ◌∙◌, append-nil}
use Rattle.std.specs.Prelude.{filter}
use Rattle.std.specs.List.{cons_option, filter_map}
use Rattle.std.specs.Str.{bytes_eq}
use Rattle.std.proofs.lemmas.Bool.{eq-eqb, false≢true}
use Rattle.std.proofs.lemmas.Slice.Eq.{bytes_eq-Decides}
use Rattle.unit_grammar.specs.declared.unit.Assignment.{Assignment}
use Rattle.dropin_merge.specs.declared.resolved.Resolved.{Resolved}
use Rattle.dropin_merge.specs.declared.resolved.UnitFile.{UnitFile}
use Rattle.dropin_merge.specs.declared.spots.Spot.{Spot}
use Rattle.dropin_merge.specs.declared.unit_values.value.Place.{Place}
use Rattle.dropin_merge.specs.Spots.{assignment_at, bucket_of, in_bucket}
use Rattle.dropin_merge.specs.unit_values.Assignments.{service_assignments}
use Rattle.dropin_merge.specs.unit_values.Service.{service_from}
use Rattle.dropin_merge.specs.unit_values.Values.{expanded_at, unexpanded_at, given_by, note_of, notes_of, values_of, written_by, written_values}

abbrev is_of_key : List ℕ → Place × Assignment → Bool
is_of_key key one = bytes_eq one.1.key key

-- ---- the bucket

-- a test after a wider one keeps what it keeps alone
after_wider : {X : Type 0} (p q : X → Bool) → ((x : X) → p x ≡ true → q x ≡ true) → (xs : List X) → filter p (filter q xs) ≡ filter p xs
after_wider p q wider [] = refl
after_wider p q wider (x ∷ xs) = by (q x) (p x) refl refl (after_wider p q wider xs)
  where
    by : (b c : Bool) → q x ≡ b → p x ≡ c → filter p (filter q xs) ≡ filter p xs
        → filter p (cond b (x ∷ filter q xs) (filter q xs)) ≡ cond c (x ∷ filter p xs) (filter p xs)
    by true true passes keeps same =
        ap (λ b. cond b (x ∷ filter p (filter q xs)) (filter p (filter q xs))) keeps ∙ ap (λ ys. x ∷ ys) same
    by true false passes fails same = ap (λ b. cond b (x ∷ filter p (filter q xs)) (filter p (filter q xs))) fails ∙ same
    by false false fails too same = same
    by false true fails keeps same = absurd (false≢true (sym fails ∙ wider x keeps))

in_its_bucket : (key : List ℕ) (one : Place × Assignment) → is_of_key key one ≡ true → in_bucket (bucket_of key) one ≡ true
in_its_bucket key one same = eq-eqb (bucket_of one.1.key) (bucket_of key) (ap bucket_of ((bytes_eq-Decides one.1.key key).0 same))

-- assignments have all that are to the key
abbrev pub HasAll : Resolved → List ℕ → List (Place × Assignment) → Type 0
HasAll unit key ones = filter (is_of_key key) ones ≡ filter (is_of_key key) (service_assignments unit)

-- the bucket of the key, alone, has them
pub bucket_has_all : (unit : Resolved) (key : List ℕ) (files : List UnitFile) (spots : List Spot) (none : List (Place × Assignment)) → files ≡ unit.files
    → filter_map (assignment_at unit.files) spots ≡ filter (in_bucket (bucket_of key)) (service_from 0 unit.files) → none ≡ []
    → HasAll unit key (filter_map (assignment_at files) spots ++ none)
unfolding service_assignments
bucket_has_all unit key files spots none same is empty =
    ap (λ all. filter (is_of_key key) (filter_map (assignment_at all) spots ++ none)) same
    ∙ ap (λ rest. filter (is_of_key key) (filter_map (assignment_at unit.files) spots ++ rest)) empty
    ∙ ap (filter (is_of_key key)) (append-nil (filter_map (assignment_at unit.files) spots))
    ∙ ap (filter (is_of_key key)) is
    ∙ after_wider (is_of_key key) (in_bucket (bucket_of key)) (in_its_bucket key) (service_from 0 unit.files)

pub all_has_all : (unit : Resolved) (key : List ℕ) (ones : List (Place × Assignment)) → ones ≡ service_assignments unit → HasAll unit key ones
all_has_all unit key ones same = ap (filter (is_of_key key)) same

-- ---- what assignments to a key give

-- elements that fail the test give nothing
gives_alone : {X Y : Type 0} (f : X → Option Y) (p : X → Bool) → ((x : X) → p x ≡ false → f x ≡ None) → (xs : List X)
    → filter_map f (filter p xs) ≡ filter_map f xs
gives_alone f p none [] = refl
gives_alone f p none (x ∷ xs) = by (p x) refl (gives_alone f p none xs)
  where
    by : (b : Bool) → p x ≡ b → filter_map f (filter p xs) ≡ filter_map f xs
        → filter_map f (cond b (x ∷ filter p xs) (filter p xs)) ≡ cons_option (f x) (filter_map f xs)
    by true passes same = ap (cons_option (f x)) same
    by false fails same = same ∙ ap (λ o. cons_option o (filter_map f xs)) (sym (none x fails))

gives_same : {X Y : Type 0} (f : X → Option Y) (p : X → Bool) → ((x : X) → p x ≡ false → f x ≡ None) → (xs ys : List X)
    → filter p xs ≡ filter p ys → filter_map f ys ≡ filter_map f xs
gives_same f p none xs ys same = sym (gives_alone f p none ys) ∙ ap (filter_map f) (sym same) ∙ gives_alone f p none xs

pub same_values : (unit : Resolved) (key : List ℕ) (ones : List (Place × Assignment)) → HasAll unit key ones
    → values_of unit key ≡ filter_map (given_by unit.systemd unit.name key) ones
same_values unit key ones all =
    gives_same (given_by unit.systemd unit.name key) (is_of_key key)
    (λ one fails. ap (λ b. cond b (expanded_at unit.systemd unit.name one) None) fails) ones (service_assignments unit) all

pub same_notes : (unit : Resolved) (key : List ℕ) (ones : List (Place × Assignment)) → HasAll unit key ones
    → notes_of unit key ≡ filter_map (note_of unit.systemd unit.name key) ones
same_notes unit key ones all =
    gives_same (note_of unit.systemd unit.name key) (is_of_key key)
    (λ one fails. ap (λ b. cond b (unexpanded_at unit.systemd unit.name one) None) fails) ones (service_assignments unit) all

pub same_written : (unit : Resolved) (key : List ℕ) (ones : List (Place × Assignment)) → HasAll unit key ones
    → written_values unit key ≡ filter_map (written_by key) ones
same_written unit key ones all =
    gives_same (written_by key) (is_of_key key)
    (λ one fails. ap (λ b. cond b (Some (record { place = one.0; text = one.1.value })) None) fails) ones (service_assignments unit) all
