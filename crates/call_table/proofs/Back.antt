-- A spelled call is read back.
use Rattle.std.proofs.Common.{◌≡◌, ℕ, zero, suc, Bool, true, false, cond, List, [], ◌∷◌, ◌++◌, append_assoc, Option, Some, None, IfSome}
use Rattle.std.proofs.Common.{IsSome, refl, sym, ap, subst, ◌∙◌}
use Rattle.std.specs.Prelude.{slice_get}
use Rattle.std.specs.Option.{option_map, option_map_or, option_to_list}
use Rattle.std.specs.Str.{bytes_eq}
use Rattle.std.proofs.lemmas.Bool.{cond-true, cond-false, false≢true}
use Rattle.std.proofs.lemmas.Option.{same_Some}
use Rattle.call_table.proofs.Onces.{same_bytes}
use Rattle.call_table.specs.Facts.{IsTable, IsSecond}
use Rattle.call_table.specs.Table.{Abi, Table, abi_at}
use Rattle.call_table.specs.call_words.Words.{last_cut, Lacks, has_abi_name, place_of_abi, named_abi, spelled_by, spelled, spelling}
use Rattle.call_table.specs.call_words.Words.{HasOtherName, IsReadBack}
use Rattle.call_table.proofs.Cuts.{lacking, cut_last}

read_native : (table : Table) (name : List ℕ) → Lacks 58 name → spelled table name ≡ Some (0, name)
read_native table name h = ap (spelled_by table name) (lacking 58 name h)

second_place : (table : Table) (second : Abi) → table.second ≡ Some second → bytes_eq second.name table.name ≡ false
    → place_of_abi table second.name ≡ Some 1
second_place table second e other =
    cond-false _ _ _ other ∙ cond-true _ _ _
    (ap (λ (s : Option Abi). option_map_or (λ found. bytes_eq second.name found.name) (slice_get (option_to_list s) 0) false) e
    ∙ same_bytes second.name)

read_second : (table : Table) (second : Abi) (name : List ℕ) → table.second ≡ Some second → bytes_eq second.name table.name ≡ false
    → Lacks 58 name
    → spelled table (second.name ++ 58 ∷ name) ≡ Some (1, name)
read_second table second name e other h =
    ap (spelled_by table (second.name ++ 58 ∷ name)) (cut_last 58 second.name name h)
    ∙ ap (option_map (λ abi. (abi, name))) (second_place table second e other)

abbrev nothing : List Abi
nothing = []

other_name : (table : Table) (o : Option Abi) → table.second ≡ o → IfSome o (IsSecond table)
    → IfSome o (λ second. bytes_eq second.name table.name ≡ false)
other_name table None e facts = facts
other_name table (Some second) e facts = facts.other_name

-- the ABIs of a table have different names
pub has_other_name : (table : Table) → IsTable table → HasOtherName table
has_other_name table is = other_name table table.second refl is.second

-- the table has the ABI of a word
there_by : (o : Option Abi) (name : List ℕ) → option_map_or (λ found. bytes_eq name found.name) o false ≡ true → IsSome o
there_by None name e = absurd (false≢true e)
there_by (Some found) name e = refl

place_there : (table : Table) (name : List ℕ) (abi : ℕ) → place_of_abi table name ≡ Some abi → IsSome (abi_at table abi)
place_there table name abi e = native_or_second (has_abi_name table 0 name) refl e
  where
    second_or_none : (b : Bool) → has_abi_name table 1 name ≡ b → cond b (Some 1) None ≡ Some abi → IsSome (abi_at table abi)
    second_or_none true h e = subst (λ (k : ℕ). IsSome (abi_at table k)) (same_Some 1 abi e) (there_by (abi_at table 1) name h)
    second_or_none false h e = cc

    native_or_second : (b : Bool) → has_abi_name table 0 name ≡ b
        → cond b (Some 0) (cond (has_abi_name table 1 name) (Some 1) None) ≡ Some abi → IsSome (abi_at table abi)
    native_or_second true h e = subst (λ (k : ℕ). IsSome (abi_at table k)) (same_Some 0 abi e) refl
    native_or_second false h e = second_or_none (has_abi_name table 1 name) refl e

pub spelled_there : (table : Table) (word : List ℕ) (call : ℕ × List ℕ) → spelled table word ≡ Some call → IsSome (abi_at table call.0)
spelled_there table word call e = by (last_cut 58 word) e
  where
    of_place : (o : Option ℕ) (rest : List ℕ) → ((abi : ℕ) → o ≡ Some abi → IsSome (abi_at table abi))
        → option_map (λ abi. (abi, rest)) o ≡ Some call → IsSome (abi_at table call.0)
    of_place None rest h e = cc
    of_place (Some abi) rest h e = subst (λ (c : ℕ × List ℕ). IsSome (abi_at table c.0)) (same_Some (abi, rest) call e) (h abi refl)

    by : (cut : Option (List ℕ × List ℕ)) → spelled_by table word cut ≡ Some call → IsSome (abi_at table call.0)
    by None e = subst (λ (c : ℕ × List ℕ). IsSome (abi_at table c.0)) (same_Some (0, word) call e) refl
    by (Some cut) e = of_place (place_of_abi table cut.0) cut.1 (place_there table cut.0) e

pub read_back : (table : Table) → HasOtherName table → IsReadBack table
read_back table is zero found name at h = read_native table name h
read_back table is (suc abi) found name at h = by table.second abi refl at is
  where
    no_abi : (place abi : ℕ) → slice_get nothing abi ≡ Some found → spelled table (spelling table place name) ≡ Some (place, name)
    no_abi place abi e = cc

    by : (o : Option Abi) (abi : ℕ) → table.second ≡ o → slice_get (option_to_list table.second) abi ≡ Some found
        → IfSome table.second (λ second. bytes_eq second.name table.name ≡ false)
        → spelled table (spelling table (suc abi) name) ≡ Some (suc abi, name)
    by None abi e at facts = no_abi (suc abi) abi (ap (λ (s : Option Abi). slice_get (option_to_list s) abi) (sym e) ∙ at)
    by (Some second) zero e at facts =
        ap (λ (s : Option Abi). spelled table (named_abi s ++ name)) e ∙ ap (spelled table) (append_assoc second.name (58 ∷ []) name)
        ∙ read_second table second name e
        (subst (λ (s : Option Abi). IfSome s (λ second. bytes_eq second.name table.name ≡ false)) e facts) h
    by (Some second) (suc abi) e at facts = no_abi (suc (suc abi)) abi
        (ap (λ (s : Option Abi). slice_get (option_to_list s) (suc abi)) (sym e) ∙ at)
