-- The faults of a list, element by element.
use Rattle.std.proofs.Common.{◌≡◌, ℕ, ◌+◌, ◌<◌, ◌≤◌, List, [], ◌∷◌, ◌++◌, length, take, drop, get_or, map, Option, Some, None, Ok, Err, sym}
use Rattle.std.proofs.Common.{ap, ◌∙◌, arith}
use Rattle.std.specs.List.{filter_map, cons_option, enumerate_from}
use Rattle.std.proofs.lemmas.List.{take_more, drop_more, drop_all, get_or-map, length-map}
use Rattle.toml.specs.Data.{Data}
use Rattle.toml.specs.View.{view}
use Rattle.toml.specs.declared.value.Value.{Value}
use Rattle.site_table.specs.declared.error.SiteError.{SiteError}
use Rattle.site_table.specs.Reading.{faults_among, unless_fault}

abbrev pub Fault : Type 0
Fault = ℕ → List Data → Data → Option SiteError

-- the faults from this element on
abbrev pub faults_from : Fault → List Data → ℕ → List SiteError
faults_from fault_at all i = filter_map (λ one. fault_at (one.0 + 1) (take one.0 all) one.1) (enumerate_from i (drop i all))

-- an element at a place, with the elements before and after it
pub record StandsAt (all : List Data) (i : ℕ) (one : Data) : Type 0 where
  pub after : drop i all ≡ one ∷ drop (i + 1) all
  pub before : take (i + 1) all ≡ take i all ++ one ∷ []

pub stands_at : (values : List Value) (i : ℕ) (value : Value) → i < length values → value ≡ get_or values i value
    → StandsAt (map view values) i (view value)
stands_at values i value lt is =
    let same : get_or (map view values) i (view value) ≡ view value = get_or-map view values i value (view value) lt ∙ ap view (sym is) in
    let within : i < length (map view values) = omega (arith, length-map values view) in
    record {
      after = drop_more (map view values) i (view value) within ∙ ap (λ one. one ∷ drop (i + 1) (map view values)) same;
      before = take_more (map view values) i (view value) within ∙ ap (λ one. take i (map view values) ++ one ∷ []) same;
    }

pub faults_step : (fault_at : Fault) (all : List Data) (i : ℕ) (one : Data) → StandsAt all i one
    → faults_from fault_at all i ≡ cons_option (fault_at (i + 1) (take i all) one) (faults_from fault_at all (i + 1))
faults_step fault_at all i one at = ap (λ rest. filter_map (λ one. fault_at (one.0 + 1) (take one.0 all) one.1) (enumerate_from i rest))
    at.after

-- an element without fault
pub faultless_more : (fault_at : Fault) (all : List Data) (i : ℕ) (one : Data) → StandsAt all i one
    → fault_at (i + 1) (take i all) one ≡ None
    → faults_from fault_at all i ≡ faults_among fault_at all → faults_from fault_at all (i + 1) ≡ faults_among fault_at all
faultless_more fault_at all i one at none e = ap (λ fault. cons_option fault (faults_from fault_at all (i + 1))) (sym none)
    ∙ sym (faults_step fault_at all i one at) ∙ e

-- an element has a fault, and the elements before it have none
pub fault_found : {T : Type 0} (fault_at : Fault) (all : List Data) (i : ℕ) (one : Data) (fault : SiteError) (answer : T)
    → StandsAt all i one → fault_at (i + 1) (take i all) one ≡ Some fault
    → faults_from fault_at all i ≡ faults_among fault_at all → unless_fault (faults_among fault_at all) answer ≡ Err fault
fault_found fault_at all i one fault answer at some e =
    ap (λ faults. unless_fault faults answer) (sym e ∙ faults_step fault_at all i one at
    ∙ ap (λ found. cons_option found (faults_from fault_at all (i + 1))) some)

-- no element is left
pub faultless : {T : Type 0} (fault_at : Fault) (all : List Data) (i : ℕ) (answer : T) → length all ≤ i
    → faults_from fault_at all i ≡ faults_among fault_at all → unless_fault (faults_among fault_at all) answer ≡ Ok answer
faultless fault_at all i answer end e =
    ap (λ faults. unless_fault faults answer)
    (sym e ∙ ap (λ rest. filter_map (λ one. fault_at (one.0 + 1) (take one.0 all) one.1) (enumerate_from i rest)) (drop_all i all end))
