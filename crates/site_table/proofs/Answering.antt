-- There are faults, or an answer without faults.
use Rattle.std.proofs.Common.{◌≡◌, ℕ, ◌+◌, List, [], ◌∷◌, ◌++◌, length, take, Option, Some, None, Ok, Err, refl, sym, ap, ◌∙◌, append_assoc}
use Rattle.std.proofs.Common.{arith}
use Rattle.std.specs.List.{AllByRecursion, filter_map, cons_option, enumerate_from}
use Rattle.std.proofs.Math.Seq.{take-append_seam}
use Rattle.std.proofs.lemmas.List.{length-append}
use Rattle.toml.specs.Data.{Data}
use Rattle.site_table.specs.declared.error.SiteError.{SiteError}
use Rattle.site_table.specs.declared.error.SiteError.TheVariants.{NotToml, Top, TooMany, Row as BadRow, User as BadUser, Group as BadGroup}
use Rattle.site_table.specs.declared.error.SiteError.TheVariants.{Memory}
use Rattle.site_table.specs.Reading.{faults_among, unless_fault, IsUnlessMemory}
use Rattle.site_table.proofs.Faults.{Fault}

-- the answer is given if there is no fault
pub accepted : {T : Type 0} (faults : List SiteError) (said answer : T) → unless_fault faults said ≡ Ok answer
    → (faults ≡ []) × (said ≡ answer)
accepted [] said answer e = (refl, cc)
accepted (fault ∷ faults) said answer e = absurd (cc)

-- a refusal is the same for any other value
pub refused_also : {T V : Type 0} (faults : List SiteError) (said : T) (other : V) (error : SiteError)
    → unless_fault faults said ≡ Err error → unless_fault faults other ≡ Err error
refused_also [] said other error e = absurd (cc)
refused_also (fault ∷ faults) said other error e = let same : fault ≡ error = cc in ap Err same

-- a refusal by the first faults is a refusal by all faults
pub refused_first : {T V : Type 0} (faults more : List SiteError) (said : T) (other : V) (error : SiteError)
    → unless_fault faults said ≡ Err error → unless_fault (faults ++ more) other ≡ Err error
refused_first [] more said other error e = absurd (cc)
refused_first (fault ∷ faults) more said other error e = let same : fault ≡ error = cc in ap Err same

pub stops_first : {T V : Type 0} {S U : Type 0} (see : T → V) (other_see : S → U) (faults more : List SiteError) (said : V) (other : U)
    (error : SiteError)
    → IsUnlessMemory see (Err error) (unless_fault faults said) → IsUnlessMemory other_see (Err error) (unless_fault (faults ++ more) other)
stops_first see other_see faults more said other Memory h = tt
stops_first see other_see faults more said other NotToml h = refused_first faults more said other NotToml h
stops_first see other_see faults more said other Top h = refused_first faults more said other Top h
stops_first see other_see faults more said other TooMany h = refused_first faults more said other TooMany h
stops_first see other_see faults more said other (BadRow number cause) h = refused_first faults more said other (BadRow number cause) h
stops_first see other_see faults more said other (BadUser number) h = refused_first faults more said other (BadUser number) h
stops_first see other_see faults more said other (BadGroup number) h = refused_first faults more said other (BadGroup number) h

pub stops_also : {T V : Type 0} {S U : Type 0} (see : T → V) (other_see : S → U) (faults : List SiteError) (said : V) (other : U)
    (error : SiteError)
    → IsUnlessMemory see (Err error) (unless_fault faults said) → IsUnlessMemory other_see (Err error) (unless_fault faults other)
stops_also see other_see faults said other Memory h = tt
stops_also see other_see faults said other NotToml h = refused_also faults said other NotToml h
stops_also see other_see faults said other Top h = refused_also faults said other Top h
stops_also see other_see faults said other TooMany h = refused_also faults said other TooMany h
stops_also see other_see faults said other (BadRow number cause) h = refused_also faults said other (BadRow number cause) h
stops_also see other_see faults said other (BadUser number) h = refused_also faults said other (BadUser number) h
stops_also see other_see faults said other (BadGroup number) h = refused_also faults said other (BadGroup number) h

-- no element has a fault, given the elements before it
abbrev pub NoFaults : Fault → List Data → List Data → Type 0
NoFaults fault_at before [] = Unit {0}
NoFaults fault_at before (one ∷ rest) = (fault_at (length before + 1) before one ≡ None) × NoFaults fault_at (before ++ one ∷ []) rest

head_none : (found : Option SiteError) (faults : List SiteError) → cons_option found faults ≡ [] → (found ≡ None) × (faults ≡ [])
head_none None faults e = (refl, e)
head_none (Some fault) faults e = absurd (cc)

no_faults_from : (fault_at : Fault) (all before rest : List Data) → all ≡ before ++ rest
    → filter_map (λ one. fault_at (one.0 + 1) (take one.0 all) one.1) (enumerate_from (length before) rest) ≡ []
    → NoFaults fault_at before rest
no_faults_from fault_at all before [] same e = tt
no_faults_from fault_at all before (one ∷ rest) same e =
    let both = head_none (fault_at (length before + 1) (take (length before) all) one) (filter_map (λ one. fault_at (one.0 + 1) (take one.0 all) one.1) (enumerate_from (length before + 1) rest)) e in
    let front : take (length before) all ≡ before = ap (take (length before)) same ∙ take-append_seam before (one ∷ rest) in
    let longer : length before + 1 ≡ length (before ++ one ∷ []) = omega (arith, length-append before (one ∷ [])) in (
      ap (λ xs. fault_at (length before + 1) xs one) (sym front) ∙ both.0,
      no_faults_from fault_at all (before ++ one ∷ []) rest (same ∙ sym (append_assoc before (one ∷ []) rest))
          (ap (λ n. filter_map (λ one. fault_at (one.0 + 1) (take one.0 all) one.1) (enumerate_from n rest)) (sym longer) ∙ both.1),
    )

pub no_faults : (fault_at : Fault) (all : List Data) → faults_among fault_at all ≡ [] → NoFaults fault_at [] all
no_faults fault_at all e = no_faults_from fault_at all [] all refl e

-- a property of each element without a fault holds of each element
pub all_faultless : (fault_at : Fault) (P : Data → Type 0) (before rest : List Data)
    → ((number : ℕ) (before : List Data) (one : Data) → fault_at number before one ≡ None → P one) → NoFaults fault_at before rest
    → AllByRecursion P rest
all_faultless fault_at P before [] each h = tt
all_faultless fault_at P before (one ∷ rest) each h =
    (each (length before + 1) before one h.0, all_faultless fault_at P (before ++ one ∷ []) rest each h.1)
