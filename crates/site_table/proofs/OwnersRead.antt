-- Users or groups have been read.
use Rattle.std.proofs.Common.{◌≡◌, ℕ, ◌+◌, ◌≤◌, Bool, true, false, cond, List, [], ◌∷◌, ◌++◌, length, take, map, Some, None, Result, Ok}
use Rattle.std.proofs.Common.{Err, refl, sym, ap, ◌∙◌, subst}
use Rattle.std.specs.Prelude.{◌||◌}
use Rattle.std.specs.List.{list_any}
use Rattle.std.specs.Str.{bytes_eq}
use Rattle.std.proofs.lemmas.List.{take_all}
use Rattle.toml.specs.Data.{Data}
use Rattle.site_table.specs.declared.error.SiteError.{SiteError}
use Rattle.site_table.specs.Owners.{name_of, has_doubled_name, refusal_of}
use Rattle.site_table.specs.declared.owners.OwnerKind.{OwnerKind}
use Rattle.site_table.specs.declared.owners.OwnerKind.TheVariants.{User, Group}
use Rattle.site_table.specs.Reading.{owner_faults, unless_fault, IsUnlessMemory}
use Rattle.site_table.proofs.Faults.{Fault, faults_from, StandsAt, faultless_more, fault_found, faultless}

abbrev pub owner_fault : (Data → Bool) → (ℕ → SiteError) → Fault
owner_fault is_wrong refusal number before owner = cond (is_wrong owner || has_doubled_name before owner) (Some (refusal number)) None

-- the first i of the owners have been read, and none has a fault
pub record OwnersRead {T : Type 0} (is_wrong : Data → Bool) (refusal : ℕ → SiteError) (said_of : Data → T) (owners : List Data) (i : ℕ) (read : List T) : Type 0 where
  pub faultless : faults_from (owner_fault is_wrong refusal) owners i ≡ owner_faults is_wrong refusal owners
  pub said : read ≡ map said_of (take i owners)

map-append : {X Y : Type 0} (f : X → Y) (xs ys : List X) → map f (xs ++ ys) ≡ map f xs ++ map f ys
map-append f [] ys = refl
map-append f (x ∷ xs) ys = ap (λ rest. f x ∷ rest) (map-append f xs ys)

-- the owners that were read have the names of their elements
module _ {T : Type 0} (said_of : Data → T) (called : T → List ℕ) (keeps : (owner : Data) → called (said_of owner) ≡ name_of owner) where
  names_kept : (name : List ℕ) (before : List Data) → list_any (λ one. bytes_eq name (called one)) (map said_of before)
      ≡ list_any (λ other. bytes_eq name (name_of other)) before
  names_kept name [] = refl
  names_kept name (owner ∷ before) = λ j. bytes_eq name (keeps owner j) || names_kept name before j

  module _ (is_wrong : Data → Bool) (refusal : ℕ → SiteError) (owners : List Data) (i : ℕ) (read : List T) where
    doubled : (owner : Data) → OwnersRead is_wrong refusal said_of owners i read
        → list_any (λ one. bytes_eq (name_of owner) (called one)) read ≡ has_doubled_name (take i owners) owner
    doubled owner so_far = ap (list_any (λ one. bytes_eq (name_of owner) (called one))) so_far.said
        ∙ names_kept (name_of owner) (take i owners)

    pub owner_more : (owner : Data) (said : T) → OwnersRead is_wrong refusal said_of owners i read → StandsAt owners i owner
        → (is_wrong owner || list_any (λ one. bytes_eq (name_of owner) (called one)) read) ≡ false → said ≡ said_of owner
        → OwnersRead is_wrong refusal said_of owners (i + 1) (read ++ said ∷ [])
    owner_more owner said so_far at right same = record {
      faultless = faultless_more (owner_fault is_wrong refusal) owners i owner at
          (ap (λ b. cond (is_wrong owner || b) (Some (refusal (i + 1))) None) (sym (doubled owner so_far))
          ∙ ap (λ b. cond b (Some (refusal (i + 1))) None) right) so_far.faultless;
      said = ap (λ xs. xs ++ said ∷ []) so_far.said ∙ ap (λ one. map said_of (take i owners) ++ one ∷ []) same
          ∙ sym (map-append said_of (take i owners) (owner ∷ [])) ∙ ap (map said_of) (sym at.before);
    }

    pub owner_found : {V : Type 0} (owner : Data) (answer : V) → OwnersRead is_wrong refusal said_of owners i read → StandsAt owners i owner
        → (is_wrong owner || list_any (λ one. bytes_eq (name_of owner) (called one)) read) ≡ true
        → unless_fault (owner_faults is_wrong refusal owners) answer ≡ Err (refusal (i + 1))
    owner_found owner answer so_far at wrong =
        fault_found (owner_fault is_wrong refusal) owners i owner (refusal (i + 1)) answer at
        (ap (λ b. cond (is_wrong owner || b) (Some (refusal (i + 1))) None) (sym (doubled owner so_far))
        ∙ ap (λ b. cond b (Some (refusal (i + 1))) None) wrong) so_far.faultless

pub owners_all : {T : Type 0} (is_wrong : Data → Bool) (refusal : ℕ → SiteError) (said_of : Data → T) (owners : List Data) (i : ℕ)
    (read : List T) → OwnersRead is_wrong refusal said_of owners i read → length owners ≤ i
    → unless_fault (owner_faults is_wrong refusal owners) (map said_of owners) ≡ Ok read
owners_all is_wrong refusal said_of owners i read so_far end =
    faultless (owner_fault is_wrong refusal) owners i (map said_of owners) end so_far.faultless
    ∙ ap Ok (ap (map said_of) (sym (take_all i owners end)) ∙ sym so_far.said)

pub owners_none : {T : Type 0} (is_wrong : Data → Bool) (refusal : ℕ → SiteError) (said_of : Data → T) (owners : List Data)
    (read : List T) → read ≡ [] → OwnersRead is_wrong refusal said_of owners 0 read
owners_none is_wrong refusal said_of owners read nothing = record { faultless = refl; said = nothing }

-- an owner that is not refused has a new name
pub not_doubled : (wrong twice : Bool) → (wrong || twice) ≡ false → twice ≡ false
not_doubled true twice e = cc
not_doubled false twice e = e

-- the refusal of an owner
pub refused : {T V : Type 0} (see : T → V) (kind : OwnerKind) (number : ℕ) (error : SiteError) (wanted : Result V SiteError)
    → error ≡ refusal_of kind number → wanted ≡ Err (refusal_of kind number) → IsUnlessMemory see (Err error) wanted
refused see User number error wanted e h = subst (λ (told : SiteError). IsUnlessMemory see (Err told) wanted) (sym e) h
refused see Group number error wanted e h = subst (λ (told : SiteError). IsUnlessMemory see (Err told) wanted) (sym e) h
