-- The names of folders and of objects: each is a part of a path, short, and has its own number in it. They are few, and are tried one by
-- one.
use Rattle.std.proofs.Common.{◌≡◌, ℕ, zero, suc, ◌+◌, ◌<◌, ◌≤◌, ◌==◌, ◌&&◌, not, nat_le, Bool, true, false, List, length, drop, codes, refl}
use Rattle.std.proofs.Common.{subst, inl, inr, arith}
use Rattle.std.specs.List.{list_all}
use Rattle.std.specs.Fmt.{digits}
use Rattle.std.specs.Str.{bytes_eq}
use Rattle.std.specs.Str.Parse.{digits_value}
use Rattle.std.proofs.lemmas.Bool.{and_parts, cases_eq, not-true, leb-true, eqb-true}
use Rattle.launcher.specs.abs_path.Paths.{is_part}
use Rattle.sample_inputs.specs.Site.{numbers_from, folder_name, object_name}

-- the number behind the letter of a name
abbrev pub number_in : List ℕ → ℕ
number_in name = digits_value 10 (drop 1 name)

abbrev is_usr : List ℕ → Bool
is_usr name = bytes_eq name (codes "usr")

abbrev is_proc : List ℕ → Bool
is_proc name = bytes_eq name (codes "proc")

abbrev is_named : (ℕ → List ℕ) → ℕ → Bool
is_named name number = is_part (name number) &&
    (nat_le (length (name number)) 3 && (number_in (name number) == number && (not (is_usr (name number)) && not (is_proc (name number)))))

-- what holds of each
pub record IsName (name : List ℕ) (number : ℕ) : Type 0 where
  pub part : is_part name ≡ true
  pub short : length name ≤ 3
  pub told : number_in name ≡ number
  pub no_usr : bytes_eq name (codes "usr") ≡ false
  pub no_proc : bytes_eq name (codes "proc") ≡ false

folders : list_all (is_named folder_name) (numbers_from 0 16) ≡ true
unfolding digits
folders = refl

objects : list_all (is_named object_name) (numbers_from 0 64) ≡ true
unfolding digits
objects = refl

-- what holds of some numbers holds of each
of_numbers : (test : ℕ → Bool) (first count number : ℕ) → list_all test (numbers_from first count) ≡ true → first ≤ number
    → number < first + count → test number ≡ true
of_numbers test first zero number all low high = absurd (omega arith)
of_numbers test first (suc count) number all low high =
    let (here, more) = and_parts (test first) (list_all test (numbers_from (first + 1) count)) all in
    elim (cases_eq first number) [
      | inl same ↦ subst (λ (k : ℕ). test k ≡ true) same here
      | inr other ↦ of_numbers test (first + 1) count number more (omega arith) (omega arith)
    ]

name_by : (name : ℕ → List ℕ) (number : ℕ) → is_named name number ≡ true → IsName (name number) number
name_by name number h =
    let (part, h1) = and_parts (is_part (name number)) _ h in
    let (short, h2) = and_parts (nat_le (length (name number)) 3) _ h1 in
    let (told, h3) = and_parts (number_in (name number) == number) _ h2 in
    let (no_usr, no_proc) = and_parts (not (is_usr (name number))) (not (is_proc (name number))) h3 in
    record {
      part = part;
      short = leb-true (length (name number)) 3 short;
      told = eqb-true (number_in (name number)) number told;
      no_usr = not-true (is_usr (name number)) no_usr;
      no_proc = not-true (is_proc (name number)) no_proc;
    }

pub folder_named : (k : ℕ) → k < 16 → IsName (folder_name k) k
folder_named k low = name_by folder_name k (of_numbers (is_named folder_name) 0 16 k folders (omega arith) (omega arith))

pub object_named : (j : ℕ) → j < 64 → IsName (object_name j) j
object_named j low = name_by object_name j (of_numbers (is_named object_name) 0 64 j objects (omega arith) (omega arith))
