-- The members of an object, one after another.
use Rattle.std.proofs.Common.{◌≡◌, List, [], ◌∷◌, ◌++◌, map, length, String, Global, string_bytes, refl, ap, ◌∙◌}
use Rattle.std.proofs.lemmas.List.{length-map}
use Rattle.serde_json.specs.View.{view, members_view}
use Rattle.serde_json.specs.declared.value.Value.{Value}
use Rattle.exposure_score.specs.declared.policy_file.policy.PolicyTest.{PolicyTest}
use Rattle.exposure_score.specs.policy_file.Reading.{Member, members_of, first_fault, tests_of}

abbrev pub Entry : Type 0
Entry = String Global × Value

-- the member that an entry of the map is
abbrev pub member_at : Entry → Member
member_at entry = (string_bytes entry.0, view entry.1)

pub members_of_entries : (entries : List Entry) → members_of (members_view entries) ≡ map member_at entries
members_of_entries [] = refl
members_of_entries (entry ∷ entries) = ap (λ members. member_at entry ∷ members) (members_of_entries entries)

pub as_many_entries : (entries : List Entry) → length (members_of (members_view entries)) ≡ length entries
as_many_entries entries = ap length (members_of_entries entries) ∙ length-map entries member_at

-- of all members the rest is still to be read, and those before it are the tests
pub record IsReading (all rest : List Member) (tests : List PolicyTest) : Type 0 where
  pub same_fault : first_fault all ≡ first_fault rest
  pub same_tests : tests_of all ≡ tests ++ tests_of rest

pub begins : (all : List Member) → IsReading all all []
begins all = record { same_fault = refl; same_tests = refl }

pub begins_at : (entries iterator : List Entry) (tests : List PolicyTest) → iterator ≡ entries → tests ≡ []
    → IsReading (members_of (members_view entries)) (map member_at iterator) tests
begins_at entries iterator tests same none = rw (same, none, members_of_entries entries) (begins (map member_at entries))
