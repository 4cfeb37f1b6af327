-- The tests of an object's members, as a map holds them.
use Rattle.std.proofs.Common.{◌≡◌, ◌≤◌, ◌<◌, ℕ, true, false, List, length, None, string_cmp, sym, subst, arith}
use Rattle.std.specs.Prelude.{nat_lt}
use Rattle.std.specs.List.Sorted.{IsStrictlySortedBy}
use Rattle.std.specs.Map.{keys_of}
use Rattle.std.proofs.lemmas.Bool.Decides.{nat_tests}
use Rattle.serde_json.specs.View.{members_view}
use Rattle.exposure_score.specs.declared.policy_file.policy.PolicyTest.{PolicyTest}
use Rattle.exposure_score.specs.policy_file.Policy.{AreAscending, IsPolicy}
use Rattle.exposure_score.specs.policy_file.Reading.{Member, members_of, first_fault, tests_of}
use Rattle.exposure_score.proofs.Accepted.{names, is_policy}
use Rattle.exposure_score.proofs.Members.{Entry, members_of_entries, as_many_entries}
use Rattle.exposure_score.proofs.Ordered.{entries_ascend}

module _ (entries : List Entry) where
  abbrev pub read_members : List Member
  read_members = members_of (members_view entries)

  pub too_many : (number : ℕ) → number ≡ length entries → 512 < number → nat_lt 512 (length read_members) ≡ true
  too_many number is many =
      let same : length read_members ≡ length entries = as_many_entries entries in
      grind (arith, nat_tests)

  pub few_enough : (number : ℕ) → number ≡ length entries → number ≤ 512 → nat_lt 512 (length read_members) ≡ false
  few_enough number is few =
      let same : length read_members ≡ length entries = as_many_entries entries in
      grind (arith, nat_tests)

  pub is_policy_read : (number : ℕ) (tests : List PolicyTest) → number ≡ length entries → number ≤ 512
      → IsStrictlySortedBy string_cmp (keys_of entries)
      → first_fault read_members ≡ None → tests ≡ tests_of read_members → IsPolicy tests
  is_policy_read number tests is few ordered none same =
      let many : length read_members ≡ length entries = as_many_entries entries in
      let up = subst (λ (members : List Member). AreAscending (names members)) (sym (members_of_entries entries)) (entries_ascend entries ordered) in
      subst IsPolicy (sym same) (is_policy read_members up none (omega arith))
