-- The facts of all lines, put in order.
use Rattle.std.proofs.Common.{◌≡◌, ◌≤◌, ℕ, List, ◌++◌, length, take, subst, ap, arith}
use Rattle.std.specs.Prelude.{IsPermutation, count_by}
use Rattle.std.specs.Ordering.{nat_cmp}
use Rattle.std.specs.Cmp.Lexicographic.{slice_cmp}
use Rattle.std.specs.List.Sorted.{IsSortedByKey}
use Rattle.std.proofs.lemmas.List.{take_all, take-append-le}
use Rattle.std.proofs.lemmas.List.Sorted.{IsPermutation-map}
use Rattle.exec_settings.specs.call_table.Table.{Table}
use Rattle.exec_settings.specs.dropin_merge.declared.resolved.Resolved.{Resolved}
use Rattle.exec_settings.specs.mount_settings.declared.written.WrittenPath.{WrittenPath}
use Rattle.exec_settings.specs.mount_settings.Written.{unit_written}
use Rattle.exposure_score.specs.declared.facts.Fact.{Fact}
use Rattle.exposure_score.specs.declared.service_facts.sandbox.Sandbox.{Sandbox}
use Rattle.exposure_score.specs.service_facts.Sandbox.{is_writable_key, writable_paths}
use Rattle.exposure_score.specs.service_facts.Facts.{told, told_by_lines, AreTests}

pub in_order : (sandbox : Sandbox) (table : Table) (before after : List Fact) → told before ≡ told_by_lines sandbox table
    → IsPermutation before after
    → IsSortedByKey (λ (fact : Fact). fact.id) (slice_cmp nat_cmp) after → AreTests sandbox table after
in_order sandbox table before after made same sorted = record {
  those_of_the_lines = subst (λ tells. IsPermutation tells (told after)) made
      (IsPermutation-map (λ (fact : Fact). (fact.id, fact.badness)) before after same);
  in_byte_order = sorted;
}

-- a vector whose slice was written as long as it was has what was written
pub written_back : {X : Type 0} (n : ℕ) (before after rest : List X) → length before ≡ n → length after ≡ length before
    → take n (after ++ rest) ≡ after
written_back n before after rest e f =
    let h : n ≤ length after = omega arith in
    let all : length after ≤ n = omega arith in
    rw take-append-le (take_all n after all)

pub counted : (paths : List WrittenPath) (unit : Resolved) → paths ≡ unit_written unit
    → count_by (λ (path : WrittenPath). is_writable_key path.key) paths ≡ writable_paths unit
unfolding writable_paths
counted paths unit e = ap (count_by (λ (path : WrittenPath). is_writable_key path.key)) e
