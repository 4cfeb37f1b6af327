use Rattle.std.proofs.Common.{eqb, ap, sym, ◌∙◌}
use Rattle.std.specs.List.{list_any}
use Rattle.std.proofs.lemmas.List.Filters.{dedup_is}
use Rattle.std.proofs.lemmas.List.Sorted.{list_any-IsPermutation}
use Rattle.std.proofs.lemmas.Map.Keys.{IsStrictlyIncreasing-dedup}
use Rattle.seccomp_compile.proofs.Doubles.{any-dedup}
use Rattle.seccomp_compile.proofs.values.values_of.Goals as goal

pub returns-clause-increasing : goal.returns-clause-increasing
returns-clause-increasing c =
    rw (dedup_is eqb c.sort_unstable.new.self.items c.dedup.new.self.items c.dedup.ensures.filtered)
    (IsStrictlyIncreasing-dedup c.sort_unstable.new.self.items c.sort_unstable.ensures.sorted)

pub returns-clause-members : goal.returns-clause-members
returns-clause-members c = λ n.
    ap (list_any (λ m. eqb n m)) (dedup_is eqb c.sort_unstable.new.self.items c.dedup.new.self.items c.dedup.ensures.filtered)
    ∙ any-dedup c.sort_unstable.new.self.items n
    ∙ sym (list_any-IsPermutation (λ m. eqb n m) c.in_ok-values.values.items c.sort_unstable.new.self.items
    c.sort_unstable.ensures.permutation)
    ∙ ap (list_any (λ m. eqb n m)) c.in_ok-values.ensures
