-- What is kept of some names.
use Rattle.std.proofs.Common.{◌≡◌, inl, inr, ℕ, ◌+◌, ◌<◌, ◌≤◌, false, List, [], ◌∷◌, ◌++◌, length, get_or, take, refl, sym, ap, ◌∙◌, subst}
use Rattle.std.proofs.Common.{arith, eq-eqb}
use Rattle.std.specs.Prelude.{not, ◌==◌}
use Rattle.std.specs.List.{All}
use Rattle.std.proofs.lemmas.List.{take_more}
use Rattle.std.proofs.lemmas.List.Elements.{All-push}
use Rattle.derive_command.specs.trace_profile.Derived.{Fails, Tried, IsLeast}
use Rattle.derive_command.specs.trace_profile.Names.{AreNames, without}
use Rattle.derive_command.specs.trace_profile.Searching.{AreKept, AreServing, LeavesOut}
use Rattle.derive_command.proofs.Lists.{not_longer, shorter, some_are_names}

module _ (tried : Tried) (names : List ℕ) where
  -- before any is seen
  pub kept_none : AreServing tried names → AreKept tried names [] names
  kept_none serving = record {
    serving = serving;
    no_more = omega arith;
    same = λ e. refl;
    needed = λ e k d lt. absurd (omega arith);
  }

  module _ (i : ℕ) (d name : ℕ) (lt : i < length names) (is : name ≡ get_or names i d) (kept : List ℕ) (before : AreKept tried names (take i names) kept) where
    fewer : length (without name kept) ≡ length names → ⊥
    fewer e =
        let no_more = not_longer (λ one. not (one == name)) kept in
        let same : kept ≡ names = before.same (omega (arith, e, no_more, before.no_more)) in
        let gone : not (get_or names i d == name) ≡ false = ap not (eq-eqb (get_or names i d) name (sym is)) in
        let less = shorter (λ one. not (one == name)) names i d lt gone in
        let again : length (without name names) ≡ length names = ap (λ these. length (without name these)) (sym same) ∙ e in
        omega (arith, less, again)

    -- one more is seen
    pub kept_more : (left : List ℕ) → LeavesOut tried kept name left → AreKept tried names (take (i + 1) names) left
    kept_more left (inl gone) =
        let no_more = not_longer (λ one. not (one == name)) kept in
        let none : length left ≡ length names → ⊥ = λ e. fewer (ap length (sym gone.0) ∙ e) in
        let long = ap length gone.0 in
        record {
          serving = record {
            are_names = subst (AreNames tried.table) (sym gone.0)
                (some_are_names tried.table (λ one. not (one == name)) kept before.serving.are_names);
            serves = gone.1;
          };
          no_more = omega (arith, no_more, before.no_more, long);
          same = λ e. absurd (none e);
          needed = λ e. absurd (none e);
        }
    kept_more left (inr stays) =
        let fails : length left ≡ length names → Fails tried (without name names) =
        λ e. subst (λ these. Fails tried (without name these)) (before.same (ap length (sym stays.0) ∙ e)) stays.1 in
        record {
          serving = subst (AreServing tried) (sym stays.0) before.serving;
          no_more = subst (λ these. length these ≤ length names) (sym stays.0) before.no_more;
          same = λ e. stays.0 ∙ before.same (ap length (sym stays.0) ∙ e);
          needed = λ e. subst (All (λ one. Fails tried (without one names)))
              (ap (λ one. take i names ++ one ∷ []) is ∙ sym (take_more names i d lt))
              (All-push (λ one. Fails tried (without one names)) (take i names) name (before.needed (ap length (sym stays.0) ∙ e))
              (fails e));
        }

  -- where none is left out, each is needed
  pub least_of : (kept : List ℕ) → AreKept tried names names kept → length kept ≡ length names → IsLeast tried kept
  least_of kept are same = record {
    are_names = are.serving.are_names;
    serves = are.serving.serves;
    needed = subst (λ these. All (λ one. Fails tried (without one these)) these) (sym (are.same same)) (are.needed same);
  }
