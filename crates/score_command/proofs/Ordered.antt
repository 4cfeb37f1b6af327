-- The comparison of rows is an order, and rows that are sorted by it stand in theirs.
use Rattle.std.proofs.Common.{◌≡◌, ◌∙◌, ℕ, ◌<◌, ◌⊎◌, Bool, true, false, List, get_or, refl, sym, ap, inl, inr, arith}
use Rattle.std.specs.Prelude.{nat_lt, ◌==◌, cond}
use Rattle.std.specs.declared.cmp.Ordering.{Ordering}
use Rattle.std.specs.declared.cmp.Ordering.TheVariants.{Less, Equal, Greater}
use Rattle.std.specs.Cmp.{IsTotalOrder}
use Rattle.std.specs.Cmp.Lexicographic.{slice_cmp}
use Rattle.std.specs.List.Sorted.{IsSortedBy}
use Rattle.std.specs.Ordering.{is_lt, nat_cmp, ordering_reverse, ordering_then}
use Rattle.std.proofs.lemmas.Bool.Decides.{nat_tests}
use Rattle.std.proofs.lemmas.Cmp.{back_total, nat_cmp_total, nat_list_cmp_total, on_total, then_total}
use Rattle.std.proofs.lemmas.List.Sorted.{ranks_by, sorted_far}
use Rattle.unit_inputs.specs.unit_names.Names.{text_of}
use Rattle.score_command.specs.fleet_command.fleet_report.Comparing.{outcome_cmp, row_cmp}
use Rattle.score_command.specs.fleet_command.fleet_report.Order.{AreInOrder, StandBy}
use Rattle.score_command.specs.declared.fleet_command.fleet_report.rows.FleetOutcome.{FleetOutcome}
use Rattle.score_command.specs.declared.fleet_command.fleet_report.rows.FleetOutcome.TheVariants.{Scored, Unresolved, Unset}
use Rattle.score_command.specs.declared.fleet_command.fleet_report.rows.FleetRow.{FleetRow}

-- ---- an order
class_of : FleetOutcome → ℕ
class_of (Scored exposure) = 0
class_of (Unresolved refusal) = 1
class_of (Unset refusal) = 1

exposure_of : FleetOutcome → ℕ
exposure_of (Scored exposure) = exposure
exposure_of (Unresolved refusal) = 0
exposure_of (Unset refusal) = 0

-- the class, and then the exposure backwards
by_parts : FleetOutcome → FleetOutcome → Ordering
by_parts one other = ordering_then (nat_cmp (class_of one) (class_of other)) (nat_cmp (exposure_of other) (exposure_of one))

parts_total : IsTotalOrder by_parts
unfolding by_parts class_of exposure_of
parts_total = then_total (on_total class_of nat_cmp_total) (back_total (on_total exposure_of nat_cmp_total))

by_parts_is : (one other : FleetOutcome) → outcome_cmp one other ≡ by_parts one other
unfolding by_parts class_of exposure_of
by_parts_is (Scored one) (Scored other) = refl
by_parts_is (Scored one) (Unresolved other) = refl
by_parts_is (Scored one) (Unset other) = refl
by_parts_is (Unresolved one) (Scored other) = refl
by_parts_is (Unresolved one) (Unresolved other) = refl
by_parts_is (Unresolved one) (Unset other) = refl
by_parts_is (Unset one) (Scored other) = refl
by_parts_is (Unset one) (Unresolved other) = refl
by_parts_is (Unset one) (Unset other) = refl

outcomes_total : IsTotalOrder outcome_cmp
outcomes_total = record {
  antisymm = λ one other. by_parts_is one other ∙ parts_total.antisymm one other ∙ ap ordering_reverse (sym (by_parts_is other one));
  trans = λ one other third less lesser. by_parts_is one third
      ∙ parts_total.trans one other third (sym (by_parts_is one other) ∙ less) (sym (by_parts_is other third) ∙ lesser);
  congr = λ one other third same. by_parts_is one third ∙ parts_total.congr one other third (sym (by_parts_is one other) ∙ same)
      ∙ sym (by_parts_is other third);
}

pub rows_total : IsTotalOrder row_cmp
rows_total = then_total (on_total (λ (row : FleetRow). row.outcome) outcomes_total)
    (on_total (λ (row : FleetRow). text_of row.name) nat_list_cmp_total)

-- ---- rows that are sorted by it
below : (one other : ℕ) → nat_cmp one other ≡ Greater → other < one
below one other e = by_tests (nat_lt one other) refl (one == other) refl e
  where
    by_tests : (a : Bool) → nat_lt one other ≡ a → (b : Bool) → (one == other) ≡ b → cond a Less (cond b Equal Greater) ≡ Greater
        → other < one
    by_tests true is b also e = cc
    by_tests false is true also e = cc
    by_tests false is false also e = grind (arith, nat_tests)

equal : (one other : ℕ) → nat_cmp one other ≡ Equal → one ≡ other
equal one other e = by_tests (nat_lt one other) refl (one == other) refl e
  where
    by_tests : (a : Bool) → nat_lt one other ≡ a → (b : Bool) → (one == other) ≡ b → cond a Less (cond b Equal Greater) ≡ Equal
        → one ≡ other
    by_tests true is b also e = cc
    by_tests false is true also e = grind (arith, nat_tests)
    by_tests false is false also e = cc

stand_scored : (one other : ℕ) (names : Ordering) (order : Ordering) → nat_cmp one other ≡ order
    → is_lt (ordering_then order names) ≡ false → (other < one) ⊎ ((one ≡ other) × (is_lt names ≡ false))
stand_scored one other names Less e h = cc
stand_scored one other names Equal e h = inr (equal one other e, h)
stand_scored one other names Greater e h = inl (below one other e)

stand : (one other : FleetOutcome) (names : Ordering) → is_lt (ordering_then (outcome_cmp other one) names) ≡ false
    → StandBy one other (is_lt names ≡ false)
stand (Scored one) (Scored other) names h = stand_scored one other names (nat_cmp one other) refl h
stand (Scored one) (Unresolved other) names h = tt
stand (Scored one) (Unset other) names h = tt
stand (Unresolved one) (Scored other) names h = cc
stand (Unresolved one) (Unresolved other) names h = h
stand (Unresolved one) (Unset other) names h = h
stand (Unset one) (Scored other) names h = cc
stand (Unset one) (Unresolved other) names h = h
stand (Unset one) (Unset other) names h = h

pub in_order : (rows : List FleetRow) → IsSortedBy (λ one other. is_lt (row_cmp one other)) rows → AreInOrder rows
in_order rows sorted = λ i j d h inside.
    stand (get_or rows i d).outcome (get_or rows j d).outcome
    (slice_cmp nat_cmp (text_of (get_or rows j d).name) (text_of (get_or rows i d).name))
    (sorted_far (λ one other. is_lt (row_cmp one other)) (ranks_by rows_total (λ (row : FleetRow). row)) rows sorted i j d
    (omega (arith, h)) inside)
