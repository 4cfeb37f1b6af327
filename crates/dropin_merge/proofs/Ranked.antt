-- The winners have the least rank.
use Rattle.std.proofs.Common.{◌≡◌, ℕ, suc, zero, ◌≤◌, Bool, true, false, cond, List, [], ◌∷◌, Option, Some, None, refl, sym, ap, ◌∙◌, subst}
use Rattle.std.proofs.Common.{arith}
use Rattle.std.specs.Prelude.{◌↔◌, find}
use Rattle.std.specs.List.{Contains, slice_get}
use Rattle.std.specs.Map.{keys_of, lookup}
use Rattle.std.specs.List.Sorted.{IsStrictlySortedBy}
use Rattle.std.specs.BTreeMap.{is_at}
use Rattle.std.specs.Ordering.{eq_by_cmp}
use Rattle.std.proofs.lemmas.Cmp.{nat_list_cmp_total, eq_by_cmp_equiv}
use Rattle.std.proofs.lemmas.Map.Lookups.{exact_bytes}
use Rattle.std.proofs.lemmas.Map.Keys.{IsDistinct-from_sorted}
use Rattle.std.proofs.lemmas.Map.Views.{tells_apart, Contains-from_lookup, lookup-from_Contains}
use Rattle.host_io.specs.Files.{Files}
use Rattle.unit_names.specs.Names.{Name}
use Rattle.dropin_merge.specs.Places.{below, dropin_places}
use Rattle.dropin_merge.specs.Winners.{is_there, is_conf, paths_in, winner_among, winners_of}
use Rattle.dropin_merge.specs.Ranks.{IsDropin, Wins, AreWinners}
use Rattle.dropin_merge.proofs.Ordered.{byte_cmp}
use Rattle.dropin_merge.proofs.Winning.{lookup-winners_of, winners_of-sorted, same_from_lookups}

some_same : {X : Type 0} (x y : X) → Some x ≡ Some y → x ≡ y
some_same x y e = cc

module _ (files : Files) (q : List ℕ) where
  -- a drop-in of later places has one rank more if another place precedes them
  later : (place : List ℕ) (places : List (List ℕ)) (path : List ℕ) (rank : ℕ) → IsDropin files places q path rank
      → IsDropin files (place ∷ places) q path (suc rank)
  later place places path rank d = record { counts = d.counts; place = d.place; ranked = d.ranked; lies = d.lies; there = d.there }

  sooner : (place : List ℕ) (places : List (List ℕ)) (path : List ℕ) (rank : ℕ) → IsDropin files (place ∷ places) q path (suc rank)
      → IsDropin files places q path rank
  sooner place places path rank d = record { counts = d.counts; place = d.place; ranked = d.ranked; lies = d.lies; there = d.there }

  -- the drop-in of the first place
  first_is : (place : List ℕ) (places : List (List ℕ)) (path : List ℕ) → IsDropin files (place ∷ places) q path 0 → path ≡ below place q
  first_is place places path d = d.lies ∙ ap (λ p. below p q) (sym (some_same place d.place d.ranked))

  not_both : (b : Bool) → b ≡ true → b ≡ false → ⊥
  not_both b t f = cc

  after_first : (place : List ℕ) (places : List (List ℕ)) (path : List ℕ) (w : Wins files places q path)
      → is_there files (below place q) ≡ false → (other : List ℕ) (higher : ℕ) → IsDropin files (place ∷ places) q other higher
      → suc w.rank ≤ higher
  after_first place places path w absent other zero d = absurd
      (not_both _ (ap (is_there files) (sym (first_is place places other d)) ∙ d.there) absent)
  after_first place places path w absent other (suc higher) d =
      let le : w.rank ≤ higher = w.least other higher (sooner place places other higher d) in
      omega arith

  found_wins : is_conf q ≡ true → (places : List (List ℕ)) (path : List ℕ) → find (is_there files) (paths_in places q) ≡ Some path
      → Wins files places q path
  found_wins conf [] path e = cc
  found_wins conf (place ∷ places) path e = by_there (found_wins conf places path) (is_there files (below place q)) refl e
    where
      by_there : (find (is_there files) (paths_in places q) ≡ Some path → Wins files places q path) → (b : Bool)
          → is_there files (below place q) ≡ b → cond b (Some (below place q)) (find (is_there files) (paths_in places q)) ≡ Some path
          → Wins files (place ∷ places) q path
      by_there behind true there e =
          let same : path ≡ below place q = sym (some_same (below place q) path e) in
          record {
            rank = 0;
            dropin = record { counts = conf; place = place; ranked = refl; lies = same; there = ap (is_there files) same ∙ there };
            least = λ other higher d. omega arith;
          }
      by_there behind false there e =
          let w : Wins files places q path = behind e in
          record {
            rank = suc w.rank;
            dropin = later place places path w.rank w.dropin;
            least = after_first place places path w there;
          }

  absent_from : (b : Bool) → (b ≡ true → ⊥) → b ≡ false
  absent_from true h = absurd (h refl)
  absent_from false h = refl

  wins_found : (places : List (List ℕ)) (rank : ℕ) (path : List ℕ) → IsDropin files places q path rank
      → ((other : List ℕ) (higher : ℕ) → IsDropin files places q other higher → rank ≤ higher)
      → find (is_there files) (paths_in places q) ≡ Some path
  wins_found [] rank path d least = absurd (nowhere d.place d.ranked)
    where
      nowhere : (place : List ℕ) → slice_get [] rank ≡ Some place → ⊥
      nowhere place e = cc
  wins_found (place ∷ places) zero path d least =
      let same : path ≡ below place q = first_is place places path d in
      ap (λ b. cond b (Some (below place q)) (find (is_there files) (paths_in places q))) (ap (is_there files) (sym same) ∙ d.there)
      ∙ ap Some (sym same)
  wins_found (place ∷ places) (suc rank) path d least =
      let absent : is_there files (below place q) ≡ false =
      absent_from (is_there files (below place q)) (λ there. no_less rank (least (below place q) 0 (record { counts = d.counts; place = place; ranked = refl; lies = refl; there = there }))) in
      ap (λ b. cond b (Some (below place q)) (find (is_there files) (paths_in places q))) absent
      ∙ wins_found places rank path (sooner place places path rank d)
      (λ other higher o. less_one rank higher (least other (suc higher) (later place places other higher o)))
    where
      no_less : (n : ℕ) → suc n ≤ 0 → ⊥
      no_less n h = omega arith

      less_one : (n m : ℕ) → suc n ≤ suc m → n ≤ m
      less_one n m h = omega arith

  pub winner_wins : (places : List (List ℕ)) (path : List ℕ) → winner_among files places q ≡ Some path → Wins files places q path
  winner_wins places path e = by_conf (is_conf q) refl e
    where
      by_conf : (b : Bool) → is_conf q ≡ b → cond b (find (is_there files) (paths_in places q)) None ≡ Some path → Wins files places q path
      by_conf true conf e = found_wins conf places path e
      by_conf false conf e = cc

  pub wins_winner : (places : List (List ℕ)) (path : List ℕ) → Wins files places q path → winner_among files places q ≡ Some path
  wins_winner places path w =
      ap (λ b. cond b (find (is_there files) (paths_in places q)) None) w.dropin.counts ∙ wins_found places w.rank path w.dropin w.least

-- a look-up finds exactly the pairs of the list
lookup_iff : (es : List (List ℕ × List ℕ)) → IsStrictlySortedBy byte_cmp (keys_of es) → (q path : List ℕ)
    → (lookup (is_at (byte_cmp q)) es ≡ Some path) ↔ Contains es (q, path)
lookup_iff es sorted q path = (
  Contains-from_lookup {eq = eq_by_cmp byte_cmp} (tells_apart exact_bytes) q path es,
  lookup-from_Contains {eq = eq_by_cmp byte_cmp} (eq_by_cmp_equiv nat_list_cmp_total) q path es
      (IsDistinct-from_sorted byte_cmp (keys_of es) sorted),
)

are_winners : (files : Files) (unit : Name) → AreWinners files unit (winners_of files unit)
are_winners files unit = record {
  in_order = winners_of-sorted files unit;
  exactly = λ q path.
      let iff = lookup_iff (winners_of files unit) (winners_of-sorted files unit) q path in (
        λ c. winner_wins files q (dropin_places unit) path (sym (lookup-winners_of files unit q) ∙ iff.1 c),
        λ w. iff.0 (lookup-winners_of files unit q ∙ wins_winner files q (dropin_places unit) path w),
      );
}

same_option : {X : Type 0} (a b : Option X) → ((x : X) → a ≡ Some x → b ≡ Some x) → ((x : X) → b ≡ Some x → a ≡ Some x) → a ≡ b
same_option None None f g = refl
same_option None (Some y) f g = g y refl
same_option (Some x) b f g = sym (f x refl)

-- the winners are all pairs of a file name and the path of least rank, in byte order
pub winning_is_by_rank : (files : Files) (unit : Name) (winners : List (List ℕ × List ℕ))
    → (winners_of files unit ≡ winners) ↔ AreWinners files unit winners
winning_is_by_rank files unit winners = (
  λ e. subst (AreWinners files unit) e (are_winners files unit),
  λ a. same_from_lookups (winners_of files unit) winners (winners_of-sorted files unit) a.in_order
      (λ q. same_option _ _
      (λ path e. (lookup_iff winners a.in_order q path).1
      ((a.exactly q path).1 (winner_wins files q (dropin_places unit) path (sym (lookup-winners_of files unit q) ∙ e))))
      (λ path e. lookup-winners_of files unit q ∙ wins_winner files q (dropin_places unit) path
      ((a.exactly q path).0 ((lookup_iff winners a.in_order q path).0 e)))),
)
