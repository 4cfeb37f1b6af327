-- Sets that were tried.
use Rattle.std.proofs.Common.{◌≡◌, ◌⊎◌, inl, inr, ℕ, ◌+◌, ◌<◌, ◌≤◌, Bool, true, false, List, ◌∷◌, length, Some, None, refl, sym, ap, ◌∙◌}
use Rattle.std.proofs.Common.{subst, arith, eqb, eq-eqb}
use Rattle.std.proofs.lemmas.Bool.{eqb-true}
use Rattle.tighten_command.specs.tightening.Items.{has, in_order}
use Rattle.tighten_command.specs.tightening.Searching.{IsHeld, IsMost, IsServing, IsSettled, Tells, TriesItem, TriesItems, outside}
use Rattle.tighten_command.specs.tightening.Tried.{Stops, Tried}
use Rattle.tighten_command.specs.declared.tightening.searching.Held.{Held}
use Rattle.tighten_command.proofs.Sets.{fewer_outside, with_some}

module _ (tried : Tried) where
  -- before any item is tried
  pub tried_none : (held : Held) → IsHeld tried held → TriesItems tried held.set.items 0 held
  tried_none held holds = record {
    holds = holds;
    came = inl (refl, λ item lo hi. absurd (omega (arith, lo, hi)));
  }

  -- one item more
  module _ (set : List ℕ) (count item : ℕ) (few : count < 17) (is : item + count ≡ 17) (kept next : Held) (before : TriesItems tried set count kept) (one : TriesItem tried kept.set.items item next) where
    pub tried_more : TriesItems tried set (count + 1) next
    tried_more = record { holds = one.holds; came = by before.came one.came } where
      lo : 1 ≤ item
      lo = omega (arith, few, is)

      hi : item ≤ 17
      hi = omega (arith, is)

      settled : kept.set.items ≡ set → ((other : ℕ) → 17 < other + count → other ≤ 17 → IsSettled tried set other)
          → IsSettled tried kept.set.items item → (other : ℕ) → 17 < other + (count + 1) → other ≤ 17 → IsSettled tried set other
      settled same all own other above within = pick (other_or (eqb other item) refl) where
        other_or : (b : Bool) → eqb other item ≡ b → (other ≡ item) ⊎ (17 < other + count)
        other_or true e = inl (eqb-true other item e)
        other_or false e = inr (let apart : other ≡ item → ⊥ = λ equal. (let both : true ≡ false = sym (eq-eqb other item equal) ∙ e in cc) in omega (arith, apart, above, within, is))

        pick : (other ≡ item) ⊎ (17 < other + count) → IsSettled tried set other
        pick (inl equal) = subst (IsSettled tried set) (sym equal) (subst (λ own. IsSettled tried own item) same own)
        pick (inr before) = all other before within

      by : ((kept.set.items ≡ set) × ((other : ℕ) → 17 < other + count → other ≤ 17 → IsSettled tried set other)) ⊎
          ((length set < length kept.set.items) × (outside kept.set.items < outside set))
          → ((next.set.items ≡ kept.set.items) × IsSettled tried kept.set.items item) ⊎
          ((next.set.items ≡ item ∷ kept.set.items) × (has kept.set.items item ≡ false))
          → ((next.set.items ≡ set) × ((other : ℕ) → 17 < other + (count + 1) → other ≤ 17 → IsSettled tried set other)) ⊎
          ((length set < length next.set.items) × (outside next.set.items < outside set))
      by (inl stayed) (inl own) = inl (own.0 ∙ stayed.0, settled stayed.0 stayed.1 own.1)
      by (inr grown) (inl own) = inr (subst (λ these. (length set < length these) × (outside these < outside set)) (sym own.0) grown)
      by (inl stayed) (inr added) =
          let long = ap length (added.0 ∙ ap (λ these. item ∷ these) stayed.0) in
          let less = fewer_outside kept.set.items item lo hi added.1 in
          let out : outside next.set.items < outside set = subst (λ these. outside next.set.items < outside these) stayed.0 (subst (λ these. outside these < outside kept.set.items) (sym added.0) less) in
          inr (omega (arith, long), out)
      by (inr grown) (inr added) =
          let long = ap length added.0 in
          let less = fewer_outside kept.set.items item lo hi added.1 in
          let out : outside next.set.items < outside kept.set.items = subst (λ these. outside these < outside kept.set.items) (sym added.0) less in
          let first = grown.0 in
          let second = grown.1 in
          inr (omega (arith, long, first), omega (arith, out, second))

  -- where no item was added, all are settled
  pub most_of : (set : List ℕ) (held : Held) → TriesItems tried set 17 held → length held.set.items ≡ length set → IsMost tried held
  most_of set held one same = record { holds = one.holds; settled = by one.came } where
    by : ((held.set.items ≡ set) × ((item : ℕ) → 17 < item + 17 → item ≤ 17 → IsSettled tried set item)) ⊎
        ((length set < length held.set.items) × (outside held.set.items < outside set))
        → (item : ℕ) → 1 ≤ item → item ≤ 17 → IsSettled tried held.set.items item
    by (inl stayed) item lo hi = subst (λ these. IsSettled tried these item) (sym stayed.0) (stayed.1 item (omega (arith, lo)) hi)
    by (inr grown) item lo hi = let first = grown.0 in absurd (omega (arith, first, same))

-- an item that is tried
module _ (tried : Tried) (held : Held) (item : ℕ) (first lent wider lent_wider : List ℕ) (in_it : Bool) (holds : IsHeld tried held)
    (lends_first : first ≡ held.set.items) (says : in_it ≡ has first item)
    (lends : lent ≡ held.set.items) (made : wider ≡ item ∷ lent) (lends_wider : lent_wider ≡ wider) where
  with_it : lent_wider ≡ item ∷ held.set.items
  with_it = lends_wider ∙ made ∙ ap (λ these. item ∷ these) lends

  pub some : 1 ≤ item → item ≤ 17 → 0 < length (in_order lent_wider)
  some lo hi = subst (λ these. 0 < length (in_order these)) (sym with_it) (with_some held.set.items item lo hi)

  -- the set with it does not serve
  pub stays_without : Tells tried lent_wider None → TriesItem tried held.set.items item held
  stays_without stops = record { holds = holds; came = inl (refl, inr (subst (Stops tried) with_it stops)) }

  -- it serves
  pub goes_with : (next : Held) → next.set.items ≡ wider → in_it ≡ false → Tells tried lent_wider (Some next.bounded)
      → TriesItem tried held.set.items item next
  goes_with next is new serves = record {
    holds = subst (λ these. IsServing tried these next.bounded) (lends_wider ∙ sym is) serves;
    came = inr (is ∙ sym lends_wider ∙ with_it, ap (λ these. has these item) (sym lends_first) ∙ sym says ∙ new);
  }

-- it is in the set already
pub stays_with : (tried : Tried) (held : Held) (item : ℕ) (first : List ℕ) (in_it : Bool) → IsHeld tried held → first ≡ held.set.items
    → in_it ≡ has first item → in_it ≡ true → TriesItem tried held.set.items item held
stays_with tried held item first in_it holds lends says is =
    record { holds = holds; came = inl (refl, inl (ap (λ these. has these item) (sym lends) ∙ sym says ∙ is)) }
