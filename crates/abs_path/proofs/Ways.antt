-- Ways lead down a tree by parts, and one more way to a new node changes them.
use Rattle.std.proofs.Common.{◌≡◌, ◌<◌, ◌⊎◌, inl, inr, ℕ, Bool, true, false, cond, List, [], ◌∷◌, ◌++◌, Option, Some, None, refl, sym, ap}
use Rattle.std.proofs.Common.{◌∙◌, arith}
use Rattle.std.specs.Prelude.{◌==◌, ◌&&◌, option_and_then}
use Rattle.std.specs.Str.{bytes_eq}
use Rattle.std.proofs.lemmas.Bool.{and_parts, eqb-true}
use Rattle.abs_path.specs.Paths.{Path}
use Rattle.abs_path.proofs.Prefixes.{same_part}
use Rattle.abs_path.specs.place_tree.Arena.{Ways, walk}

-- through something
pub through : {A B : Type 0} (o : Option A) (f : A → Option B) (last : B) → option_and_then f o ≡ Some last
    → (at : A) × (o ≡ Some at) × (f at ≡ Some last)
through None f last e = cc
through (Some at) f last e = (at, refl, e)

-- a way leads along a front, and then along the rest
pub walk-append : (ways : Ways) (at : ℕ) (front rest : Path)
    → walk ways at (front ++ rest) ≡ option_and_then (λ node. walk ways node rest) (walk ways at front)
walk-append ways at [] rest = refl
walk-append ways at (part ∷ front) rest = by (ways at part) (λ child. walk-append ways child front rest)
  where
    by : (o : Option ℕ) → ((child : ℕ) → walk ways child (front ++ rest)
        ≡ option_and_then (λ node. walk ways node rest) (walk ways child front)) →
        option_and_then (λ child. walk ways child (front ++ rest)) o
        ≡ option_and_then (λ node. walk ways node rest) (option_and_then (λ child. walk ways child front) o)
    by None more = refl
    by (Some child) more = more child

-- the same ways lead to the same nodes
pub walk_same : (ways others : Ways) → ((at : ℕ) (part : List ℕ) → others at part ≡ ways at part) → (at : ℕ) (path : Path)
    → walk others at path ≡ walk ways at path
walk_same ways others same at [] = refl
walk_same ways others same at (part ∷ path) = ap (option_and_then (λ child. walk others child path)) (same at part)
    ∙ by (ways at part) (λ child. walk_same ways others same child path)
  where
    by : (o : Option ℕ) → ((child : ℕ) → walk others child path ≡ walk ways child path)
        → option_and_then (λ child. walk others child path) o ≡ option_and_then (λ child. walk ways child path) o
    by None more = refl
    by (Some child) more = more child

-- one more way leads from a node to a new one, which has the next number
pub record OneMore (ways more : Ways) (at : ℕ) (part : List ℕ) (size : ℕ) : Type 0 where
  pub below : at < size
  pub none : ways at part ≡ None
  pub in_range : (from to : ℕ) (by : List ℕ) → ways from by ≡ Some to → to < size
  pub ends : (by : List ℕ) → ways size by ≡ None
  pub is : (from : ℕ) (by : List ℕ) → more from by ≡ cond (from == at && bytes_eq part by) (Some size) (ways from by)

pub way_was : (ways more : Ways) (at : ℕ) (part : List ℕ) (size : ℕ) → OneMore ways more at part size → (from to : ℕ) (step : List ℕ)
    → more from step ≡ Some to →
    (ways from step ≡ Some to) ⊎ ((from ≡ at) × (part ≡ step) × (to ≡ size))
way_was ways more at part size h from to step e = by (from == at && bytes_eq part step) (and_parts (from == at) (bytes_eq part step))
    (sym (h.is from step) ∙ e)
  where
    by : (b : Bool) → (b ≡ true → (from == at ≡ true) × (bytes_eq part step ≡ true)) → cond b (Some size) (ways from step) ≡ Some to
        → (ways from step ≡ Some to) ⊎ ((from ≡ at) × (part ≡ step) × (to ≡ size))
    by true both e = let two = both refl in inr (eqb-true from at two.0, same_part part step two.1, (cc))
    by false both e = inl e

pub way_stays : (ways more : Ways) (at : ℕ) (part : List ℕ) (size : ℕ) → OneMore ways more at part size → (from to : ℕ) (step : List ℕ)
    → ways from step ≡ Some to → more from step ≡ Some to
way_stays ways more at part size h from to step e = h.is from step
    ∙ by (from == at && bytes_eq part step) (and_parts (from == at) (bytes_eq part step))
  where
    by : (b : Bool) → (b ≡ true → (from == at ≡ true) × (bytes_eq part step ≡ true)) → cond b (Some size) (ways from step) ≡ Some to
    by false both = e
    by true both =
        let two = both refl in
        let same_at = eqb-true from at two.0 in
        let same_step = same_part part step two.1 in
        let gone : ways from step ≡ None = ap (λ n. ways n step) same_at ∙ ap (ways at) (sym same_step) ∙ h.none in
        cc

pub stays : (ways more : Ways) (at : ℕ) (part : List ℕ) (size : ℕ) → OneMore ways more at part size → (from to : ℕ) (path : Path)
    → walk ways from path ≡ Some to → walk more from path ≡ Some to
stays ways more at part size h from to [] e = e
stays ways more at part size h from to (step ∷ path) e =
    let there = through (ways from step) (λ child. walk ways child path) to e in
    ap (option_and_then (λ child. walk more child path)) (way_stays ways more at part size h from there.0 step there.1)
    ∙ stays ways more at part size h there.0 to path there.2

-- no way leads on from the new node
ended : (ways more : Ways) (at : ℕ) (part : List ℕ) (size : ℕ) → OneMore ways more at part size → (to : ℕ) (path : Path)
    → walk more size path ≡ Some to → (path ≡ []) × (to ≡ size)
ended ways more at part size h to [] e = (refl, (cc))
ended ways more at part size h to (step ∷ path) e =
    let there = through (more size step) (λ child. walk more child path) to e in
    elim (way_was ways more at part size h size there.0 step there.1) [
      | inl old ↦ absurd (let none = h.ends step in cc)
      | inr new ↦ absurd (let below = h.below in let same = new.0 in omega arith)
    ]

-- with one more way a path leads to its old node, or at last to the new node
abbrev pub Came : Ways → ℕ → List ℕ → ℕ → ℕ → ℕ → Path → Type 0
Came ways at part size from to path = ((to < size) × (walk ways from path ≡ Some to)) ⊎
    ((to ≡ size) × (front : Path) × (path ≡ front ++ part ∷ []) × (walk ways from front ≡ Some at))

pub came : (ways more : Ways) (at : ℕ) (part : List ℕ) (size : ℕ) → OneMore ways more at part size → (from to : ℕ) (path : Path)
    → from < size → walk more from path ≡ Some to → Came ways at part size from to path
came ways more at part size h from to [] lt e = let same : from ≡ to = cc in inl (omega arith, e)
came ways more at part size h from to (step ∷ path) lt e =
    let there = through (more from step) (λ child. walk more child path) to e in
    elim (way_was ways more at part size h from there.0 step there.1) [
      | inl old ↦ further there.0 old (came ways more at part size h there.0 to path (h.in_range from there.0 step old) there.2)
      | inr new ↦ (
          let here = ended ways more at part size h to path (ap (λ n. walk more n path) (sym new.2) ∙ there.2) in
          inr (here.1, [], ap (λ p. step ∷ p) here.0 ∙ ap (λ s. s ∷ []) (sym new.1), ap Some new.0)
          )
    ]
  where
    further : (child : ℕ) → ways from step ≡ Some child → Came ways at part size child to path
        → Came ways at part size from to (step ∷ path)
    further child way (inl old) = inl (old.0, ap (option_and_then (λ child. walk ways child path)) way ∙ old.1)
    further child way (inr new) =
        inr (new.0, step ∷ new.1, ap (λ p. step ∷ p) new.2, ap (option_and_then (λ child. walk ways child new.1)) way ∙ new.3)

-- one more way keeps any two paths apart
pub apart_still : (ways more : Ways) (at : ℕ) (part : List ℕ) (size : ℕ) → OneMore ways more at part size → 0 < size →
    ((one other : Path) (to : ℕ) → walk ways 0 one ≡ Some to → walk ways 0 other ≡ Some to → one ≡ other) →
    (one other : Path) (to : ℕ) → walk more 0 one ≡ Some to → walk more 0 other ≡ Some to → one ≡ other
apart_still ways more at part size h root apart one other to e f =
    by (came ways more at part size h 0 to one root e) (came ways more at part size h 0 to other root f)
  where
    by : Came ways at part size 0 to one → Came ways at part size 0 to other → one ≡ other
    by (inl old) (inl was) = apart one other to old.1 was.1
    by (inl old) (inr new) = absurd (let a = old.0 in let b = new.0 in omega arith)
    by (inr new) (inl old) = absurd (let a = old.0 in let b = new.0 in omega arith)
    by (inr new) (inr too) = new.2 ∙ ap (λ (front : Path). front ++ part ∷ []) (apart new.1 too.1 at new.3 too.3) ∙ sym too.2
