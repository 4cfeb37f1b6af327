-- Prefixes of paths, what lies behind them, and how long paths are.
use Rattle.std.proofs.Common.{◌≡◌, ◌+◌, ℕ, Bool, true, false, List, [], ◌∷◌, ◌++◌, ◌⊎◌, inl, inr, length, refl, sym, ap, ◌∙◌, length-append}
use Rattle.std.proofs.Common.{append-nil}
use Rattle.std.specs.Prelude.{nat_lt, not, ◌&&◌}
use Rattle.std.proofs.lemmas.Bool.{and_parts, and_from, false≢true}
use Rattle.abs_path.specs.Paths.{Path, tail_of}
use Rattle.abs_path.specs.Prefix.{is_prefix, is_same, rest_of, is_below as is_path_below}
use Rattle.abs_path.proofs.ByteOrder.{tail-append}
use Rattle.abs_path.proofs.Prefixes.{part_itself, prefix_itself, prefix_and_rest, prefix-append, prefix_chain, prefix_trans, same_path}
use Rattle.abs_path.proofs.Prefixes.{same_itself}
use Rattle.kern_mounts.specs.declared.step.MountStep.{MountStep}
use Rattle.kern_mounts.specs.Split.{is_below}
use Rattle.kern_mounts.specs.Bind.{is_long}

pub behind : (front path : Path) → is_prefix front path ≡ true → path ≡ front ++ rest_of front path
behind front path h = sym (prefix_and_rest front path h)

-- what leads to a prefix leads to the path
pub leads_on : (front path more : Path) → is_prefix front path ≡ true → is_prefix front (path ++ more) ≡ true
leads_on front path more h = prefix_trans front path (path ++ more) h (prefix-append path more)

by_bool : (b : Bool) → (b ≡ true) ⊎ (b ≡ false)
by_bool true = inl refl
by_bool false = inr refl

pub either : (b : Bool) → (b ≡ true) ⊎ (b ≡ false)
either b = by_bool b

-- what does not lead to the longer path does not lead to the shorter
pub leads_not : (front path more : Path) → is_prefix front (path ++ more) ≡ false → is_prefix front path ≡ false
leads_not front path more h = by (is_prefix front path) (leads_on front path more)
  where
    by : (b : Bool) → (b ≡ true → is_prefix front (path ++ more) ≡ true) → b ≡ false
    by true on = let e = on refl in cc
    by false on = refl

-- a common front changes nothing
pub front_leads : (front one other : Path) → is_prefix (front ++ one) (front ++ other) ≡ is_prefix one other
front_leads [] one other = refl
front_leads (part ∷ front) one other = rw (part_itself part part refl) (front_leads front one other)

pub front_same : (front one other : Path) → is_same (front ++ one) (front ++ other) ≡ is_same one other
front_same [] one other = refl
front_same (part ∷ front) one other = rw (part_itself part part refl) (front_same front one other)

-- a place that leads to a path below a front, and not to the front, stands strictly below it
pub stands_below : (front rest place : Path) → is_prefix place (front ++ rest) ≡ true → is_prefix place front ≡ false
    → is_path_below place front ≡ true
stands_below front rest place leads not_there = elim (prefix_chain place front (front ++ rest) leads (prefix-append front rest)) [
  | inl there ↦ absurd (false≢true (sym not_there ∙ there))
  | inr below ↦ and_from (is_prefix front place) (not (is_same front place)) below (apart (is_same front place) (same_path front place))
]
  where
    apart : (b : Bool) → (b ≡ true → front ≡ place) → not b ≡ true
    apart false same = refl
    apart true same =
        let there : is_prefix place front ≡ true = ap (is_prefix place) (same refl) ∙ prefix_itself place in
        absurd (false≢true (sym not_there ∙ there))

-- what has nothing behind a path does not stand strictly below it
pub none_behind : (front path : Path) → rest_of front path ≡ [] → is_path_below path front ≡ false
none_behind front path none = by (is_prefix front path) refl
  where
    by : (b : Bool) → is_prefix front path ≡ b → (b && not (is_same front path)) ≡ false
    by false e = refl
    by true e = ap (λ (p : Path). not (is_same front p)) (sym (prefix_and_rest front path e) ∙ ap (λ more. front ++ more) none
        ∙ append-nil front) ∙ ap not (same_itself front)

-- a path is too long by its parts with the slashes before them
pub long_tail : (path : Path) → is_long path ≡ nat_lt 512 (length (tail_of path))
long_tail [] = refl
long_tail (part ∷ path) = refl

-- what stands strictly below a path has the path as a front
pub below_leads : (path : Path) (entry : MountStep) → is_below path entry ≡ true → is_prefix path entry.place ≡ true
below_leads path entry h = (and_parts (is_prefix path entry.place) (not (is_same path entry.place)) h).0

-- whether two paths joined are too long, by their lengths
pub long_by_length : (onto more : Path) (n : ℕ) (rest : List ℕ) → n ≡ length (tail_of onto) → rest ≡ tail_of more
    → nat_lt 512 (n + length rest) ≡ is_long (onto ++ more)
long_by_length onto more n rest e f =
    ap (λ k. nat_lt 512 (k + length rest)) e ∙ ap (λ t. nat_lt 512 (length (tail_of onto) + length t)) f
    ∙ ap (nat_lt 512) (sym (length-append (tail_of onto) (tail_of more)))
    ∙ ap (λ t. nat_lt 512 (length t)) (sym (tail-append onto more))
    ∙ sym (long_tail (onto ++ more))
