-- Going over a list and keeping what passes a test, in place: what is kept is put behind the front.
use Rattle.std.proofs.Common.{◌≡◌, ◌<◌, ◌≤◌, ◌+◌, ℕ, Bool, List, ◌++◌, append-nil, filter, length, take, drop, get_or, refl, sym, ap, ◌∙◌}
use Rattle.std.proofs.Common.{arith}
use Rattle.std.proofs.lemmas.List.{drop_all}

-- the elements before `index` are looked at: of those from `at` on what is kept stands before `kept`, and the others are as they were
pub record Gone {X : Type 0} (p : X → Bool) (old items : List X) (at kept index : ℕ) : Type 0 where
  pub from : at ≤ kept
  pub below : kept < index
  pub long : length items ≡ length old
  pub same : (k : ℕ) (d : X) → index ≤ k → get_or items k d ≡ get_or old k d
  pub all : take kept items ++ filter p (drop index old) ≡ take at old ++ filter p (drop (at + 1) old)

pub gone_start : {X : Type 0} (p : X → Bool) (old : List X) (at : ℕ) → Gone p old old at at (at + 1)
gone_start p old at = record { from = omega arith; below = omega arith; long = refl; same = λ k d le. refl; all = refl }

-- and where all were looked at, what stands before `kept` is what stays
pub gone_all : {X : Type 0} (p : X → Bool) (old items : List X) (at kept index : ℕ) → Gone p old items at kept index → length old ≤ index
    → take kept items ≡ take at old ++ filter p (drop (at + 1) old)
gone_all p old items at kept index g le =
    sym (append-nil (take kept items)) ∙ ap (λ l. take kept items ++ filter p l) (sym (drop_all index old le)) ∙ g.all
