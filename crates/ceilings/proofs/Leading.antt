-- The first entries that lead to a row: which of them are looked at, and where the search for a wish begins.
use Rattle.std.proofs.Common.{◌≡◌, ◌≤◌, ◌<◌, ◌∙◌, inl, inr, ℕ, zero, suc, Bool, true, false, List, [], ◌∷◌, ◌++◌, Some, None, refl, cond}
use Rattle.std.proofs.Common.{ap, sym, ◌+◌, ◌-◌, length, drop, map, get_or, arith, eqb, append_assoc}
use Rattle.std.specs.Prelude.{slice_get, not, ◌||◌, ◌&&◌}
use Rattle.std.specs.List.{list_any}
use Rattle.std.proofs.lemmas.Bool.{or_from, cases_lt, eq-eqb, not-false}
use Rattle.std.proofs.lemmas.Bool.Decides.{nat_tests}
use mathlib.Core.Bool.{and-false}
use Rattle.kernel_ways.specs.abs_path.Paths.{Path}
use Rattle.kernel_ways.specs.abs_path.Prefix.{is_prefix, is_same, rest_of}
use Rattle.kernel_ways.proofs.OfAbsPath.Prefixes.{prefix_and_rest, same_path}
use Rattle.kernel_ways.specs.kern_mounts.Entry.{Belongs, leads_to}
use Rattle.kernel_ways.specs.kern_mounts.Split.{Table}
use Rattle.kernel_ways.specs.kern_mounts.declared.step.MountStep.{MountStep}
use Rattle.kernel_ways.specs.kern_mounts.declared.step.What.TheVariants.{Host}
use Rattle.kernel_ways.specs.kernel_laws.declared.question_types.wish.Wish.{Wish}
use Rattle.kernel_ways.specs.kernel_laws.declared.question_types.wish.Wish.TheVariants.{See as ToSee}
use Rattle.kernel_ways.specs.kernel_laws.Reach.{fits, shows_row, reach_from}
use Rattle.kernel_ways.proofs.OfReachPaths.Looping.{from_here}
use Rattle.ceilings.specs.Leads.{is_elsewhere, is_moved}

-- ---- entries behind a number
any_behind : (p : MountStep → Bool) (table : Table) (from k : ℕ) (d : MountStep) → from ≤ k → k < length table
    → p (get_or table k d) ≡ true → list_any p (drop from table) ≡ true
any_behind p [] from k d low high is = absurd (omega arith)
any_behind p (first ∷ table) zero zero d low high is = ap (λ b. b || list_any p table) is
any_behind p (first ∷ table) zero (suc k) d low high is = by (p first) (any_behind p table zero k d (omega arith) (omega arith) is)
  where
    by : (b : Bool) → list_any p table ≡ true → (b || list_any p table) ≡ true
    by true more = refl
    by false more = more
any_behind p (first ∷ table) (suc from) zero d low high is = absurd (omega arith)
any_behind p (first ∷ table) (suc from) (suc k) d low high is = any_behind p table from k d (omega arith) (omega arith) is

none_behind : (p : MountStep → Bool) (table : Table) (from : ℕ)
    → ((k : ℕ) (d : MountStep) → from ≤ k → k < length table → p (get_or table k d) ≡ false) → list_any p (drop from table) ≡ false
none_behind p [] zero h = refl
none_behind p [] (suc from) h = refl
none_behind p (first ∷ table) zero h =
    or_from (p first) (list_any p table) (h zero first (omega arith) (omega arith))
    (none_behind p table zero (λ k d low high. h (suc k) d (omega arith) (omega arith)))
none_behind p (first ∷ table) (suc from) h = none_behind p table from (λ k d low high. h (suc k) d (omega arith) (omega arith))

in_range : (table : Table) (at : ℕ) (entry : MountStep) → slice_get table at ≡ Some entry → at < length table
in_range [] at entry e = cc
in_range (first ∷ table) zero entry e = omega arith
in_range (first ∷ table) (suc at) entry e = let more = in_range table at entry e in omega (arith, more)

there : (table : Table) (at : ℕ) (entry : MountStep) → slice_get table at ≡ Some entry → get_or table at entry ≡ entry
there [] at entry e = cc
there (first ∷ table) zero entry e = cc
there (first ∷ table) (suc at) entry e = there table at entry e

less : (a b : ℕ) → a < b → eqb a b ≡ false
less a b h = grind (arith, nat_tests)

more : (a b : ℕ) → b < a → eqb a b ≡ false
more a b h = grind (arith, nat_tests)

-- ---- an entry that shows the host's own place shows the row exactly where the row's own path belongs to it
module _ (table : Table) (row : Path) (own at : ℕ) (entry : MountStep) (belongs : Belongs table row own) (is : slice_get table at ≡ Some entry) where
  abbrev shown_at : Path → Bool
  shown_at source = is_prefix source row && not (list_any (leads_to (entry.place ++ rest_of source row)) (drop (at + 1) table))

  -- what it shows is the row itself
  at_itself : is_prefix entry.place row ≡ true → (covered : Bool) → list_any (leads_to row) (drop (at + 1) table) ≡ covered
      → not covered ≡ shown_at entry.place
  at_itself leads covered so =
      ap not (sym so)
      ∙ ap (λ (path : Path). not (list_any (leads_to path) (drop (at + 1) table))) (sym (prefix_and_rest entry.place row leads))
      ∙ ap (λ b. b && not (list_any (leads_to (entry.place ++ rest_of entry.place row)) (drop (at + 1) table))) (sym leads)

  before : at < own → false ≡ shown_at entry.place
  before h = by (is_prefix entry.place row) refl
    where
      by : (b : Bool) → is_prefix entry.place row ≡ b → false ≡ shown_at entry.place
      by false e = sym (ap (λ b. b && not (list_any (leads_to (entry.place ++ rest_of entry.place row)) (drop (at + 1) table))) e)
      by true e = at_itself e true (any_behind (leads_to row) table (at + 1) own entry (omega arith) belongs.in_range (belongs.leads entry))

  behind : own < at → false ≡ shown_at entry.place
  behind h =
      let hidden : leads_to row (get_or table at entry) ≡ false = belongs.none_later at entry (omega arith) (in_range table at entry is) in
      let hidden' : is_prefix entry.place row ≡ false = ap (leads_to row) (sym (there table at entry is)) ∙ hidden in
      sym (ap (λ b. b && not (list_any (leads_to (entry.place ++ rest_of entry.place row)) (drop (at + 1) table))) hidden')

  here : at ≡ own → true ≡ shown_at entry.place
  here same =
      let leads : leads_to row (get_or table own entry) ≡ true = belongs.leads entry in
      let leads' : is_prefix entry.place row ≡ true = ap (leads_to row) (sym (there table at entry is)) ∙ ap (λ k. leads_to row (get_or table k entry)) same ∙ leads in
      at_itself leads' false (none_behind (leads_to row) table (at + 1)
      (λ k d low high. belongs.none_later k d (omega (arith, same, low)) high))

  by_number : eqb at own ≡ shown_at entry.place
  by_number = elim (cases_lt at own) [
    | inl low ↦ less at own low ∙ before low
    | inr high ↦ elim (cases_lt own at) [
      | inl later ↦ more at own later ∙ behind later
      | inr not_later ↦ (let same : at ≡ own = omega arith in eq-eqb at own same ∙ here same)
    ]
  ]

  pub shows_own : (source : Path) → entry.what ≡ Host source → is_moved entry ≡ false
      → eqb at own ≡ shows_row false entry (drop (at + 1) table) row entry.what
  shows_own source host unmoved =
      let still : not (is_same source entry.place) ≡ false = ap (is_elsewhere entry.place) (sym host) ∙ unmoved in
      let same : entry.place ≡ source = sym (same_path source entry.place (not-false _ still)) in
      by_number ∙ ap shown_at same ∙ ap (shows_row false entry (drop (at + 1) table) row) (sym host)

-- ---- the search for one wish and another
reached_behind : (uncover : Bool) (row : Path) (wish : Wish) (table : Table) (n m : ℕ) → reach_from uncover row wish table n ≡ Some m
    → n ≤ m
reached_behind uncover row wish [] n m e = cc
reached_behind uncover row wish (entry ∷ table) n m e =
    by (fits wish entry.flags && shows_row uncover entry table row entry.what) e (reached_behind uncover row wish table (n + 1) m)
  where
    by : (b : Bool) → cond b (Some n) (reach_from uncover row wish table (n + 1)) ≡ Some m
        → (reach_from uncover row wish table (n + 1) ≡ Some m → n + 1 ≤ m) → n ≤ m
    by true e more = let same : n ≡ m = cc in omega (arith, same)
    by false e more = let h = more e in omega (arith, h)

module _ (row : Path) (wish : Wish) where
  -- the first entry does not show the row
  passed : (entry : MountStep) (table : Table) (n : ℕ) → shows_row false entry table row entry.what ≡ false
      → reach_from false row wish (entry ∷ table) n ≡ reach_from false row wish table (n + 1)
  passed entry table n off =
      ap (λ b. cond (fits wish entry.flags && b) (Some n) (reach_from false row wish table (n + 1))) off
      ∙ ap (λ b. cond b (Some n) (reach_from false row wish table (n + 1))) (and-false (fits wish entry.flags))

  -- a row that may not be seen may be nothing else
  unseen_from : (table : Table) (n : ℕ) → reach_from false row ToSee table n ≡ None → reach_from false row wish table n ≡ None
  unseen_from [] n e = refl
  unseen_from (entry ∷ table) n e = by (shows_row false entry table row entry.what) refl e (unseen_from table (n + 1))
    where
      by : (b : Bool) → shows_row false entry table row entry.what ≡ b → cond b (Some n) (reach_from false row ToSee table (n + 1)) ≡ None
          → (reach_from false row ToSee table (n + 1) ≡ None → reach_from false row wish table (n + 1) ≡ None)
          → reach_from false row wish (entry ∷ table) n ≡ None
      by true is e more = cc
      by false is e more = passed entry table n is ∙ more e

  -- and no entry before the first that shows it leads to it
  seen_from : (table : Table) (n m : ℕ) → reach_from false row ToSee table n ≡ Some m
      → reach_from false row wish table n ≡ reach_from false row wish (drop (m - n) table) m
  seen_from [] n m e = cc
  seen_from (entry ∷ table) n m e = by (shows_row false entry table row entry.what) refl e (seen_from table (n + 1) m)
    where
      by : (b : Bool) → shows_row false entry table row entry.what ≡ b → cond b (Some n) (reach_from false row ToSee table (n + 1)) ≡ Some m
          → (reach_from false row ToSee table (n + 1) ≡ Some m
          → reach_from false row wish table (n + 1) ≡ reach_from false row wish (drop (m - (n + 1)) table) m)
          → reach_from false row wish (entry ∷ table) n ≡ reach_from false row wish (drop (m - n) (entry ∷ table)) m
      by true is e more =
          let same : n ≡ m = cc in
          let none : 0 ≡ m - n = omega (arith, same) in
          ap (λ k. reach_from false row wish (drop k (entry ∷ table)) n) none
          ∙ ap (λ k. reach_from false row wish (drop (m - n) (entry ∷ table)) k) same
      by false is e more =
          let low : n + 1 ≤ m = reached_behind false row ToSee table (n + 1) m e in
          let one : suc (m - (n + 1)) ≡ m - n = omega (arith, low) in
          passed entry table n is ∙ more e ∙ ap (λ k. reach_from false row wish (drop k (entry ∷ table)) m) one

  pub unseen : (table : Table) → None ≡ reach_from false row ToSee table 0 → None ≡ reach_from false row wish table 0
  unseen table e = sym (unseen_from table 0 (sym e))

  pub seen : (table : Table) (at : ℕ) → Some at ≡ reach_from false row ToSee table 0
      → reach_from false row wish (drop at table) at ≡ reach_from false row wish table 0
  seen table at e =
      let all : at - 0 ≡ at = omega arith in
      sym (seen_from table 0 at (sym e) ∙ ap (λ k. reach_from false row wish (drop k table) at) all)

-- ---- a list that is made entry by entry
mapped : (table : Table) (at : ℕ) (entry : MountStep) (d : Bool) → slice_get table at ≡ Some entry
    → get_or (map is_moved table) at d ≡ is_moved entry
mapped [] at entry d e = cc
mapped (first ∷ table) zero entry d e = let same : first ≡ entry = cc in ap is_moved same
mapped (first ∷ table) (suc at) entry d e = mapped table at entry d e

pub kept_at : (table : Table) (at : ℕ) (entry : MountStep) (list : List Bool) (d : Bool) → list ≡ map is_moved table
    → slice_get table at ≡ Some entry → get_or list at d ≡ is_moved entry
kept_at table at entry list d all e = ap (λ (l : List Bool). get_or l at d) all ∙ mapped table at entry d e

pub moved_more : (table : Table) (at : ℕ) (entry : MountStep) (list : List Bool) (moved : Bool) → slice_get table at ≡ Some entry
    → moved ≡ is_moved entry
    → (list ++ moved ∷ []) ++ map is_moved (drop (at + 1) table) ≡ list ++ map is_moved (drop at table)
moved_more table at entry list moved e is =
    append_assoc list (moved ∷ []) (map is_moved (drop (at + 1) table))
    ∙ ap (λ b. list ++ b ∷ map is_moved (drop (at + 1) table)) is
    ∙ ap (λ (t : Table). list ++ map is_moved t) (sym (from_here table at entry e))
