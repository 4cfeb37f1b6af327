-- The first entry that serves is the first that leads to the row, by its number.
use Rattle.std.proofs.Common.{◌≡◌, ◌<◌, ℕ, suc, Bool, true, false, [], ◌∷◌, ◌++◌, Option, Some, None, refl, cond, ap, ◌∙◌, sym, subst, ◌+◌}
use Rattle.std.proofs.Common.{length, arith}
use Rattle.std.specs.Prelude.{not, ◌||◌}
use Rattle.std.specs.List.{list_any}
use Rattle.std.proofs.lemmas.Bool.{and_from}
use Rattle.kernel_laws.specs.abs_path.Paths.{Path}
use Rattle.kernel_laws.specs.abs_path.Prefix.{is_prefix, rest_of}
use Rattle.kernel_laws.proofs.OfAbsPath.Prefixes.{prefix-append, rest-append}
use Rattle.kernel_laws.specs.kern_mounts.Entry.{leads_to}
use Rattle.kernel_laws.specs.kern_mounts.declared.step.MountStep.{MountStep}
use Rattle.kernel_laws.specs.kern_mounts.Split.{Table}
use Rattle.kernel_laws.proofs.OfKernMounts.Splits.{split_some}
use Rattle.kernel_laws.specs.kern_mounts.declared.step.Flags.{Flags}
use Rattle.kernel_laws.specs.declared.question_types.power.Power.{Power}
use Rattle.kernel_laws.specs.declared.question_types.power.Power.TheVariants.{None as Nowise, Unmount as Unmounting, Mount as Mounting}
use Rattle.kernel_laws.specs.Reach.{shows_row, serves_with, first_with, reach_with}
use Rattle.kernel_laws.proofs.Reach.{none_any}
use Rattle.kernel_laws.proofs.ReachLaws.{Served, served_of, served_leads}
use Rattle.reach_paths.specs.First.{LeadsBy, Shows, IsFirst, IsFirstByPower}

-- ---- the entries that serve, by what stands before and behind
pub record Serving (uncover : Bool) (row : Path) (test : Flags → Bool) (table : Table) (at : ℕ) : Type 0 where
  pub earlier : Table
  pub entry : MountStep
  pub later : Table
  pub whole : table ≡ earlier ++ entry ∷ later
  pub number : at ≡ length earlier
  pub served : serves_with uncover row test entry later ≡ true

-- the answer, counted from a number, is the first place of one that serves
abbrev IsFirstFrom : (ℕ → Type 0) → ℕ → Option ℕ → Type 0
IsFirstFrom P from None = (at : ℕ) → ¬ P at
IsFirstFrom P from (Some place) = (at : ℕ) × (place ≡ from + at) × P at × ((other : ℕ) → other < at → ¬ P other)

module _ (uncover : Bool) (row : Path) (test : Flags → Bool) where
  abbrev S : Table → ℕ → Type 0
  S table at = Serving uncover row test table at

  none_of_none : (at : ℕ) → ¬ S [] at
  none_of_none at s = by s.earlier s.whole
    where
      by : (earlier : Table) → [] ≡ earlier ++ s.entry ∷ s.later → ⊥
      by [] e = cc
      by (head ∷ earlier) e = cc

  behind_one : (entry : MountStep) (later : Table) (at : ℕ) → S later at → S (entry ∷ later) (suc at)
  behind_one entry later at s = record { earlier = entry ∷ s.earlier; entry = s.entry; later = s.later; whole = ap (λ (t : Table). entry ∷ t) s.whole; number = ap suc s.number; served = s.served }

  -- one that serves is the first entry, or stands behind it
  first_or_behind : (entry : MountStep) (later : Table) (at : ℕ) → serves_with uncover row test entry later ≡ false → S (entry ∷ later) at
      → (n : ℕ) × (at ≡ suc n) × S later n
  first_or_behind entry later at off s = by s.earlier s.whole s.number
    where
      by : (earlier : Table) → entry ∷ later ≡ earlier ++ s.entry ∷ s.later → at ≡ length earlier → (n : ℕ) × (at ≡ suc n) × S later n
      by [] e n =
          let head : entry ≡ s.entry = cc in
          let tail : later ≡ s.later = cc in
          let on : serves_with uncover row test entry later ≡ true = ap (λ (m : MountStep). serves_with uncover row test m later) head ∙ ap (λ (t : Table). serves_with uncover row test s.entry t) tail ∙ s.served in
          let clash : true ≡ false = sym on ∙ off in cc
      by (head ∷ earlier) e n =
          let tail : later ≡ earlier ++ s.entry ∷ s.later = cc in
          (length earlier, n, record { earlier = earlier; entry = s.entry; later = s.later; whole = tail; number = refl; served = s.served })

  first_from : (table : Table) (from : ℕ) → IsFirstFrom (S table) from (first_with uncover row test table from)
  first_from [] from = none_of_none
  first_from (entry ∷ later) from = by (serves_with uncover row test entry later) refl (first_with uncover row test later (from + 1))
      (first_from later (from + 1))
    where
      by : (b : Bool) → serves_with uncover row test entry later ≡ b → (more : Option ℕ) → IsFirstFrom (S later) (from + 1) more
          → IsFirstFrom (S (entry ∷ later)) from (cond b (Some from) more)
      by true e more h = (0, (omega arith), record { earlier = []; entry = entry; later = later; whole = refl; number = refl; served = e }, (λ other below s. omega (arith, below)))
      by false e None h = λ at s. let n = first_or_behind entry later at e s in h n.0 n.2
      by false e (Some place) h = (suc h.0, omega (arith, h.1), behind_one entry later h.0 h.2, (λ other below s. let n = first_or_behind entry later other e s in h.3 n.0 (let m : n.0 < h.0 = omega (arith, below, n.1) in m) n.2))

  pub first_serving : (table : Table) → IsFirst (S table) (first_with uncover row test table 0)
  first_serving table = by (first_with uncover row test table 0) (first_from table 0)
    where
      by : (place : Option ℕ) → IsFirstFrom (S table) 0 place → IsFirst (S table) place
      by None h = h
      by (Some place) h =
          let same : h.0 ≡ place = omega (arith, h.1) in
          (subst (S table) same h.2, λ other below s. h.3 other (omega (arith, below, same)) s)

-- the first of one kind is the first of another that comes at the same numbers
pub same_first : (P Q : ℕ → Type 0) → ((at : ℕ) → P at → Q at) → ((at : ℕ) → Q at → P at) → (place : Option ℕ) → IsFirst P place
    → IsFirst Q place
same_first P Q there back None h = λ at q. h at (back at q)
same_first P Q there back (Some at) h = (there at h.0, λ other below q. h.1 other below (back other q))

-- ---- what it means that an entry serves
serves_if : (uncover : Bool) (row : Path) (test : Flags → Bool) (entry : MountStep) (later : Table) → Served uncover row test entry later
    → serves_with uncover row test entry later ≡ true
serves_if uncover row test entry later s =
    let prefix : is_prefix s.source row ≡ true = ap (is_prefix s.source) s.row_is ∙ prefix-append s.source s.rest in
    let own : rest_of s.source row ≡ s.rest = ap (rest_of s.source) s.row_is ∙ rest-append s.source s.rest in
    let clear : (uncover || not (list_any (leads_to (entry.place ++ rest_of s.source row)) later)) ≡ true = ap (λ (r : Path). uncover || not (list_any (leads_to (entry.place ++ r)) later)) own ∙ s.clear in
    and_from _ _ s.flags (ap (shows_row uncover entry later row) s.host ∙ and_from _ _ prefix clear)

module _ (table : Table) (row : Path) (test : Flags → Bool) (at : ℕ) where
  -- with no power: a path of this very table
  pub leads_by : Serving false row test table at → LeadsBy table row test at
  leads_by s = record { lead = served_leads table row test s.earlier s.entry s.later s.whole (served_of false row test s.entry s.later s.served); number = s.number }

  pub by_leads : LeadsBy table row test at → Serving false row test table at
  by_leads h =
      let l = h.lead in
      let is = split_some (leads_to l.path) table l.split l.belongs in
      let clear : list_any (leads_to (l.split.entry.place ++ l.rest)) l.split.later ≡ false = rw l.path_is at (none_any (leads_to l.path) l.split.later is.last) in
      record {
        earlier = l.split.earlier;
        entry = l.split.entry;
        later = l.split.later;
        whole = is.whole;
        number = h.number;
        served = serves_if false row test l.split.entry l.split.later
            (record { source = l.source; host = l.host; rest = l.rest; row_is = l.row_is; flags = l.flags; clear = ap not clear });
      }

  -- with umount2: whatever covers it
  pub shows : Serving true row test table at → Shows table row test at
  shows s =
      let v = served_of true row test s.entry s.later s.served in
      record { earlier = s.earlier; entry = s.entry; later = s.later; whole = s.whole; number = s.number; source = v.source; host = v.host; rest = v.rest; row_is = v.row_is; flags = v.flags }

  pub by_shows : Shows table row test at → Serving true row test table at
  by_shows s = record {
    earlier = s.earlier;
    entry = s.entry;
    later = s.later;
    whole = s.whole;
    number = s.number;
    served = serves_if true row test s.entry s.later
        (record { source = s.source; host = s.host; rest = s.rest; row_is = s.row_is; flags = s.flags; clear = refl });
  }

-- the answer is the first entry that leads to the row, at each power
pub first_by_power : (power : Power) (table : Table) (row : Path) (test : Flags → Bool)
    → IsFirstByPower power table row test (reach_with power table row test)
first_by_power Nowise table row test =
    same_first (Serving false row test table) (LeadsBy table row test) (leads_by table row test) (by_leads table row test)
    (first_with false row test table 0) (first_serving false row test table)
first_by_power Unmounting table row test =
    same_first (Serving true row test table) (Shows table row test) (shows table row test) (by_shows table row test)
    (first_with true row test table 0) (first_serving true row test table)
first_by_power Mounting table row test = refl

pub first_answered : (power : Power) (table : Table) (row : Path) (test : Flags → Bool) (answer : Option ℕ) → answer ≡ reach_with power table row test
    → IsFirstByPower power table row test answer
first_answered power table row test answer is = subst (λ (o : Option ℕ). IsFirstByPower power table row test o) (sym is)
    (first_by_power power table row test)
