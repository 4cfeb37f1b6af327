-- Reach says exactly what can be found.
use Rattle.std.proofs.Common.{◌≡◌, ℕ, Bool, true, false, [], ◌∷◌, ◌++◌, Some, refl, cond, ap, ◌∙◌, sym, ◌+◌}
use Rattle.std.specs.Prelude.{not, ◌||◌, is_some}
use Rattle.std.specs.List.{list_any}
use Rattle.std.proofs.lemmas.Bool.{and_parts, not-true}
use Rattle.filter_settings.proofs.OfCallTable.Places.{or_false}
use Rattle.kernel_model.specs.abs_path.Paths.{Path}
use Rattle.kernel_model.specs.abs_path.Prefix.{is_prefix, rest_of}
use Rattle.kernel_model.proofs.OfAbsPath.Prefixes.{prefix-append}
use Rattle.kernel_model.specs.kern_mounts.Entry.{leads_to}
use Rattle.kernel_model.specs.kern_mounts.declared.step.What.{What}
use Rattle.kernel_model.specs.kern_mounts.declared.step.What.TheVariants.{Host, Empty, Hidden}
use Rattle.kernel_model.specs.kern_mounts.declared.step.MountStep.{MountStep}
use Rattle.kernel_model.specs.kern_mounts.Split.{Table, split_at}
use Rattle.kernel_model.specs.kern_mounts.declared.step.Flags.{Flags}
use Rattle.kernel_laws.specs.Reach.{LeadsWith, shows_row, serves_with, first_with}
use Rattle.kernel_laws.specs.ReachLaws.{ReachOfTheTable, ReachByUnmounts}
use Rattle.kernel_model.proofs.OfKernMounts.Paths.{behind}
use Rattle.kernel_model.proofs.OfKernMounts.Splits.{None_have, split_is}
use Rattle.kernel_model.proofs.OfKernMounts.Unmounting.{stands_uncovered, unmounts_trim}
use Rattle.kernel_laws.proofs.Reach.{reach_nowise-complete, reach_unmounting-complete}

pub any_none : (p : MountStep → Bool) (table : Table) → list_any p table ≡ false → None_have p table
any_none p [] h = tt
any_none p (entry ∷ table) h = let parts = or_false (p entry) (list_any p table) h in (parts.0, any_none p table parts.1)

record Serving (uncover : Bool) (row : Path) (test : Flags → Bool) (table : Table) : Type 0 where
  earlier : Table
  entry : MountStep
  later : Table
  whole : table ≡ earlier ++ entry ∷ later
  served : serves_with uncover row test entry later ≡ true

serving : (uncover : Bool) (row : Path) (test : Flags → Bool) (table : Table) (at : ℕ) → is_some (first_with uncover row test table at) ≡ true
    → Serving uncover row test table
serving uncover row test [] at e = cc
serving uncover row test (entry ∷ later) at e = by (serves_with uncover row test entry later) refl e (serving uncover row test later (at + 1))
  where
    by : (b : Bool) → serves_with uncover row test entry later ≡ b
        → is_some (cond b (Some at) (first_with uncover row test later (at + 1))) ≡ true →
        (is_some (first_with uncover row test later (at + 1)) ≡ true → Serving uncover row test later)
        → Serving uncover row test (entry ∷ later)
    by true s e more = record { earlier = []; entry = entry; later = later; whole = refl; served = s }
    by false s e more = let m = more e in record { earlier = entry ∷ m.earlier; entry = m.entry; later = m.later; whole = ap (λ (t : Table). entry ∷ t) m.whole; served = m.served }

-- what it means that an entry serves
pub record Served (uncover : Bool) (row : Path) (test : Flags → Bool) (entry : MountStep) (later : Table) : Type 0 where
  pub source : Path
  pub host : entry.what ≡ Host source
  pub rest : Path
  pub row_is : row ≡ source ++ rest
  pub flags : test entry.flags ≡ true
  pub clear : (uncover || not (list_any (leads_to (entry.place ++ rest)) later)) ≡ true

pub served_of : (uncover : Bool) (row : Path) (test : Flags → Bool) (entry : MountStep) (later : Table)
    → serves_with uncover row test entry later ≡ true → Served uncover row test entry later
served_of uncover row test entry later s =
    let parts = and_parts (test entry.flags) (shows_row uncover entry later row entry.what) s in by parts.0 entry.what refl parts.1
  where
    by : test entry.flags ≡ true → (what : What) → entry.what ≡ what → shows_row uncover entry later row what ≡ true
        → Served uncover row test entry later
    by f (Host source) e s =
        let parts = and_parts (is_prefix source row) (uncover || not (list_any (leads_to (entry.place ++ rest_of source row)) later)) s in
        record { source = source; host = e; rest = rest_of source row; row_is = behind source row parts.0; flags = f; clear = parts.1 }
    by f Empty e s = cc
    by f (Hidden directory) e s = cc

-- an entry that serves, and that no later one covers, leads to the row
abbrev pub served_leads : (table : Table) (row : Path) (test : Flags → Bool) (earlier : Table) (entry : MountStep) (later : Table)
    → table ≡ earlier ++ entry ∷ later → Served false row test entry later → LeadsWith table row test
served_leads table row test earlier entry later whole v =
    let path = entry.place ++ v.rest in
    record {
      path = path;
      split = record { earlier = earlier; entry = entry; later = later };
      belongs = ap (split_at path) whole ∙ split_is (leads_to path) earlier entry later (prefix-append entry.place v.rest)
          (any_none (leads_to path) later (not-true (list_any (leads_to path) later) v.clear));
      source = v.source;
      host = v.host;
      rest = v.rest;
      path_is = refl;
      row_is = v.row_is;
      flags = v.flags;
    }

nowise_leads : (row : Path) (test : Flags → Bool) (table : Table) → is_some (first_with false row test table 0) ≡ true → LeadsWith table row test
nowise_leads row test table e = let s = serving false row test table 0 e in served_leads table row test s.earlier s.entry s.later s.whole (served_of false row test s.entry s.later s.served)

pub reach_of_the_table : ReachOfTheTable
reach_of_the_table table row test = (nowise_leads row test table, reach_nowise-complete row test table)

pub reach_by_unmounts : ReachByUnmounts
reach_by_unmounts table row test root ordered = (
  (λ e.
      let s = serving true row test table 0 e in
      let v = served_of true row test s.entry s.later s.served in
      let u = stands_uncovered table s.entry v.rest ordered (s.earlier, s.later, s.whole) in (
        u.0,
        u.3,
        record {
          path = u.1;
          split = u.2;
          belongs = u.4;
          source = v.source;
          host = ap (λ (m : MountStep). m.what) u.5 ∙ v.host;
          rest = v.rest;
          path_is = u.6 ∙ ap (λ (m : MountStep). m.place ++ v.rest) (sym u.5);
          row_is = v.row_is;
          flags = ap (λ (m : MountStep). test m.flags) u.5 ∙ v.flags;
        },
      )),
  (λ now u l. reach_unmounting-complete row test table now (unmounts_trim u root) l),
)
