-- The closed forms of reach show what can be found on the tables that each power allows.
use Rattle.std.proofs.Common.{◌≡◌, ℕ, Bool, true, false, [], ◌∷◌, ◌++◌, Option, Some, None, refl, cond, ap, ◌∙◌, sym, ◌+◌, subst}
use Rattle.std.specs.Prelude.{not, ◌||◌, is_some, slice_get, List, suc}
use Rattle.std.specs.List.{list_any}
use Rattle.std.proofs.lemmas.Bool.{and_from, or_from}
use Rattle.kernel_model.specs.abs_path.Paths.{Path}
use Rattle.kernel_model.specs.abs_path.Prefix.{is_prefix, is_same, rest_of}
use Rattle.kernel_model.proofs.OfAbsPath.Prefixes.{prefix-append, same_path, rest-append}
use Rattle.kernel_model.specs.site_table.declared.row.Row.{Row}
use Rattle.kernel_model.specs.site_table.Table.{row_at}
use Rattle.kernel_model.specs.kern_mounts.Entry.{leads_to, entry_of}
use Rattle.kernel_model.specs.kern_mounts.Finds.{row, empty_directory, nothing, finds, found_at, found_by, row_or_nothing}
use Rattle.kernel_model.specs.kern_mounts.declared.step.What.{What}
use Rattle.kernel_model.specs.kern_mounts.declared.step.What.TheVariants.{Host, Empty, Hidden}
use Rattle.kernel_model.specs.kern_mounts.declared.step.MountStep.{MountStep}
use Rattle.kernel_model.proofs.OfKernMounts.Entries.{entry_leads}
use Rattle.kernel_model.specs.kern_mounts.Split.{Table}
use Rattle.kernel_model.specs.kern_mounts.Unmounts.{IsTrimmed}
use Rattle.kernel_model.specs.kern_files.Looking.{flags_at, flags_by}
use Rattle.kernel_model.specs.kern_mounts.declared.step.Flags.{Flags}
use Rattle.kernel_laws.specs.declared.question_types.power.Power.{Power}
use Rattle.kernel_laws.specs.declared.question_types.power.Power.TheVariants.{None as Nowise, Unmount as Unmounting, Mount as Mounting}
use Rattle.kernel_laws.specs.Reach.{LeadsWith, shows_row, serves_with, first_with, reaches_with}
use Rattle.kernel_laws.specs.Ceiling.{CanHave}
use Rattle.kernel_model.proofs.OfKernMounts.Paths.{behind}
use Rattle.kernel_model.proofs.OfKernMounts.Splits.{None_have, split_some, split_of}
use Rattle.kernel_model.proofs.OfKernMounts.Unmounting.{part_has, trimmed_part}

pub reach_complete : (uncover : Bool) (target : Path) (test : Flags → Bool) (earlier : Table) (entry : MountStep) (later : Table) (at : ℕ)
    → serves_with uncover target test entry later ≡ true → is_some (first_with uncover target test (earlier ++ entry ∷ later) at) ≡ true
reach_complete uncover target test [] entry later at s = rw s refl
reach_complete uncover target test (head ∷ earlier) entry later at s =
    by (serves_with uncover target test head (earlier ++ entry ∷ later)) (reach_complete uncover target test earlier entry later (at + 1) s)
  where
    by : (b : Bool) → is_some (first_with uncover target test (earlier ++ entry ∷ later) (at + 1)) ≡ true
        → is_some (cond b (Some at) (first_with uncover target test (earlier ++ entry ∷ later) (at + 1))) ≡ true
    by true more = refl
    by false more = more

pub none_any : (p : MountStep → Bool) (table : Table) → None_have p table → list_any p table ≡ false
none_any p [] h = refl
none_any p (entry ∷ table) h = or_from (p entry) (list_any p table) h.0 (none_any p table h.1)

serves_if : (uncover : Bool) (target : Path) (test : Flags → Bool) (entry : MountStep) (later : Table) (source rest : Path)
    → entry.what ≡ Host source → target ≡ source ++ rest → test entry.flags ≡ true →
    (uncover || not (list_any (leads_to (entry.place ++ rest)) later)) ≡ true → serves_with uncover target test entry later ≡ true
serves_if uncover target test entry later source rest host target_is f o =
    let prefix : is_prefix source target ≡ true = ap (is_prefix source) target_is ∙ prefix-append source rest in
    let own : rest_of source target ≡ rest = ap (rest_of source) target_is ∙ rest-append source rest in
    let open' : (uncover || not (list_any (leads_to (entry.place ++ rest_of source target)) later)) ≡ true = ap (λ (r : Path). uncover || not (list_any (leads_to (entry.place ++ r)) later)) own ∙ o in
    and_from _ _ f (ap (shows_row uncover entry later target) host ∙ and_from _ _ prefix open')

pub reach_nowise-complete : (target : Path) (test : Flags → Bool) (table : Table) → LeadsWith table target test
    → is_some (first_with false target test table 0) ≡ true
reach_nowise-complete target test table l =
    let is = split_some (leads_to l.path) table l.split l.belongs in
    let clear : list_any (leads_to (l.split.entry.place ++ l.rest)) l.split.later ≡ false = rw l.path_is at (none_any (leads_to l.path) l.split.later is.last) in
    let s = serves_if false target test l.split.entry l.split.later l.source l.rest l.host l.row_is l.flags (ap not clear) in
    rw is.whole (reach_complete false target test l.split.earlier l.split.entry l.split.later 0 s)

pub reach_unmounting-complete : (target : Path) (test : Flags → Bool) (table now : Table) → IsTrimmed now table → LeadsWith now target test
    → is_some (first_with true target test table 0) ≡ true
reach_unmounting-complete target test table now part l =
    let is = split_some (leads_to l.path) now l.split l.belongs in
    let has = part_has (trimmed_part part) l.split.entry l.split.earlier l.split.later is.whole in
    let s = serves_if true target test l.split.entry has.1 l.source l.rest l.host l.row_is l.flags refl in
    rw has.2 (reach_complete true target test has.0 l.split.entry has.1 0 s)

-- at each power, a path that leads to the row on a table that a process can have shows in the closed form
pub reaches_if : (power : Power) (launched table : Table) (target : Path) (test : Flags → Bool) → CanHave power launched table
    → LeadsWith table target test → reaches_with power launched target test ≡ true
reaches_if Nowise launched table target test same l = reach_nowise-complete target test launched (let P : Table → Type 0 = λ t. LeadsWith t target test in subst P same l)
reaches_if Unmounting launched table target test part l = reach_unmounting-complete target test launched table part l
reaches_if Mounting launched table target test any l = refl

-- ---- a path that finds a row leads there
find_is : (rows : List Row) (path : Path) (found : Row) → row_at rows path ≡ Some found → found.path ≡ path
find_is [] path found e = cc
find_is (first ∷ rows) path found e = by (is_same first.path path) refl e (find_is rows path found)
  where
    by : (b : Bool) → is_same first.path path ≡ b → cond b (Some first) (row_at rows path) ≡ Some found
        → (row_at rows path ≡ Some found → found.path ≡ path) → found.path ≡ path
    by true is e more = let same : first ≡ found = cc in ap (λ (r : Row). r.path) (sym same) ∙ same_path first.path path is
    by false is e more = more e

-- and it is listed
pub find_at : (rows : List Row) (path : Path) (found : Row) → row_at rows path ≡ Some found → (at : ℕ) × (slice_get rows at ≡ Some found)
find_at [] path found e = cc
find_at (first ∷ rows) path found e = by (is_same first.path path) e (find_at rows path found)
  where
    by : (b : Bool) → cond b (Some first) (row_at rows path) ≡ Some found
        → (row_at rows path ≡ Some found → (at : ℕ) × (slice_get rows at ≡ Some found))
        → (at : ℕ) × (slice_get (first ∷ rows) at ≡ Some found)
    by true e more = (0, e)
    by false e more = let m = more e in (suc m.0, m.1)

-- the entry that shows the row, and where
pub record ShowsRow (rows : List Row) (table : Table) (path : Path) (target : Row) : Type 0 where
  pub entry : MountStep
  pub belongs : entry_of table path ≡ Some entry
  pub source : Path
  pub host : entry.what ≡ Host source
  pub at_place : row_at rows (source ++ rest_of entry.place path) ≡ Some target

row_of : (o : Option Row) (target : Row) → row_or_nothing o ≡ row target → o ≡ Some target
row_of None target e = cc
row_of (Some found) target e = let same : found ≡ target = cc in ap (λ (r : Row). Some r) same

shows_by : (rows : List Row) (table : Table) (path : Path) (target : Row) (entry : MountStep) → entry_of table path ≡ Some entry
    → (what : What) → entry.what ≡ what → found_by (row_at rows) what entry.place path ≡ row target → ShowsRow rows table path target
shows_by rows table path target entry b (Host source) is e = record { entry = entry; belongs = b; source = source; host = is; at_place = row_of (row_at rows (source ++ rest_of entry.place path)) target e }
shows_by rows table path target entry b Empty is e = by (is_same entry.place path) e
  where
    by : (b : Bool) → cond b empty_directory (nothing 2) ≡ row target → ShowsRow rows table path target
    by true e = cc
    by false e = cc
shows_by rows table path target entry b (Hidden directory) is e = cc

pub shows : (rows : List Row) (table : Table) (path : Path) (target : Row) → finds (row_at rows) table path ≡ row target
    → ShowsRow rows table path target
shows rows table path target e = by (entry_of table path) refl e
  where
    by : (o : Option MountStep) → entry_of table path ≡ o → found_at (row_at rows) path o ≡ row target → ShowsRow rows table path target
    by None is e = cc
    by (Some entry) is e = shows_by rows table path target entry is entry.what refl e

pub leads : (rows : List Row) (table : Table) (path : Path) (target : Row) (test : Flags → Bool) → finds (row_at rows) table path ≡ row target
    → test (flags_at table path) ≡ true → LeadsWith table target.path test
leads rows table path target test e f =
    let s = shows rows table path target e in
    let split = split_of path table s.entry s.belongs in
    let own : entry_of table path ≡ Some split.0.entry = s.belongs ∙ ap (λ (m : MountStep). Some m) (sym split.2) in
    let prefix : is_prefix split.0.entry.place path ≡ true = entry_leads table path split.0.entry own in
    record {
      path = path;
      split = split.0;
      belongs = split.1;
      source = s.source;
      host = ap (λ (m : MountStep). m.what) split.2 ∙ s.host;
      rest = rest_of split.0.entry.place path;
      path_is = behind split.0.entry.place path prefix;
      row_is = find_is rows (s.source ++ rest_of s.entry.place path) target s.at_place
          ∙ ap (λ (m : MountStep). s.source ++ rest_of m.place path) (sym split.2);
      flags = ap (λ (o : Option MountStep). test (flags_by o)) (sym own) ∙ f;
    }

pub listed : (rows : List Row) (table : Table) (path : Path) (target : Row) → finds (row_at rows) table path ≡ row target
    → (at : ℕ) × (slice_get rows at ≡ Some target)
listed rows table path target e = let s = shows rows table path target e in find_at rows (s.source ++ rest_of s.entry.place path) target s.at_place
