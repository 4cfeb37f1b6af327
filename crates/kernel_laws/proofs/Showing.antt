-- What is shown: with more flags, by more entries, and what it means for rows and folders.
use Rattle.std.proofs.Common.{◌≡◌, ℕ, Bool, true, false, cond, [], ◌∷◌, ◌++◌, inl, inr, refl, sym, ap, ◌∙◌, Some, ◌+◌, append_assoc}
use Rattle.std.specs.Prelude.{not, ◌&&◌, ◌||◌, is_some}
use Rattle.std.specs.List.{list_any, AllByRecursion}
use Rattle.std.proofs.lemmas.Bool.{and_parts, and_from, or_left, or_right, or_parts, not-true, false≢true}
use Rattle.kernel_model.specs.abs_path.Paths.{Path}
use Rattle.kernel_model.specs.abs_path.Prefix.{is_prefix, is_same, rest_of, is_below}
use Rattle.kernel_model.proofs.OfAbsPath.Prefixes.{prefix-append, prefix_chain, prefix_itself, rest-append, rest_through, same_path}
use Rattle.kernel_model.specs.kern_mounts.Entry.{leads_to}
use Rattle.kernel_model.specs.kern_mounts.Split.{Table}
use Rattle.kernel_model.specs.kern_mounts.Unmounts.{IsPart, nothing, keeps, leaves, IsOrdered}
use Rattle.kernel_model.specs.kern_mounts.declared.step.Flags.{Flags}
use Rattle.kernel_model.specs.kern_mounts.declared.step.What.{What}
use Rattle.kernel_model.specs.kern_mounts.declared.step.What.TheVariants.{Host, Empty, Hidden}
use Rattle.kernel_model.specs.kern_mounts.declared.step.MountStep.{MountStep}
use Rattle.kernel_model.proofs.OfKernMounts.Paths.{leads_not, either}
use Rattle.kernel_model.specs.kern_mounts.Keeping.{lacks, AreAmong}
use Rattle.kernel_model.specs.kern_mounts.Backing.{Shows, Widens, AreShown}
use Rattle.kernel_model.proofs.OfKernMounts.Keeping.{among_trans}
use Rattle.kernel_laws.specs.Blind.{is_clear, shows_below, exposes}
use Rattle.kernel_laws.specs.declared.question_types.wish.Wish.{Wish}
use Rattle.kernel_laws.specs.declared.question_types.wish.Wish.TheVariants.{See as ToSee, Read as ToRead, Write as ToWrite, Exec as ToExec}
use Rattle.kernel_laws.specs.declared.question_types.power.Power.{Power}
use Rattle.kernel_laws.specs.declared.question_types.power.Power.TheVariants.{None as Nowise, Unmount as Unmounting, Mount as Mounting}
use Rattle.kernel_laws.specs.Reach.{fits, shows_row, serves, reach_from}
use Rattle.kernel_laws.specs.Showing.{shows_from, shown_by}

-- ---- more flags
or_more : (a b c d : Bool) → (a ≡ true → c ≡ true) → (b ≡ true → d ≡ true) → (a || b) ≡ true → (c || d) ≡ true
or_more true b c d f g h = ap (λ e. e || d) (f refl)
or_more false b true d f g h = refl
or_more false b false d f g h = g h

and_more : (a b c : Bool) → (a ≡ true → c ≡ true) → (a && b) ≡ true → (c && b) ≡ true
and_more true b c f h = ap (λ e. e && b) (f refl) ∙ h
and_more false b c f h = absurd (false≢true h)

not_lacking : (flags few more : Flags) → AreAmong few more → not (lacks flags few) ≡ true → not (lacks flags more) ≡ true
not_lacking flags few more h n = ap not (among_trans flags few more (not-true (lacks flags few) n) h)

widens_from : (uncover : Bool) (table : Table) → Widens (shows_from uncover table)
widens_from uncover [] host few more among h = h
widens_from uncover (entry ∷ later) host few more among h =
    or_more (not (lacks entry.flags few) && shows_row uncover entry later host entry.what) (shows_from uncover later host few)
    (not (lacks entry.flags more) && shows_row uncover entry later host entry.what) (shows_from uncover later host more)
    (and_more (not (lacks entry.flags few)) (shows_row uncover entry later host entry.what) (not (lacks entry.flags more))
    (not_lacking entry.flags few more among)) (widens_from uncover later host few more among) h

pub widens_by : (power : Power) (launched : Table) → Widens (shown_by power launched)
widens_by Nowise launched = widens_from false launched
widens_by Unmounting launched = widens_from true launched
widens_by Mounting launched = λ host few more among h. h

-- ---- what a table shows
pub shown_more : (shows others : Shows) → ((host : Path) (flags : Flags) → shows host flags ≡ true → others host flags ≡ true)
    → (table : Table) → AreShown shows table → AreShown others table
shown_more shows others more [] h = tt
shown_more shows others more (step ∷ later) h =
    ((λ source rest host clear. more (source ++ rest) step.flags (h.0 source rest host clear)), shown_more shows others more later h.1)

or_clear : (uncover a : Bool) → a ≡ false → (uncover || not a) ≡ true
or_clear true a e = refl
or_clear false a e = ap not e

own_lacks : (flags : Flags) → lacks flags flags ≡ false
own_lacks flags = by flags.read_only flags.no_exec flags.no_suid
  where
    by : (a b c : Bool) → ((a && not a) || ((b && not b) || (c && not c))) ≡ false
    by true true true = refl
    by true true false = refl
    by true false true = refl
    by true false false = refl
    by false true true = refl
    by false true false = refl
    by false false true = refl
    by false false false = refl

shows_own : (uncover : Bool) (step : MountStep) (later : Table) (source rest : Path) → step.what ≡ Host source
    → list_any (leads_to (step.place ++ rest)) later ≡ false → shows_row uncover step later (source ++ rest) step.what ≡ true
shows_own uncover step later source rest host clear =
    ap (shows_row uncover step later (source ++ rest)) host
    ∙ and_from _ _ (prefix-append source rest)
    (or_clear uncover (list_any (leads_to (step.place ++ rest_of source (source ++ rest))) later)
    (ap (λ (r : Path). list_any (leads_to (step.place ++ r)) later) (rest-append source rest) ∙ clear))

pub table_shows : (uncover : Bool) (table : Table) → AreShown (shows_from uncover table) table
table_shows uncover [] = tt
table_shows uncover (step ∷ later) = (
  (λ source rest host clear. or_left (not (lacks step.flags step.flags) && shows_row uncover step later (source ++ rest) step.what)
      (shows_from uncover later (source ++ rest) step.flags)
      (and_from _ _ (ap not (own_lacks step.flags)) (shows_own uncover step later source rest host clear))),
  shown_more (shows_from uncover later) (shows_from uncover (step ∷ later))
      (λ host flags h. or_right (not (lacks step.flags flags) && shows_row uncover step later host step.what)
      (shows_from uncover later host flags) h) later (table_shows uncover later),
)

-- an entry that can be uncovered shows the same whatever is later
row_apart : (entry : MountStep) (one other : Table) (host : Path) (what : What) → shows_row true entry one host what ≡ true
    → shows_row true entry other host what ≡ true
row_apart entry one other host (Host source) h = h
row_apart entry one other host Empty h = h
row_apart entry one other host (Hidden directory) h = h

and_same : (a b c : Bool) → (b ≡ true → c ≡ true) → (a && b) ≡ true → (a && c) ≡ true
and_same true b c f h = f h
and_same false b c f h = h

pub part_shows : {part table : Table} → IsPart part table → (host : Path) (flags : Flags) → shows_from true part host flags ≡ true
    → shows_from true table host flags ≡ true
part_shows nothing host flags h = h
part_shows (keeps {part} {table} entry p) host flags h =
    or_more (not (lacks entry.flags flags) && shows_row true entry part host entry.what) (shows_from true part host flags)
    (not (lacks entry.flags flags) && shows_row true entry table host entry.what) (shows_from true table host flags)
    (and_same (not (lacks entry.flags flags)) (shows_row true entry part host entry.what) (shows_row true entry table host entry.what)
    (row_apart entry part table host entry.what)) (part_shows p host flags) h
part_shows (leaves {part} {table} entry p) host flags h = or_right
    (not (lacks entry.flags flags) && shows_row true entry table host entry.what) (shows_from true table host flags)
    (part_shows p host flags h)

pub all_part : (P : MountStep → Type 0) {part table : Table} → IsPart part table → AllByRecursion P table → AllByRecursion P part
all_part P nothing h = tt
all_part P (keeps entry p) h = (h.0, all_part P p h.1)
all_part P (leaves entry p) h = all_part P p h.1

pub part_ordered : {part table : Table} → IsPart part table → IsOrdered table → IsOrdered part
part_ordered nothing h = tt
part_ordered (keeps entry p) h = (all_part (λ other. is_prefix other.place entry.place ≡ false) p h.0, part_ordered p h.1)
part_ordered (leaves entry p) h = part_ordered p h.1

-- ---- rows
fits_fewer : (wish : Wish) (few more : Flags) → AreAmong few more → fits wish more ≡ true → fits wish few ≡ true
fits_fewer ToSee few more h f = refl
fits_fewer ToRead few more h f = refl
fits_fewer ToWrite few more h f = off few.read_only more.read_only
    (or_parts (few.read_only && not more.read_only) ((few.no_exec && not more.no_exec) || (few.no_suid && not more.no_suid)) h).0 f
  where
    off : (a b : Bool) → (a && not b) ≡ false → not b ≡ true → not a ≡ true
    off false b h f = refl
    off true b h f = absurd (false≢true (sym h ∙ f))
fits_fewer ToExec few more h f =
    let parts = or_parts (few.read_only && not more.read_only) ((few.no_exec && not more.no_exec) || (few.no_suid && not more.no_suid)) h in
    off few.no_exec more.no_exec (or_parts (few.no_exec && not more.no_exec) (few.no_suid && not more.no_suid) parts.1).0 f
  where
    off : (a b : Bool) → (a && not b) ≡ false → not b ≡ true → not a ≡ true
    off false b h f = refl
    off true b h f = absurd (false≢true (sym h ∙ f))

pub reach_shown : (uncover : Bool) (table : Table) (host : Path) (flags : Flags) (wish : Wish) (at : ℕ) → fits wish flags ≡ true
    → shows_from uncover table host flags ≡ true → is_some (reach_from uncover host wish table at) ≡ true
reach_shown uncover [] host flags wish at f h = absurd (false≢true h)
reach_shown uncover (entry ∷ later) host flags wish at f h =
    by (serves uncover host wish entry later) (lacks entry.flags flags) (shows_row uncover entry later host entry.what)
    (λ among shown. and_from _ _ (fits_fewer wish entry.flags flags among f) shown) h
    (reach_shown uncover later host flags wish (at + 1) f)
  where
    by : (b l s : Bool) → (l ≡ false → s ≡ true → b ≡ true) → ((not l && s) || shows_from uncover later host flags) ≡ true
        → (shows_from uncover later host flags ≡ true → is_some (reach_from uncover host wish later (at + 1)) ≡ true)
        → is_some (cond b (Some at) (reach_from uncover host wish later (at + 1))) ≡ true
    by true l s own h more = refl
    by false true s own h more = more h
    by false false false own h more = more h
    by false false true own h more = absurd (false≢true (own refl refl))

-- ---- folders
any_shorter : (path more : Path) (later : Table) → list_any (leads_to (path ++ more)) later ≡ false → list_any (leads_to path) later ≡ false
any_shorter path more [] h = refl
any_shorter path more (entry ∷ later) h =
    let parts = or_parts (leads_to (path ++ more) entry) (list_any (leads_to (path ++ more)) later) h in
    both (leads_to path entry) (list_any (leads_to path) later) (leads_not entry.place path more parts.0)
    (any_shorter path more later parts.1)
  where
    both : (a b : Bool) → a ≡ false → b ≡ false → (a || b) ≡ false
    both false b e f = f
    both true b e f = e

clear_shorter : (uncover : Bool) (path more longer : Path) (later : Table) → longer ≡ path ++ more
    → (uncover || not (list_any (leads_to longer) later)) ≡ true → is_clear uncover path later ≡ true
clear_shorter true path more longer later e h = refl
clear_shorter false path more longer later e h =
    ap not (any_shorter path more later (ap (λ (p : Path). list_any (leads_to p) later) (sym e)
    ∙ not-true (list_any (leads_to longer) later) h))

row_below : (uncover : Bool) (folder : Path) (entry : MountStep) (later : Table) (host : Path) (what : What) → is_below host folder ≡ true
    → shows_row uncover entry later host what ≡ true → shows_below uncover folder entry later what ≡ true
row_below uncover folder entry later host (Host source) below h = elim (either (is_prefix source folder)) [
  | inl leads ↦ or_right (is_below source folder && is_clear uncover entry.place later)
      (is_prefix source folder && is_clear uncover (entry.place ++ rest_of source folder) later)
      (and_from _ _ leads (clear_shorter uncover (entry.place ++ rest_of source folder) (rest_of folder host)
      (entry.place ++ rest_of source host) later
      (ap (λ (r : Path). entry.place ++ r) (rest_through source folder host leads in_folder)
      ∙ sym (append_assoc entry.place (rest_of source folder) (rest_of folder host))) parts.1))
  | inr apart ↦ or_left (is_below source folder && is_clear uncover entry.place later)
      (is_prefix source folder && is_clear uncover (entry.place ++ rest_of source folder) later)
      (and_from _ _ (source_below apart)
      (clear_shorter uncover entry.place (rest_of source host) (entry.place ++ rest_of source host) later refl parts.1))
]
  where
    parts : (is_prefix source host ≡ true) × ((uncover || not (list_any (leads_to (entry.place ++ rest_of source host)) later)) ≡ true)
    parts = and_parts (is_prefix source host) (uncover || not (list_any (leads_to (entry.place ++ rest_of source host)) later)) h

    in_folder : is_prefix folder host ≡ true
    in_folder = (and_parts (is_prefix folder host) (not (is_same folder host)) below).0

    source_below : is_prefix source folder ≡ false → is_below source folder ≡ true
    source_below apart = elim (prefix_chain source folder host parts.0 in_folder) [
      | inl leads ↦ absurd (false≢true (sym apart ∙ leads))
      | inr leads ↦ and_from _ _ leads (other (is_same folder source) (same_path folder source))
    ]
      where
        other : (b : Bool) → (b ≡ true → folder ≡ source) → not b ≡ true
        other false same = refl
        other true same = absurd (false≢true (sym apart ∙ ap (is_prefix source) (same refl) ∙ prefix_itself source))
row_below uncover folder entry later host Empty below h = absurd (false≢true h)
row_below uncover folder entry later host (Hidden directory) below h = absurd (false≢true h)

pub exposes_shown : (uncover : Bool) (table : Table) (host : Path) (flags : Flags) (folder : Path) → is_below host folder ≡ true
    → shows_from uncover table host flags ≡ true → exposes uncover folder table ≡ true
exposes_shown uncover [] host flags folder below h = h
exposes_shown uncover (entry ∷ later) host flags folder below h =
    or_more (not (lacks entry.flags flags) && shows_row uncover entry later host entry.what) (shows_from uncover later host flags)
    (shows_below uncover folder entry later entry.what) (exposes uncover folder later)
    (λ own. row_below uncover folder entry later host entry.what below
    (and_parts (not (lacks entry.flags flags)) (shows_row uncover entry later host entry.what) own).1)
    (exposes_shown uncover later host flags folder below) h
