-- Blind by the table, blind in every world; and back.
use Rattle.std.proofs.Common.{◌≡◌, Bool, true, false, [], ◌∷◌, ◌++◌, Option, Some, None, inl, inr, refl, ap, ◌∙◌, sym, subst, append_assoc}
use Rattle.std.proofs.Common.{eqb}
use Rattle.std.specs.Prelude.{not, option_and_then, ◌-◌}
use Rattle.std.proofs.lemmas.Bool.{and_parts, and_from, or_left, or_right, not-true}
use Rattle.kernel_model.specs.abs_path.Paths.{Path}
use Rattle.kernel_model.specs.abs_path.Prefix.{is_prefix, is_same, rest_of, is_below}
use Rattle.kernel_model.proofs.OfAbsPath.Prefixes.{prefix-append, prefix_itself, prefix_chain, same_path, rest-append}
use Rattle.kernel_model.specs.kern_mounts.Entry.{leads_to, entry_of}
use Rattle.kernel_model.specs.kern_mounts.Finds.{host_place, host_place_by}
use Rattle.kernel_model.specs.kern_mounts.declared.step.What.{What}
use Rattle.kernel_model.specs.kern_mounts.declared.step.What.TheVariants.{Host, Empty, Hidden}
use Rattle.kernel_model.specs.kern_mounts.declared.step.MountStep.{MountStep}
use Rattle.kernel_model.proofs.OfKernMounts.Entries.{entry_leads}
use Rattle.kernel_laws.specs.Blind.{is_clear, shows_below, exposes, blind_at, SeesBelow, BlindIsSound}
use Rattle.kernel_laws.specs.Bound.{power_of, ceiling}
use Rattle.kernel_laws.specs.Ceiling.{CanHave, TableIn}
use Rattle.kernel_laws.specs.NewerTables.{CanHaveNewer}
use Rattle.kernel_laws.proofs.NewerTables.{tables_stable, folders_are_seen}
use Rattle.kernel_model.specs.kern_mounts.Mounts.{Mounts}
use Rattle.kernel_laws.specs.Launched.{launch_of}
use Rattle.kernel_model.specs.kern_mounts.Split.{Table, Split, split_at}
use Rattle.kernel_laws.specs.declared.question_types.power.Power.{Power}
use Rattle.kernel_laws.specs.declared.question_types.power.Power.TheVariants.{None as Nowise, Unmount as Unmounting, Mount as Mounting}
use Rattle.kernel_model.specs.Runs.{run}
use Rattle.kernel_model.specs.kern_mounts.Unmounts.{IsTrimmed}
use Rattle.kernel_model.specs.World.{mounts_of, table_of}
use Rattle.kernel_model.proofs.OfKernMounts.Paths.{behind, leads_not, either}
use Rattle.kernel_model.proofs.OfKernMounts.Splits.{None_have, split_some, split_of}
use Rattle.kernel_model.proofs.OfKernMounts.Unmounting.{part_has, trimmed_part}
use Rattle.kernel_laws.proofs.Reach.{none_any}
use Rattle.kernel_laws.proofs.Numbered.{lives}
use Rattle.kernel_laws.proofs.Runs.{own_allowed}
use Rattle.kernel_laws.proofs.Held.{launched_held, ceiling_run}

pub none_not : (path more : Path) (table : Table) → None_have (leads_to (path ++ more)) table → None_have (leads_to path) table
none_not path more [] h = tt
none_not path more (entry ∷ table) h = (leads_not entry.place path more h.0, none_not path more table h.1)

clear_if : (uncover : Bool) (path : Path) (later : Table) → (uncover ≡ false → None_have (leads_to path) later)
    → is_clear uncover path later ≡ true
clear_if true path later h = refl
clear_if false path later h = ap not (none_any (leads_to path) later (h refl))

-- an entry whose path lies strictly below the folder shows it
entry_shows : (uncover : Bool) (folder : Path) (entry : MountStep) (later : Table) (source rest : Path)
    → is_below (source ++ rest) folder ≡ true
    → (uncover ≡ false → None_have (leads_to (entry.place ++ rest)) later) → shows_below uncover folder entry later (Host source) ≡ true
entry_shows uncover folder entry later source rest below clear =
    elim (either (is_prefix source folder)) [
      | inl at ↦ or_right _ _ (and_from _ _ at
          (clear_if uncover (entry.place ++ rest_of source folder) later (λ e. at_folder at (clear e))))
      | inr off ↦ or_left _ _ (and_from _ _ (at_source off)
          (clear_if uncover entry.place later (λ e. none_not entry.place rest later (clear e))))
    ]
  where
    prefix : is_prefix folder (source ++ rest) ≡ true
    prefix = (and_parts _ _ below).0

    at_folder : is_prefix source folder ≡ true → None_have (leads_to (entry.place ++ rest)) later
        → None_have (leads_to (entry.place ++ rest_of source folder)) later
    at_folder at h =
        let r = rest_of source folder in
        let more = rest_of folder (source ++ rest) in
        let whole : source ++ rest ≡ source ++ (r ++ more) = behind folder (source ++ rest) prefix ∙ ap (λ (p : Path). p ++ more) (behind source folder at) ∙ append_assoc source r more in
        let same : rest ≡ r ++ more = sym (rest-append source rest) ∙ ap (rest_of source) whole ∙ rest-append source (r ++ more) in
        let longer : entry.place ++ rest ≡ (entry.place ++ r) ++ more = ap (λ (p : Path). entry.place ++ p) same ∙ sym (append_assoc entry.place r more) in
        let P : Path → Type 0 = λ p. None_have (leads_to p) later in
        none_not (entry.place ++ r) more later (subst P longer h)

    at_source : is_prefix source folder ≡ false → is_below source folder ≡ true
    at_source off = elim (prefix_chain folder source (source ++ rest) prefix (prefix-append source rest)) [
      | inl up ↦ and_from _ _ up (ap not (differs (is_same folder source) refl))
      | inr down ↦ absurd (no_two _ off down)
    ]
      where
        no_two : (b : Bool) → b ≡ false → b ≡ true → ⊥
        no_two b p q = cc

        differs : (b : Bool) → is_same folder source ≡ b → b ≡ false
        differs true e =
            let same = same_path folder source e in
            let on : is_prefix source folder ≡ true = ap (is_prefix source) same ∙ prefix_itself source in
            cc
        differs false e = refl

pub exposes_at : (uncover : Bool) (folder : Path) (earlier : Table) (entry : MountStep) (later : Table)
    → shows_below uncover folder entry later entry.what ≡ true → exposes uncover folder (earlier ++ entry ∷ later) ≡ true
exposes_at uncover folder [] entry later s = or_left _ _ s
exposes_at uncover folder (head ∷ earlier) entry later s = or_right _ _ (exposes_at uncover folder earlier entry later s)

-- the entry that shows a host place
pub record Placed (table : Table) (path place : Path) : Type 0 where
  pub split : Split
  pub belongs : split_at path table ≡ Some split
  pub source : Path
  pub host : split.entry.what ≡ Host source
  pub path_is : path ≡ split.entry.place ++ rest_of split.entry.place path
  pub place_is : place ≡ source ++ rest_of split.entry.place path

pub placed : (table : Table) (path place : Path) → host_place table path ≡ Some place → Placed table path place
placed table path place e = by (entry_of table path) refl e
  where
    by_what : (entry : MountStep) → entry_of table path ≡ Some entry → (what : What) → entry.what ≡ what
        → host_place_by what entry.place path ≡ Some place → Placed table path place
    by_what entry is (Host source) w e =
        let s = split_of path table entry is in
        let there : source ++ rest_of entry.place path ≡ place = cc in
        record {
          split = s.0;
          belongs = s.1;
          source = source;
          host = ap (λ (m : MountStep). m.what) s.2 ∙ w;
          path_is = behind s.0.entry.place path (ap (λ (m : MountStep). is_prefix m.place path) s.2 ∙ entry_leads table path entry is);
          place_is = sym there ∙ ap (λ (m : MountStep). source ++ rest_of m.place path) (sym s.2);
        }
    by_what entry is Empty w e = cc
    by_what entry is (Hidden directory) w e = cc

    by : (o : Option MountStep) → entry_of table path ≡ o → option_and_then (λ step. host_place_by step.what step.place path) o
        ≡ Some place → Placed table path place
    by None is e = cc
    by (Some entry) is e = by_what entry is entry.what refl e

-- on this very table
pub seen_exposes : (folder : Path) (table : Table) → SeesBelow folder table → exposes false folder table ≡ true
seen_exposes folder table s =
    let p = placed table s.path s.place s.shown in
    let is = split_some (leads_to s.path) table p.split p.belongs in
    let rest = rest_of p.split.entry.place s.path in
    let below : is_below (p.source ++ rest) folder ≡ true = ap (λ (p : Path). is_below p folder) (sym p.place_is) ∙ s.below in
    let P : Path → Type 0 = λ q. None_have (leads_to q) p.split.later in
    let shown = entry_shows false folder p.split.entry p.split.later p.source rest below (λ e. subst P p.path_is is.last) in
    let own : shows_below false folder p.split.entry p.split.later p.split.entry.what ≡ true = ap (shows_below false folder p.split.entry p.split.later) p.host ∙ shown in
    rw is.whole (exposes_at false folder p.split.earlier p.split.entry p.split.later own)

-- on a part of this table
pub seen_exposes_part : (folder : Path) (table now : Table) → IsTrimmed now table → SeesBelow folder now → exposes true folder table ≡ true
seen_exposes_part folder table now part s =
    let p = placed now s.path s.place s.shown in
    let is = split_some (leads_to s.path) now p.split p.belongs in
    let has = part_has (trimmed_part part) p.split.entry p.split.earlier p.split.later is.whole in
    let rest = rest_of p.split.entry.place s.path in
    let below : is_below (p.source ++ rest) folder ≡ true = ap (λ (p : Path). is_below p folder) (sym p.place_is) ∙ s.below in
    let shown = entry_shows true folder p.split.entry has.1 p.source rest below (λ e. let no' : false ≡ true = sym e in absurd (never no')) in
    let own : shows_below true folder p.split.entry has.1 p.split.entry.what ≡ true = ap (shows_below true folder p.split.entry has.1) p.host ∙ shown in
    rw has.2 (exposes_at true folder has.0 p.split.entry has.1 own)
  where
    never : false ≡ true → ⊥
    never e = cc

shut : (power : Power) (launched table : Table) (folder : Path) → CanHave power launched table → blind_at power launched folder ≡ true
    → SeesBelow folder table → ⊥
shut Nowise launched table folder same b s =
    let P : Table → Type 0 = λ t. SeesBelow folder t in
    let on = seen_exposes folder launched (subst P same s) in
    let off = not-true (exposes false folder launched) b in
    cc
shut Unmounting launched table folder part b s =
    let on = seen_exposes_part folder launched table part s in
    let off = not-true (exposes true folder launched) b in
    cc
shut Mounting launched table folder any b s = cc

pub blind_is_sound : BlindIsSound
blind_is_sound world folder s b list fit e =
    let launch = launch_of world in
    let below : Mounts → Type 0 = CanHaveNewer (power_of launch) launch.table in
    let held = ceiling_run launch s.launched below (tables_stable launch (power_of launch) s.launched.ordered) list world fit (launched_held world below s) in
    let now = run world list in
    let h = held.each (e.pid - 1) e.process (lives now e.pid e.process e.lives).place in
    by (eqb h.space.owner 1) (own_allowed launch (power_of launch) (ceiling launch) below now e.process h)
  where
    seen : SeesBelow folder (table_of (run world list) e.process.namespace)
    seen = record { path = e.path; place = e.place; shown = e.shown; below = e.below }

    by : (ours : Bool) → TableIn ours (launch_of world) (power_of (launch_of world))
        (CanHaveNewer (power_of (launch_of world)) (launch_of world).table) (mounts_of (run world list) e.process.namespace) → ⊥
    by true allowed = shut (power_of (launch_of world)) (launch_of world).table
        (table_of (run world list) e.process.namespace) folder allowed.entries b seen
    by false allowed =
        let open' = folders_are_seen (power_of (launch_of world)) (launch_of world).table (mounts_of (run world list) e.process.namespace) folder allowed seen in
        cc
