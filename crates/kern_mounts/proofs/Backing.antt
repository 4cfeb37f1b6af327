-- Backed mounts, as mounts come and go.
use Rattle.std.proofs.Common.{◌≡◌, Bool, true, false, cond, [], ◌∷◌, ◌++◌, refl, sym, ap, ◌∙◌, filter, map, append_assoc, append-nil}
use Rattle.std.specs.Prelude.{◌&&◌, ◌||◌, not}
use Rattle.std.specs.List.{list_any, AllByRecursion}
use Rattle.std.proofs.lemmas.Bool.{false≢true}
use Rattle.abs_path.specs.Paths.{Path}
use Rattle.abs_path.specs.Prefix.{is_prefix, rest_of, is_below as is_path_below}
use Rattle.kern_mounts.specs.Entry.{leads_to}
use Rattle.kern_mounts.specs.Split.{Table}
use Rattle.kern_mounts.specs.Unmounts.{IsOrdered}
use Rattle.kern_mounts.specs.Bind.{object_at}
use Rattle.kern_mounts.specs.declared.step.Flags.{Flags}
use Rattle.kern_mounts.specs.declared.step.What.{What}
use Rattle.kern_mounts.specs.declared.step.What.TheVariants.{Host, Empty, Hidden}
use Rattle.kern_mounts.specs.declared.step.MountStep.{MountStep}
use Rattle.kern_mounts.proofs.Paths.{behind, below_leads, stands_below as place_stands_below}
use Rattle.kern_mounts.specs.declared.step.Mount.{Mount}
use Rattle.kern_mounts.specs.Mounts.{Mounts, leads, stands_below, plain}
use Rattle.kern_mounts.specs.Keeping.{AreAmong}
use Rattle.kern_mounts.specs.Remount.{with_flags}
use Rattle.kern_mounts.specs.Bind.{moved_mount, copies, bound_mount, is_locked_below}
use Rattle.kern_mounts.specs.Copying.{locked_copy}
use Rattle.kern_mounts.specs.Backing.{Shows, Widens, is_covered, IsBacked, AreBacked, AreShown}
use Rattle.kern_mounts.proofs.Keeping.{among_itself}
use Rattle.kern_mounts.proofs.Splits.{None_have}
use Rattle.kern_mounts.proofs.Covering.{not_more, covered_append, covered_front, covered_left, covered_locked, covered_source, covered_any}
use Rattle.kern_mounts.proofs.Covering.{none_covers}
use Rattle.kern_mounts.proofs.Copied.{covered_copies}

-- where no less covers it, a backed mount is backed
pub backed_more : (shows : Shows) (mount : Mount) (later now : Mounts)
    → ((path : Path) → is_covered mount.step.place path later ≡ true → is_covered mount.step.place path now ≡ true)
    → IsBacked shows mount later → IsBacked shows mount now
backed_more shows mount later now more h = record {
  keeps = h.keeps;
  shown = λ source rest host clear. h.shown source rest host
      (not_more (is_covered mount.step.place (mount.step.place ++ rest) later)
      (is_covered mount.step.place (mount.step.place ++ rest) now) (more (mount.step.place ++ rest)) clear);
}

-- ---- more mounts behind
pub backed_append : (shows : Shows) (mounts more : Mounts) → AreBacked shows mounts → AreBacked shows more
    → AreBacked shows (mounts ++ more)
backed_append shows [] more h g = g
backed_append shows (mount ∷ mounts) more h g =
    (backed_more shows mount mounts (mounts ++ more) (λ path. covered_append mount.step.place path mounts more) h.0, backed_append shows mounts more h.1 g)

-- ---- what is behind a mount that is not locked
pub backed_behind : (shows : Shows) (earlier later : Mounts) → AreBacked shows (earlier ++ later) → AreBacked shows later
backed_behind shows [] later h = h
backed_behind shows (mount ∷ earlier) later h = backed_behind shows earlier later h.1

pub backed_front : (shows : Shows) (earlier : Mounts) (mount : Mount) (later now : Mounts) → mount.locked ≡ false
    → AreBacked shows (earlier ++ mount ∷ later) → AreBacked shows now → AreBacked shows (earlier ++ now)
backed_front shows [] mount later now free h g = g
backed_front shows (first ∷ earlier) mount later now free h g = (
  backed_more shows first (earlier ++ mount ∷ later) (earlier ++ now)
      (λ path. covered_front first.step.place path earlier mount later now free) h.0,
  backed_front shows earlier mount later now free h.1 g,
)

-- without what stands below a path that belongs to an earlier mount
pub backed_left : (shows : Shows) (path : Path) (later : Mounts) → None_have (leads path) later → AreBacked shows later
    → AreBacked shows (filter (λ mount. not (stands_below path mount)) later)
backed_left shows path [] none h = tt
backed_left shows path (mount ∷ later) none h = by (stands_below path mount) refl (backed_left shows path later none.1 h.1)
  where
    left : Mounts
    left = filter (λ mount. not (stands_below path mount)) later

    by : (b : Bool) → stands_below path mount ≡ b → AreBacked shows left → AreBacked shows (cond (not b) (mount ∷ left) left)
    by true below more = more
    by false below more = (backed_more shows mount later left (λ at. covered_left path mount.step.place at later below none.0) h.0, more)

-- ---- other flags for a mount
covered_flags : (place path : Path) (earlier : Mounts) (mount : Mount) (later : Mounts) (flags : Flags)
    → is_covered place path (earlier ++ with_flags mount flags ∷ later) ≡ is_covered place path (earlier ++ mount ∷ later)
covered_flags place path [] mount later flags = refl
covered_flags place path (first ∷ earlier) mount later flags =
    ap (λ b. first.locked && ((stands_below place first && leads path first) || b)) (covered_flags place path earlier mount later flags)

pub backed_flags : (shows : Shows) (earlier : Mounts) (mount : Mount) (later : Mounts) (flags : Flags) → AreAmong mount.kept flags
    → AreBacked shows (earlier ++ mount ∷ later) → AreBacked shows (earlier ++ with_flags mount flags ∷ later)
backed_flags shows [] mount later flags kept h = (record { keeps = kept; shown = h.0.shown }, h.1)
backed_flags shows (first ∷ earlier) mount later flags kept h = (
  backed_more shows first (earlier ++ mount ∷ later) (earlier ++ with_flags mount flags ∷ later)
      (λ path e. covered_flags first.step.place path earlier mount later flags ∙ e) h.0,
  backed_flags shows earlier mount later flags kept h.1,
)

-- ---- binds
-- a copy of a mount below the source
backed_copy : (shows : Shows) (source target : Path) (mount : Mount) (later : Mounts) → stands_below source mount ≡ true
    → IsBacked shows mount later → IsBacked shows (moved_mount source target mount) (copies true source target later)
backed_copy shows source target mount later below h = record {
  keeps = h.keeps;
  shown = λ host more is clear. h.shown host more is
      (not_more (is_covered mount.step.place (mount.step.place ++ more) later)
      (is_covered (target ++ rest) ((target ++ rest) ++ more) (copies true source target later))
      (covered_copies source target mount.step.place (mount.step.place ++ more) (target ++ rest) ((target ++ rest) ++ more) later
      (record { rest = rest; old = own; new = refl })
      (record { rest = rest ++ more; old = ap (λ (p : Path). p ++ more) own ∙ append_assoc source rest more; new = append_assoc target rest more }))
      clear);
}
  where
    rest : Path
    rest = rest_of source mount.step.place

    own : mount.step.place ≡ source ++ rest
    own = behind source mount.step.place (below_leads source mount.step below)

pub backed_copies : (shows : Shows) (source target : Path) (later : Mounts) → AreBacked shows later
    → AreBacked shows (copies true source target later)
backed_copies shows source target [] h = tt
backed_copies shows source target (mount ∷ later) h = by (stands_below source mount) refl (backed_copies shows source target later h.1)
  where
    by : (b : Bool) → stands_below source mount ≡ b → AreBacked shows (copies true source target later)
        → AreBacked shows (map (moved_mount source target)
        (cond b (mount ∷ filter (stands_below source) later) (filter (stands_below source) later)))
    by true below more = (backed_copy shows source target mount later below h.0, more)
    by false below more = more

-- the new mount, before what is copied behind it
pub backed_bound : (shows : Shows) (source target : Path) (mount : Mount) (later now : Mounts) → leads source mount ≡ true
    → None_have (leads source) later
    → ((more : Path) → is_covered source (source ++ more) later ≡ true → is_covered target (target ++ more) now ≡ true)
    → IsBacked shows mount later → IsBacked shows (bound_mount source target mount) now
backed_bound shows source target mount later now here none copied h =
    record { keeps = h.keeps; shown = λ host more is clear. by mount.step.what refl host more is clear }
  where
    rest : Path
    rest = rest_of mount.step.place source

    own : source ≡ mount.step.place ++ rest
    own = behind mount.step.place source here

    by : (what : What) → mount.step.what ≡ what → (host more : Path) → object_at source mount.step what ≡ Host host
        → is_covered target (target ++ more) now ≡ false → shows (host ++ more) mount.kept ≡ true
    by (Host from) e host more is clear =
        let same : from ++ rest ≡ host = cc in
        let path : mount.step.place ++ (rest ++ more) ≡ source ++ more = sym (append_assoc mount.step.place rest more) ∙ ap (λ (p : Path). p ++ more) (sym own) in
        let open_here : is_covered mount.step.place (mount.step.place ++ (rest ++ more)) later ≡ false =
        not_more _ _ (λ covered. copied more (covered_source mount.step.place source more later none (ap (λ (p : Path). is_covered mount.step.place p later) (sym path) ∙ covered))) clear in
        ap (λ (p : Path). shows p mount.kept) (ap (λ (p : Path). p ++ more) (sym same) ∙ append_assoc from rest more)
        ∙ h.shown from (rest ++ more) e open_here
    by Empty e host more is clear = cc
    by (Hidden directory) e host more is clear = cc

-- a recursive bind copies what covers
pub copied_behind : (source target : Path) (later : Mounts) (more : Path) → is_covered source (source ++ more) later ≡ true
    → is_covered target (target ++ more) (copies true source target later) ≡ true
copied_behind source target later more h =
    covered_copies source target source (source ++ more) target (target ++ more) later
    (record { rest = []; old = sym (append-nil source); new = sym (append-nil target) }) (record { rest = more; old = refl; new = refl }) h

-- another bind is refused where something covers
pub nothing_behind : (source target : Path) (later : Mounts) → list_any (is_locked_below source) later ≡ false → (more : Path)
    → is_covered source (source ++ more) later ≡ true → is_covered target (target ++ more) [] ≡ true
nothing_behind source target later none more h = absurd (false≢true (sym none ∙ covered_any source (source ++ more) later h))

-- ---- copies of namespaces
pub backed_locked : (shows : Shows) (mounts : Mounts) → Widens shows → AreBacked shows mounts → AreBacked shows (locked_copy mounts)
backed_locked shows [] widens h = tt
backed_locked shows (mount ∷ mounts) widens h = (
  record {
    keeps = among_itself mount.step.flags;
    shown = λ source rest host clear. widens (source ++ rest) mount.kept mount.step.flags h.0.keeps
        (h.0.shown source rest host
        (not_more (is_covered mount.step.place (mount.step.place ++ rest) mounts)
        (is_covered mount.step.place (mount.step.place ++ rest) (locked_copy mounts))
        (covered_locked mount.step.place (mount.step.place ++ rest) mounts) clear));
  },
  backed_locked shows mounts widens h.1,
)

-- of an ordered table: what covers a path of an entry stands strictly below the entry
covered_steps : (place more : Path) (later : Table) → AllByRecursion (λ (other : MountStep). is_prefix other.place place ≡ false) later
    → list_any (leads_to (place ++ more)) later ≡ true
    → is_covered place (place ++ more) (locked_copy (map plain later)) ≡ true
covered_steps place more [] apart h = h
covered_steps place more (step ∷ later) apart h = by (is_path_below step.place place) (leads_to (place ++ more) step)
    (λ here. place_stands_below place more step.place here apart.0) h (covered_steps place more later apart.1)
  where
    by : (below here : Bool) → (here ≡ true → below ≡ true) → (here || list_any (leads_to (place ++ more)) later) ≡ true
        → (list_any (leads_to (place ++ more)) later ≡ true → is_covered place (place ++ more) (locked_copy (map plain later)) ≡ true)
        → ((below && here) || is_covered place (place ++ more) (locked_copy (map plain later))) ≡ true
    by true true stands h more = refl
    by false true stands h more = absurd (false≢true (stands refl))
    by true false stands h more = more h
    by false false stands h more = more h

pub backed_first : (shows : Shows) (table : Table) → IsOrdered table → AreShown shows table
    → AreBacked shows (locked_copy (map plain table))
backed_first shows [] ordered h = tt
backed_first shows (step ∷ later) ordered h = (
  record {
    keeps = among_itself step.flags;
    shown = λ source rest host clear. h.0 source rest host
        (not_more (list_any (leads_to (step.place ++ rest)) later)
        (is_covered step.place (step.place ++ rest) (locked_copy (map plain later)))
        (covered_steps step.place rest later ordered.0) clear);
  },
  backed_first shows later ordered.1 h.1,
)

-- ---- what a path shows
pub backed_path : (shows : Shows) (path source : Path) (mount : Mount) (later : Mounts) → Widens shows → leads path mount ≡ true
    → None_have (leads path) later → IsBacked shows mount later → mount.step.what ≡ Host source
    → shows (source ++ rest_of mount.step.place path) mount.step.flags ≡ true
backed_path shows path source mount later widens here none h host =
    let own = behind mount.step.place path here in
    let clear : is_covered mount.step.place (mount.step.place ++ rest_of mount.step.place path) later ≡ false =
    ap (λ (p : Path). is_covered mount.step.place p later) (sym own) ∙ none_covers mount.step.place path later none in
    widens (source ++ rest_of mount.step.place path) mount.kept mount.step.flags h.keeps
    (h.shown source (rest_of mount.step.place path) host clear)
