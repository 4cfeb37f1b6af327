-- A process of a world that is blind to a folder is shown neither the folder nor what lies below it.
use Rattle.std.proofs.Common.{◌≡◌, ◌∙◌, Bool, true, false, [], ◌++◌, Some, refl, ap, sym}
use Rattle.std.specs.Prelude.{◌&&◌, not}
use Rattle.std.proofs.lemmas.Bool.{or_right, and_from}
use Rattle.ceilings.specs.abs_path.Paths.{Path}
use Rattle.ceilings.specs.abs_path.Prefix.{is_prefix, is_same, is_below, rest_of}
use Rattle.ceilings.proofs.OfAbsPath.Prefixes.{prefix-append, same_path, rest-append}
use Rattle.ceilings.specs.kern_mounts.Entry.{leads_to}
use Rattle.ceilings.specs.kern_mounts.Finds.{host_place}
use Rattle.ceilings.specs.kern_mounts.Split.{Table}
use Rattle.ceilings.specs.kern_mounts.declared.step.What.TheVariants.{Host}
use Rattle.ceilings.proofs.OfKernMounts.Splits.{split_some}
use Rattle.ceilings.specs.kernel_laws.Blind.{is_clear, shows_below, exposes}
use Rattle.ceilings.proofs.OfKernelLaws.Blind.{exposes_at, placed, seen_exposes}
use Rattle.ceilings.proofs.OfKernelLaws.Exposed.{exposes_seen}
use Rattle.ceilings.proofs.OfKernelLaws.Reach.{none_any}
use Rattle.ceilings.specs.kernel_model.World.{table_of}
use Rattle.ceilings.specs.mount_plan.Resting.{ShowsNothingOf}
use Rattle.judge.specs.Worlds.{BlindIsShownNothing}
use Rattle.judge.proofs.Sites.{clash}

-- where the folder itself is shown, so is what some name has below it
itself_exposes : (folder : Path) (table : Table) (path : Path) → host_place table path ≡ Some folder → exposes false folder table ≡ true
itself_exposes folder table path shown =
    let p = placed table path folder shown in
    let is = split_some (leads_to path) table p.split p.belongs in
    let rest = rest_of p.split.entry.place path in
    let front : is_prefix p.source folder ≡ true = ap (is_prefix p.source) p.place_is ∙ prefix-append p.source rest in
    let own : p.split.entry.place ++ rest_of p.source folder ≡ path = ap (λ (q : Path). p.split.entry.place ++ rest_of p.source q) p.place_is ∙ ap (λ (q : Path). p.split.entry.place ++ q) (rest-append p.source rest) ∙ sym p.path_is in
    let clear : is_clear false (p.split.entry.place ++ rest_of p.source folder) p.split.later ≡ true = ap (λ (q : Path). is_clear false q p.split.later) own ∙ ap not (none_any (leads_to path) p.split.later is.last) in
    let shows : shows_below false folder p.split.entry p.split.later (Host p.source) ≡ true = or_right (is_below p.source folder && is_clear false p.split.entry.place p.split.later) _ (and_from _ _ front clear) in
    let whole : shows_below false folder p.split.entry p.split.later p.split.entry.what ≡ true = ap (shows_below false folder p.split.entry p.split.later) p.host ∙ shows in
    rw is.whole (exposes_at false folder p.split.earlier p.split.entry p.split.later whole)

shows_nothing : (folder : Path) (table : Table) → exposes false folder table ≡ false → ShowsNothingOf table folder
shows_nothing folder table none path place shown = by (is_prefix folder place) refl (is_same folder place) refl
  where
    by : (b : Bool) → is_prefix folder place ≡ b → (c : Bool) → is_same folder place ≡ c → b ≡ false
    by false leads c same = refl
    by true leads false same =
        let below : is_below place folder ≡ true = ap (λ b. b && not (is_same folder place)) leads ∙ ap not same in
        absurd (clash (exposes false folder table)
        (seen_exposes folder table (record { path = path; place = place; shown = shown; below = below })) none)
    by true leads true same =
        let is : folder ≡ place = same_path folder place same in
        absurd (clash (exposes false folder table) (itself_exposes folder table path (shown ∙ ap (λ (p : Path). Some p) (sym is))) none)

pub blind_is_shown_nothing : BlindIsShownNothing
blind_is_shown_nothing folder world pid process lives small fit blind =
    shows_nothing folder (table_of world process.namespace) (by (exposes false folder (table_of world process.namespace)) refl)
  where
    by : (b : Bool) → exposes false folder (table_of world process.namespace) ≡ b → b ≡ false
    by false is = refl
    by true is =
        let x = exposes_seen folder (table_of world process.namespace) small fit is in
        absurd (blind [] tt (record { pid = pid; process = process; lives = lives; path = x.seen.path; fits = x.fits; place = x.seen.place; shown = x.seen.shown; below = x.seen.below }))
