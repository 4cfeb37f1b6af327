-- An entry leads to a row exactly where a path that can be named finds it, on the tables of each power.
use Rattle.std.proofs.Common.{◌≡◌, ◌∙◌, ℕ, true, false, [], ◌∷◌, ◌++◌, Option, Some, refl, ap, sym, subst, arith}
use Rattle.std.specs.Prelude.{◌<◌, ◌^◌, Bool, is_some, IsSome}
use Rattle.std.specs.List.{AllByRecursion}
use Rattle.kernel_laws.specs.abs_path.Paths.{Path, proc}
use Rattle.kernel_laws.specs.abs_path.Prefix.{rest_of}
use Rattle.kernel_laws.specs.site_table.declared.row.Row.{Row}
use Rattle.kernel_laws.specs.site_table.Table.{Site, IsSite, IsRowOf, row_at}
use Rattle.kernel_laws.specs.kern_mounts.Entry.{leads_to, entry_of}
use Rattle.kernel_laws.specs.kern_mounts.Finds.{found_at, found_by, row_or_nothing}
use Rattle.kernel_laws.specs.kern_mounts.Launch.{HasShortPlace, CanBeMounted}
use Rattle.kernel_laws.specs.kern_mounts.declared.step.MountStep.{MountStep}
use Rattle.kernel_laws.specs.kern_mounts.Split.{Table}
use Rattle.kernel_laws.specs.kern_mounts.Table.{StartsAtRoot}
use Rattle.kernel_laws.specs.kern_mounts.Unmounts.{IsOrdered}
use Rattle.kernel_laws.proofs.OfKernMounts.Leaving.{ascending_is_ordered}
use Rattle.kernel_laws.proofs.OfAbsPath.Prefixes.{rest-append}
use Rattle.kernel_laws.proofs.OfKernMounts.Splits.{split_some, of_split}
use Rattle.kernel_laws.proofs.OfKernMounts.Unmounting.{append_all, trimmed_part, unmounts_trim}
use Rattle.kernel_laws.specs.kernel_model.kern_files.Looking.{flags_by}
use Rattle.kernel_laws.specs.kernel_model.kern_files.Bits.{has_all}
use Rattle.kernel_laws.specs.kernel_model.kern_files.MountCall.{ms_bind, ms_remount_bind, has_other_kind, flags_of}
use Rattle.kernel_laws.specs.kernel_model.kernel_calls.Calls.{IsPath}
use Rattle.kernel_laws.specs.kern_mounts.declared.step.Flags.{Flags}
use Rattle.kernel_laws.specs.declared.question_types.wish.Wish.TheVariants.{See, Read, Write, Exec}
use Rattle.kernel_laws.specs.declared.question_types.power.Power.{Power}
use Rattle.kernel_laws.specs.declared.question_types.power.Power.TheVariants.{None as Nowise, Unmount as Unmounting, Mount as Mounting}
use Rattle.kernel_laws.specs.Reach.{LeadsWith, reach_with, reaches_with}
use Rattle.kernel_laws.proofs.Reach.{leads}
use Rattle.kernel_laws.proofs.ReachLaws.{reach_of_the_table, reach_by_unmounts}
use Rattle.reach_paths.specs.Needs.{allows}
use Rattle.reach_paths.specs.declared.needs.Need.{Need}
use Rattle.reach_paths.specs.declared.needs.Need.TheVariants.{ForWish, Marked, Unmarked}
use Rattle.reach_paths.specs.Finding.{dirs_of, FindsRow, still, then_one, CanBeFound}
use Rattle.reach_paths.proofs.Naming.{named_both, rest_short}
use Rattle.reach_paths.proofs.Parts.{part_all, starts}
use Rattle.reach_paths.proofs.RowsOfSites.{found_path, found_row}
use Rattle.reach_paths.proofs.Mounted.{mounted_twice}

-- two calls of mount(2) make a mount with such flags: a bind, and its remount with this word
pub record CanBeRemounted (test : Flags → Bool) : Type 0 where
  pub word : ℕ
  pub small : word < 2 ^ 32
  pub again : has_all ms_remount_bind word ≡ true
  pub single : has_other_kind word ≡ false
  pub passes : test (flags_of word) ≡ true

-- a remount without flags allows every wish, and the marks of programs are looked at there
plainly : (test : Flags → Bool) → test (flags_of ms_remount_bind) ≡ true → CanBeRemounted test
plainly test passes = record { word = ms_remount_bind; small = omega arith; again = refl; single = refl; passes = passes }

-- MS_REMOUNT, MS_BIND and MS_NOSUID
abbrev nosuid_word : ℕ
nosuid_word = 0x1022

pub can_be_remounted : (need : Need) → CanBeRemounted (allows need)
can_be_remounted (ForWish See) = plainly (allows (ForWish See)) refl
can_be_remounted (ForWish Read) = plainly (allows (ForWish Read)) refl
can_be_remounted (ForWish Write) = plainly (allows (ForWish Write)) refl
can_be_remounted (ForWish Exec) = plainly (allows (ForWish Exec)) refl
can_be_remounted Marked = plainly (allows Marked) refl
can_be_remounted Unmarked = record { word = nosuid_word; small = omega arith; again = refl; single = refl; passes = refl }

module _ (site : Site) (test : Flags → Bool) (remount : CanBeRemounted test) (target : Row) (is : IsSite site) (there : row_at site.rows target.path ≡ Some target) where
  abbrev rows : Path → Option Row
  rows = row_at site.rows

  own : IsRowOf site.rows target
  own = found_row site target.path target is there

  -- a path that leads to the row finds it, and can be named
  finds_row : (table : Table) → AllByRecursion HasShortPlace table → LeadsWith table target.path test → FindsRow rows table test target
  finds_row table short lead =
      let by : entry_of table lead.path ≡ Some lead.split.entry = of_split lead.path table lead.split lead.belongs in
      let split = split_some (leads_to lead.path) table lead.split lead.belongs in
      let all : AllByRecursion HasShortPlace (lead.split.earlier ++ lead.split.entry ∷ lead.split.later) = subst (AllByRecursion HasShortPlace) split.whole short in
      let place : HasShortPlace lead.split.entry = append_all HasShortPlace lead.split.earlier lead.split.entry lead.split.later all in
      let rest = rest_short lead.source lead.rest target.path lead.row_is own.normal own.short in
      let at : lead.source ++ rest_of lead.split.entry.place lead.path ≡ target.path =
      ap (λ (p : Path). lead.source ++ rest_of lead.split.entry.place p) lead.path_is ∙ ap (λ (r : Path). lead.source ++ r) (rest-append lead.split.entry.place lead.rest) ∙ sym lead.row_is in
      record {
        path = lead.path;
        can_be_named = subst IsPath (sym lead.path_is) (named_both lead.split.entry.place lead.rest place.normal place.short rest.0 rest.1);
        is_found = ap (found_at rows lead.path) by ∙ ap (λ w. found_by rows w lead.split.entry.place lead.path) lead.host
            ∙ ap (λ (p : Path). row_or_nothing (rows p)) at ∙ ap row_or_nothing there;
        is_allowed = ap (λ (o : Option MountStep). test (flags_by o)) by ∙ lead.flags;
      }

  lead_of : (table : Table) → FindsRow rows table test target → LeadsWith table target.path test
  lead_of table f = leads site.rows table f.path target test f.is_found f.is_allowed

  root_named : IsPath []
  root_named = record { normal = refl; short = omega arith }

  proc_named : IsPath proc
  proc_named = record { normal = refl; short = omega arith }

  module _ (table : Table) (can : CanBeMounted (dirs_of site) table) where
    top : StartsAtRoot table
    top = starts table can.begins_at_root

    ordered : IsOrdered table
    ordered = ascending_is_ordered table can.places_ascend

    there_by : (power : Power) → reaches_with power table target.path test ≡ true → CanBeFound power rows table test target
    there_by Nowise e = (table, refl, finds_row table can.places_are_short ((reach_of_the_table table target.path test).0 e))
    there_by Unmounting e =
        let m = (reach_by_unmounts table target.path test top ordered).0 e in
        (m.0, m.1, finds_row m.0 (part_all HasShortPlace (trimmed_part (unmounts_trim m.1 top)) can.places_are_short) m.2)
    there_by Mounting e =
        let two = mounted_twice site table remount.word is can remount.again remount.single in
        let below = two.each_row target there in (
          two.last,
          then_one [] proc ms_bind root_named proc_named (omega arith) two.bound
              (then_one [] proc remount.word root_named proc_named remount.small two.remounted still),
          record { path = proc ++ target.path; can_be_named = below.can_be_named; is_found = below.is_found; is_allowed = ap test below.flags_are ∙ remount.passes },
        )

    back_by : (power : Power) → CanBeFound power rows table test target → reaches_with power table target.path test ≡ true
    back_by Nowise f = (reach_of_the_table table target.path test).1 (let P : Table → Type 0 = λ t. LeadsWith t target.path test in subst P f.1 (lead_of f.0 f.2))
    back_by Unmounting f = (reach_by_unmounts table target.path test top ordered).1 f.0 f.1 (lead_of f.0 f.2)
    back_by Mounting f = refl

-- at each power: where an entry is answered, and only there
pub exactly : (power : Power) (table : Table) (path : Path) (test : Flags → Bool) → CanBeRemounted test → (site : Site) (target : Row)
    → IsSite site → CanBeMounted (dirs_of site) table → row_at site.rows path ≡ Some target
    → (reaches_with power table path test ≡ true → CanBeFound power (row_at site.rows) table test target) ×
    (CanBeFound power (row_at site.rows) table test target → reaches_with power table path test ≡ true)
exactly power table path test remount site target is can there =
    let same : target.path ≡ path = found_path site.rows path target there in
    let there' : row_at site.rows target.path ≡ Some target = ap (row_at site.rows) same ∙ there in
    ((λ e. there_by site test remount target is there' table can power (ap (λ p. reaches_with power table p test) same ∙ e)), (λ f. ap (λ p. reaches_with power table p test) (sym same) ∙ back_by site test remount target is there' table can power f))

pub exactly_answered : (power : Power) (table : Table) (path : Path) (test : Flags → Bool) → CanBeRemounted test → (answer : Option ℕ)
    → answer ≡ reach_with power table path test → (site : Site) (target : Row) → IsSite site → CanBeMounted (dirs_of site) table
    → row_at site.rows path ≡ Some target
    → (IsSome answer → CanBeFound power (row_at site.rows) table test target) ×
    (CanBeFound power (row_at site.rows) table test target → IsSome answer)
exactly_answered power table path test remount answer is site target s can there =
    let e = exactly power table path test remount site target s can there in
    ((λ some. e.0 (ap (λ (o : Option ℕ). is_some o) (sym is) ∙ some)), (λ f. ap (λ (o : Option ℕ). is_some o) is ∙ e.1 f))
