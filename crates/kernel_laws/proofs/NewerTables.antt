-- Mount tables of newer user namespaces stay what they are, whatever is called, and show what is shown without them.
use Rattle.std.proofs.Common.{◌≡◌, true, false, ◌++◌, Option, Some, None, refl, sym, ap, ◌∙◌, subst, map}
use Rattle.std.specs.Prelude.{not, option_and_then}
use Rattle.kernel_model.specs.abs_path.Paths.{Path}
use Rattle.kernel_model.specs.abs_path.Prefix.{rest_of}
use Rattle.kernel_model.proofs.OfAbsPath.Prefixes.{rest-append}
use Rattle.kernel_model.specs.kern_mounts.Entry.{entry_of}
use Rattle.kernel_model.specs.kern_mounts.Finds.{host_place, host_place_by}
use Rattle.kernel_model.specs.kern_mounts.Split as table
use Rattle.kernel_model.specs.kern_mounts.Split.{Table}
use Rattle.kernel_model.specs.kern_mounts.declared.step.Flags.{Flags}
use Rattle.kernel_model.specs.kern_mounts.declared.step.What.{What}
use Rattle.kernel_model.specs.kern_mounts.declared.step.What.TheVariants.{Host, Empty, Hidden}
use Rattle.kernel_model.specs.kern_mounts.declared.step.MountStep.{MountStep}
use Rattle.kernel_model.proofs.OfKernMounts.Splits.{split_of}
use Rattle.kernel_model.proofs.OfKernMounts.Unmounting.{trimmed_part}
use Rattle.kernel_model.specs.kern_mounts.Mounts.{Mounts, plain, steps_of}
use Rattle.kernel_model.specs.kern_mounts.Copying.{locked_copy}
use Rattle.kernel_model.specs.kern_mounts.Backing.{AreBacked}
use Rattle.kernel_model.proofs.OfKernMounts.Backing.{backed_first}
use Rattle.kernel_model.proofs.OfKernMounts.Calls.{changes_backed, path_backed}
use Rattle.kernel_laws.specs.Blind.{SeesBelow}
use Rattle.kernel_laws.specs.declared.question_types.wish.Wish.{Wish}
use Rattle.kernel_laws.specs.declared.question_types.power.Power.{Power}
use Rattle.kernel_laws.specs.declared.question_types.power.Power.TheVariants.{None as Nowise, Unmount as Unmounting, Mount as Mounting}
use Rattle.kernel_laws.specs.Launched.{Launch}
use Rattle.kernel_laws.specs.Ceiling.{IsStable}
use Rattle.kernel_model.specs.site_table.Table.{row_at}
use Rattle.kernel_model.specs.kern_mounts.Unmounts.{IsOrdered}
use Rattle.kernel_model.specs.kern_mounts.Changes.{still, then_locked}
use Rattle.kernel_model.proofs.OfKernMounts.Plain.{plain_again}
use Rattle.kernel_model.proofs.MountsCall.{mount_changes, umount_changes}
use Rattle.kernel_laws.specs.Reach.{Leads}
use Rattle.kernel_laws.specs.Showing.{shown_by, shows_from}
use Rattle.kernel_laws.specs.NewerTables.{CanHaveNewer, FirstCopies, CallsKeep, RowsAreReached, FoldersAreSeen}
use Rattle.kernel_laws.proofs.Showing.{widens_by, shown_more, table_shows, part_shows, part_ordered, reach_shown, exposes_shown}
use Rattle.kernel_laws.proofs.MountOfPath.{mount_of}

pub first_copies : FirstCopies
first_copies Nowise launched table ordered same =
    let P : Table → Type 0 = λ t. AreBacked (shown_by Nowise launched) (locked_copy (map plain t)) in
    subst P (sym same) (backed_first (shown_by Nowise launched) launched ordered (table_shows false launched))
first_copies Unmounting launched table ordered part =
    let p = trimmed_part part in
    backed_first (shown_by Unmounting launched) table (part_ordered p ordered)
    (shown_more (shows_from true table) (shows_from true launched) (part_shows p) table (table_shows true table))
first_copies Mounting launched table ordered any = tt

pub calls_keep : CallsKeep
calls_keep Nowise launched mounts last h calls = changes_backed (shown_by Nowise launched) (widens_by Nowise launched) h calls
calls_keep Unmounting launched mounts last h calls = changes_backed (shown_by Unmounting launched) (widens_by Unmounting launched) h calls
calls_keep Mounting launched mounts last h calls = tt

-- what an entry shows at a path that belongs to it
leads_shown : (power : Power) (launched : Table) (mounts : Mounts) (path : Path) (split : table.Split) (source : Path)
    → AreBacked (shown_by power launched) mounts → table.split_at path (steps_of mounts) ≡ Some split → split.entry.what ≡ Host source
    → shown_by power launched (source ++ rest_of split.entry.place path) split.entry.flags ≡ true
leads_shown power launched mounts path split source h e host =
    let m = mount_of path mounts split e in
    let own = path_backed (shown_by power launched) mounts path source m.own (widens_by power launched) h m.found (ap (λ (s : MountStep). s.what) m.same ∙ host) in
    ap (λ (s : MountStep). shown_by power launched (source ++ rest_of s.place path) s.flags) (sym m.same) ∙ own

row_shown : (power : Power) (launched : Table) (mounts : Mounts) (row : Path) (wish : Wish) → AreBacked (shown_by power launched) mounts
    → (l : Leads (steps_of mounts) row wish) → shown_by power launched row l.split.entry.flags ≡ true
row_shown power launched mounts row wish h l =
    let own = leads_shown power launched mounts l.path l.split l.source h l.belongs l.host in
    ap (λ (p : Path). shown_by power launched p l.split.entry.flags)
    (l.row_is ∙ ap (λ (r : Path). l.source ++ r)
    (sym (ap (rest_of l.split.entry.place) l.path_is ∙ rest-append l.split.entry.place l.rest))) ∙ own

pub rows_are_reached : RowsAreReached
rows_are_reached Nowise launched mounts row wish h l = reach_shown false launched row l.split.entry.flags wish 0 l.flags
    (row_shown Nowise launched mounts row wish h l)
rows_are_reached Unmounting launched mounts row wish h l = reach_shown true launched row l.split.entry.flags wish 0 l.flags
    (row_shown Unmounting launched mounts row wish h l)
rows_are_reached Mounting launched mounts row wish h l = refl

-- the entry that shows a place of the host
record PlaceShown (mounts : Mounts) (path place : Path) : Type 0 where
  split : table.Split
  belongs : table.split_at path (steps_of mounts) ≡ Some split
  source : Path
  host : split.entry.what ≡ Host source
  is : source ++ rest_of split.entry.place path ≡ place

place_shown : (mounts : Mounts) (path place : Path) → host_place (steps_of mounts) path ≡ Some place → PlaceShown mounts path place
place_shown mounts path place e = by (entry_of (steps_of mounts) path) refl e
  where
    by : (o : Option MountStep) → entry_of (steps_of mounts) path ≡ o
        → option_and_then (λ step. host_place_by step.what step.place path) o ≡ Some place → PlaceShown mounts path place
    by None is f = cc
    by (Some step) is f =
        let s = split_of path (steps_of mounts) step is in
        by_what s.0 s.1 s.0.entry.what refl (ap (λ (m : MountStep). host_place_by m.what m.place path) s.2 ∙ f)
      where
        by_what : (split : table.Split) → table.split_at path (steps_of mounts) ≡ Some split → (what : What) → split.entry.what ≡ what
            → host_place_by what split.entry.place path ≡ Some place → PlaceShown mounts path place
        by_what split b (Host source) w f = record { split = split; belongs = b; source = source; host = w; is = cc }
        by_what split b Empty w f = cc
        by_what split b (Hidden directory) w f = cc

below_shown : (power : Power) (launched : Table) (mounts : Mounts) (folder : Path) → AreBacked (shown_by power launched) mounts
    → (s : SeesBelow folder (steps_of mounts)) → (flags : Flags) × (shown_by power launched s.place flags ≡ true)
below_shown power launched mounts folder h s =
    let p = place_shown mounts s.path s.place s.shown in
    (p.split.entry.flags, ap (λ (q : Path). shown_by power launched q p.split.entry.flags) (sym p.is) ∙ leads_shown power launched mounts s.path p.split p.source h p.belongs p.host)

pub folders_are_seen : FoldersAreSeen
folders_are_seen Nowise launched mounts folder h s = let b = below_shown Nowise launched mounts folder h s in ap not (exposes_shown false launched s.place b.0 folder s.below b.1)
folders_are_seen Unmounting launched mounts folder h s = let b = below_shown Unmounting launched mounts folder h s in ap not (exposes_shown true launched s.place b.0 folder s.below b.1)
folders_are_seen Mounting launched mounts folder h s = refl

-- what a launch's tables are below, at its power: no call leaves it
pub tables_stable : (launch : Launch) (power : Power) → IsOrdered launch.table → IsStable launch power (CanHaveNewer power launch.table)
tables_stable launch power ordered = record {
  begins = λ mounts h. let P : Mounts → Type 0 = λ t. CanHaveNewer power launch.table (locked_copy t) in subst P (plain_again mounts h.plain) (first_copies power launch.table (steps_of mounts) ordered h.entries);
  copies = λ mounts h. calls_keep power launch.table mounts (locked_copy mounts) h (then_locked still);
  mounts = λ mounts now source target flags h e. calls_keep power launch.table mounts now h
      (mount_changes (row_at launch.site.rows) mounts now source target flags e);
  unmounts = λ mounts now path flags h e. calls_keep power launch.table mounts now h (umount_changes mounts now path flags e);
}
