-- The entry that leads to a row shows it at a path that a call can name.
use Rattle.std.proofs.Common.{◌≡◌, ℕ, Bool, [], ◌∷◌, ◌++◌, Option, Some, None, ap, ◌∙◌, sym, subst, arith, ◌≤◌, length}
use Rattle.std.specs.Prelude.{slice_get}
use Rattle.std.specs.List.{AllByRecursion}
use Rattle.ceilings.specs.abs_path.Paths.{Path, tail_of, text_of}
use Rattle.ceilings.specs.abs_path.Prefix.{is_prefix, rest_of}
use Rattle.ceilings.proofs.OfAbsPath.Prefixes.{prefix-append, rest-append}
use Rattle.ceilings.specs.site_table.declared.row.Row.{Row}
use Rattle.ceilings.specs.kern_mounts.Entry.{leads_to}
use Rattle.ceilings.specs.kern_mounts.Launch.{HasShortPlace}
use Rattle.ceilings.specs.kern_mounts.Split.{Table}
use Rattle.ceilings.specs.kern_mounts.declared.step.MountStep.{MountStep}
use Rattle.ceilings.specs.kern_mounts.declared.step.What.TheVariants.{Host}
use Rattle.ceilings.proofs.OfKernMounts.Splits.{split_some}
use Rattle.ceilings.proofs.OfKernMounts.Unmounting.{append_all}
use Rattle.ceilings.specs.kernel_model.kernel_calls.Calls.{IsPath}
use Rattle.ceilings.specs.kernel_laws.Launched.{Launch}
use Rattle.ceilings.specs.kern_mounts.declared.step.Flags.{Flags}
use Rattle.ceilings.specs.kernel_laws.declared.question_types.power.Power.TheVariants.{None as Nowise, Unmount as Unmounting}
use Rattle.ceilings.specs.kernel_laws.Reach.{reach_with}
use Rattle.ceilings.specs.reach_paths.First.{LeadsBy, Shows, IsFirst}
use Rattle.ceilings.proofs.OfReachPaths.Naming.{named_both, rest_short}
use Rattle.ceilings.proofs.OfReachPaths.RowsOfSites.{found_row}
use Rattle.ceilings.proofs.OfReachPaths.Serving.{first_by_power}
use Rattle.ceilings.specs.kernel_ways.Offers.{Offers}
use Rattle.ceilings.proofs.OfKernelWays.Rows.{IsKnown}
use Rattle.open_calls.specs.chosen_calls.Exposing.{IsLead}
use Rattle.open_calls.proofs.Lists.{get_here}

-- the text of a path has its tail, or is a lone slash
pub tail_short : (path : Path) → length (text_of path) ≤ 512 → length (tail_of path) ≤ 512
tail_short [] h = omega arith
tail_short (part ∷ path) h = h

module _ (launch : Launch) (o : Offers launch) (target : Row) (there : IsKnown launch.site target) (test : Flags → Bool) where
  led : (earlier later : Table) (entry : MountStep) (at : ℕ) (source rest : Path) → launch.table ≡ earlier ++ entry ∷ later
      → at ≡ length earlier → entry.what ≡ Host source → target.path ≡ source ++ rest → IsLead launch.table target.path at
  led earlier later entry at source rest whole number host row_is =
      let own : slice_get launch.table at ≡ Some entry = ap (λ (t : Table). slice_get t at) whole ∙ ap (slice_get (earlier ++ entry ∷ later)) number ∙ get_here earlier entry later in
      let all : AllByRecursion HasShortPlace (earlier ++ entry ∷ later) = subst (AllByRecursion HasShortPlace) whole o.plan.places_are_short in
      let place : HasShortPlace entry = append_all HasShortPlace earlier entry later all in
      let row = found_row launch.site target.path target o.site there in
      let short = rest_short source rest target.path row_is row.normal row.short in
      let named : IsPath (entry.place ++ rest) = named_both entry.place rest place.normal place.short short.0 short.1 in
      let same : rest_of source target.path ≡ rest = ap (rest_of source) row_is ∙ rest-append source rest in
      let P : Path → Type 0 = λ r. length (tail_of (entry.place ++ r)) ≤ 512 in
      record { entry = entry; own = own; source = source; host = host; leads = ap (is_prefix source) row_is ∙ prefix-append source rest; short = subst P (sym same) (tail_short (entry.place ++ rest) named.short) }

  nowise : (x : Option ℕ) → IsFirst (LeadsBy launch.table target.path test) x → (at : ℕ) → x ≡ Some at → IsLead launch.table target.path at
  nowise None first at e = cc
  nowise (Some own) first at e =
      let same : own ≡ at = cc in
      let lead' = first.0.lead in
      let split = split_some (leads_to lead'.path) launch.table lead'.split lead'.belongs in
      subst (IsLead launch.table target.path) same
      (led lead'.split.earlier lead'.split.later lead'.split.entry own lead'.source lead'.rest split.whole first.0.number lead'.host
      lead'.row_is)

  unmounting : (x : Option ℕ) → IsFirst (Shows launch.table target.path test) x → (at : ℕ) → x ≡ Some at
      → IsLead launch.table target.path at
  unmounting None first at e = cc
  unmounting (Some own) first at e =
      let same : own ≡ at = cc in
      let s = first.0 in
      subst (IsLead launch.table target.path) same (led s.earlier s.later s.entry own s.source s.rest s.whole s.number s.host s.row_is)

  pub leads_nowise : (at : ℕ) → reach_with Nowise launch.table target.path test ≡ Some at → IsLead launch.table target.path at
  leads_nowise at e = nowise (reach_with Nowise launch.table target.path test) (first_by_power Nowise launch.table target.path test) at e

  pub leads_unmounting : (at : ℕ) → reach_with Unmounting launch.table target.path test ≡ Some at → IsLead launch.table target.path at
  leads_unmounting at e = unmounting (reach_with Unmounting launch.table target.path test)
      (first_by_power Unmounting launch.table target.path test) at e
