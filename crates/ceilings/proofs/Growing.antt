-- Power over mount tables takes nothing away: what can be run without it can be run with it, and what is had is had.
use Rattle.std.proofs.Common.{◌≡◌, ℕ, ◌+◌, Bool, true, false, [], ◌∷◌, ◌++◌, Some, refl, cond, ◌∙◌, sym}
use Rattle.std.specs.Prelude.{not, ◌&&◌, is_some}
use Rattle.std.specs.List.{list_any}
use Rattle.std.proofs.lemmas.Bool.{and_parts, and_from}
use Rattle.kernel_ways.specs.abs_path.Paths.{Path}
use Rattle.kernel_ways.specs.abs_path.Prefix.{is_prefix, rest_of}
use Rattle.kernel_ways.specs.cap_sets.Sets.{has, union, IsWithin}
use Rattle.kernel_ways.proofs.OfCapSets.Members.{none_within, union_within, within_union_left, within_union_right, within_self}
use Rattle.kernel_ways.proofs.OfCapSets.Members.{within_through}
use Rattle.kernel_ways.specs.linux_numbers.Capabilities.{cap_setuid}
use Rattle.kernel_ways.specs.site_table.declared.row.Row.{Row}
use Rattle.kernel_ways.specs.site_table.Kinds.{is_exe}
use Rattle.kernel_ways.specs.kern_mounts.Entry.{leads_to}
use Rattle.kernel_ways.specs.kern_mounts.Split.{Table}
use Rattle.kernel_ways.specs.kern_mounts.declared.step.What.{What}
use Rattle.kernel_ways.specs.kern_mounts.declared.step.What.TheVariants.{Host, Empty, Hidden}
use Rattle.kernel_ways.specs.kern_mounts.declared.step.MountStep.{MountStep}
use Rattle.kernel_ways.specs.kernel_laws.Bound.{gathered, when, is_barred, can_run, file_gain, gain_at, caps_before}
use Rattle.kernel_ways.specs.kernel_laws.Launched.{Launch}
use Rattle.kernel_ways.specs.kern_mounts.declared.step.Flags.{Flags}
use Rattle.kernel_ways.specs.kernel_laws.declared.question_types.power.Power.{Power}
use Rattle.kernel_ways.specs.kernel_laws.declared.question_types.power.Power.TheVariants.{None as Nowise, Unmount as Unmounting}
use Rattle.kernel_ways.specs.kernel_laws.declared.question_types.power.Power.TheVariants.{Mount as Mounting}
use Rattle.kernel_ways.specs.kernel_laws.Reach.{shows_row, serves_with, first_with, reaches_with, runs_marked}
use Rattle.kernel_ways.proofs.OfKernelLaws.Bound.{gathered_has, gathered_within, within_when}
use Rattle.kernel_ways.specs.Spared.{caps_by}

serves_grow : (row : Path) (test : Flags → Bool) (entry : MountStep) (later : Table) → serves_with false row test entry later ≡ true
    → serves_with true row test entry later ≡ true
serves_grow row test entry later h =
    let p = and_parts (test entry.flags) (shows_row false entry later row entry.what) h in
    and_from _ _ p.0 (by entry.what p.1)
  where
    by : (what : What) → shows_row false entry later row what ≡ true → shows_row true entry later row what ≡ true
    by (Host source) h = and_from (is_prefix source row) true
        (and_parts (is_prefix source row) (not (list_any (leads_to (entry.place ++ rest_of source row)) later)) h).0 refl
    by Empty h = cc
    by (Hidden directory) h = cc

from_grow : (row : Path) (test : Flags → Bool) (table : Table) (at : ℕ) → is_some (first_with false row test table at) ≡ true
    → is_some (first_with true row test table at) ≡ true
from_grow row test [] at h = cc
from_grow row test (entry ∷ later) at h = by (serves_with false row test entry later) refl (serves_with true row test entry later) refl h
    (from_grow row test later (at + 1))
  where
    by : (b : Bool) → serves_with false row test entry later ≡ b → (c : Bool) → serves_with true row test entry later ≡ c
        → is_some (cond b (Some at) (first_with false row test later (at + 1))) ≡ true
        → (is_some (first_with false row test later (at + 1)) ≡ true → is_some (first_with true row test later (at + 1)) ≡ true)
        → is_some (cond c (Some at) (first_with true row test later (at + 1))) ≡ true
    by b e true f h more = refl
    by true e false f h more = let both : true ≡ false = sym (serves_grow row test entry later e) ∙ f in cc
    by false e false f h more = more h

reaches_grow : (power : Power) (table : Table) (row : Path) (test : Flags → Bool) → reaches_with Nowise table row test ≡ true
    → reaches_with power table row test ≡ true
reaches_grow Nowise table row test h = h
reaches_grow Unmounting table row test h = from_grow row test table 0 h
reaches_grow Mounting table row test h = refl

when_grow : (b c : Bool) (set : ℕ) → (b ≡ true → c ≡ true) → IsWithin (when b set) (when c set)
when_grow true c set h = within_when c set set (h refl) (within_self set)
when_grow false c set h = none_within (when c set)

module _ (launch : Launch) (power : Power) where
  pub run_grows : (row : Row) → can_run launch Nowise row ≡ true → can_run launch power row ≡ true
  run_grows row h =
      let p = and_parts (is_exe row.kind && reaches_with Nowise launch.table row.path runs_marked) (not (is_barred launch row)) h in
      let q = and_parts (is_exe row.kind) (reaches_with Nowise launch.table row.path runs_marked) p.0 in
      and_from _ _ (and_from _ _ q.0 (reaches_grow power launch.table row.path runs_marked q.1)) p.1

  before_grows : IsWithin (caps_before launch Nowise) (caps_before launch power)
  before_grows = union_within _ _ _ (within_union_left _ _ _ (within_self _))
      (within_union_right _ _ _ (gathered_within (gain_at launch Nowise) launch.site.rows (gathered (gain_at launch power) launch.site.rows)
      (λ at row e. within_through _ (gain_at launch power row) _
      (when_grow (can_run launch Nowise row) (can_run launch power row) (file_gain launch row) (run_grows row))
      (gathered_has (gain_at launch power) launch.site.rows at row e))))

  pub caps_grow : (uids : Bool) → IsWithin (caps_by launch uids Nowise) (caps_by launch uids power)
  caps_grow uids = by launch.creds.no_new_privs
    where
      by : (b : Bool) → IsWithin
          (cond b launch.creds.effective
          (union (caps_before launch Nowise) (when (has (caps_before launch Nowise) cap_setuid && uids) launch.creds.bounding)))
          (cond b launch.creds.effective
          (union (caps_before launch power) (when (has (caps_before launch power) cap_setuid && uids) launch.creds.bounding)))
      by true = within_self _
      by false = union_within _ _ _ (within_union_left _ _ _ before_grows)
          (within_union_right _ _ _
          (when_grow (has (caps_before launch Nowise) cap_setuid && uids)
          (has (caps_before launch power) cap_setuid && uids) launch.creds.bounding
          (λ e. let p = and_parts (has (caps_before launch Nowise) cap_setuid) uids e in and_from _ _ (before_grows.each cap_setuid p.0) p.1)))
