-- With mount a new entry shows the whole host.
use Rattle.std.proofs.Common.{◌≡◌, true, false, [], ◌∷◌, ◌++◌, Option, Some, Ok, map, refl, cond, ap, ◌∙◌, sym, subst, length}
use Rattle.std.proofs.Common.{arith, ◌<◌}
use Rattle.std.specs.Prelude.{option_and_then, codes, nat_lt, ◌+◌}
use Rattle.std.specs.List.{AllByRecursion}
use Rattle.std.proofs.lemmas.Bool.Decides.{nat_tests}
use Rattle.kernel_model.specs.abs_path.Paths.{Path, is_root, proc}
use Rattle.kernel_model.specs.abs_path.Prefix.{is_prefix, rest_of}
use Rattle.kernel_model.proofs.OfAbsPath.Prefixes.{prefix-append}
use Rattle.kernel_model.specs.site_table.declared.row.Row.{Row}
use Rattle.kernel_model.specs.kern_mounts.Entry.{leads_to, entry_of}
use Rattle.kernel_model.specs.kern_mounts.Finds.{finds, found_at, found_by, row_or_nothing, host_place, host_place_by}
use Rattle.kernel_model.specs.kern_mounts.declared.step.What.TheVariants.{Host}
use Rattle.kernel_model.specs.kern_mounts.declared.step.MountStep.{MountStep}
use Rattle.kernel_model.proofs.OfKernMounts.Entries.{entry_push}
use Rattle.kernel_laws.specs.Blind.{SeesBelow, ExposedByMount}
use Rattle.kernel_model.specs.kern_mounts.Split.{Table, split_at}
use Rattle.kernel_model.specs.kern_mounts.Bind.{bound_entry, after_bind}
use Rattle.kernel_model.specs.kern_mounts.Mounts.{plain, steps_of}
use Rattle.kernel_model.proofs.OfKernMounts.Plain.{binds_alone, steps_plain}
use Rattle.kernel_model.specs.site_table.Kinds.{is_dir}
use Rattle.kernel_model.specs.kern_files.MountCall.{kind_found, target_kind, after_mount}
use Rattle.kernel_model.specs.kern_files.MountCall.{bind_found, mount_onto}
use Rattle.kernel_model.proofs.OfKernMounts.Splits.{None_have, split_is, of_split}
use Rattle.kernel_laws.proofs.Exposed.{below_by_part}

-- no entry below the root leads to it
pub none_leads : (rest : Table) → AllByRecursion (λ (entry : MountStep). is_root entry.place ≡ false) rest → None_have (leads_to []) rest
none_leads [] h = tt
none_leads (entry ∷ rest) h = (by entry.place h.0, none_leads rest h.1)
  where
    by : (place : Path) → is_root place ≡ false → is_prefix place [] ≡ false
    by [] e = cc
    by (part ∷ place) e = refl

module _ (rows : Path → Option Row) (first : MountStep) (rest : Table) (folder : Path) (root : Row) (at : first.place ≡ [])
    (host : first.what ≡ Host []) (low : AllByRecursion (λ (entry : MountStep). is_root entry.place ≡ false) rest)
    (there : rows [] ≡ Some root) (dir : is_dir root.kind ≡ true) (target : target_kind rows (first ∷ rest) proc ≡ Ok true) (few : length (first ∷ rest) < 4096) where
  abbrev table : Table
  table = first ∷ rest

  abbrev new : MountStep
  new = bound_entry [] proc first

  split : split_at [] table ≡ Some (record { earlier = []; entry = first; later = rest })
  split = split_is (leads_to []) [] first rest (ap (λ p. is_prefix p []) at) (none_leads rest low)

  own : entry_of table [] ≡ Some first
  own = of_split [] table (record { earlier = []; entry = first; later = rest }) split

  target_is : target_kind rows (steps_of (map plain table)) proc ≡ Ok true
  target_is = ap (λ (t : Table). target_kind rows t proc) (steps_plain table) ∙ target

  found : kind_found (finds rows (steps_of (map plain table)) []) ≡ Ok true
  found = ap (λ (t : Table). kind_found (finds rows t [])) (steps_plain table) ∙ ap (λ o. kind_found (found_at rows [] o)) own ∙ ap (λ w. kind_found (found_by rows w first.place [])) host
      ∙ ap (λ p. kind_found (row_or_nothing (rows (rest_of p [])))) at
      ∙ ap (λ o. kind_found (row_or_nothing o)) there ∙ ap (λ b. Ok b) dir

  room : nat_lt 4096 (length table + 1) ≡ false
  room = grind (arith, nat_tests, few)

  bind : after_bind (map plain table) [] proc false ≡ Ok (map plain (table ++ new ∷ []))
  bind = binds_alone table [] proc (record { earlier = []; entry = first; later = rest }) split room

  mounts : after_mount rows (map plain table) [] proc 4096 ≡ Ok (map plain (table ++ new ∷ []))
  mounts = ap (mount_onto rows (map plain table) [] proc 4096) target_is ∙ ap (bind_found (map plain table) [] proc false true) found ∙ bind

  what_is : new.what ≡ Host []
  what_is = ap (λ w. (bound_entry [] proc (record first { what = w })).what) host ∙ ap (λ p. Host (rest_of p [])) at

  shown : host_place (table ++ new ∷ []) (proc ++ (folder ++ codes "x" ∷ [])) ≡ Some (folder ++ codes "x" ∷ [])
  shown =
      let path = proc ++ (folder ++ codes "x" ∷ []) in
      let leads : leads_to path new ≡ true = prefix-append proc (folder ++ codes "x" ∷ []) in
      let last : entry_of (table ++ new ∷ []) path ≡ Some new = entry_push table new path ∙ ap (λ b. cond b (Some new) (entry_of table path)) leads in
      ap (λ o. option_and_then (λ step. host_place_by step.what step.place path) o) last ∙ ap (λ w. host_place_by w proc path) what_is

  pub opened : (now : Table) × (after_mount rows (map plain table) [] proc 4096 ≡ Ok (map plain now)) × SeesBelow folder now
  opened = (table ++ new ∷ [], mounts, record { path = proc ++ (folder ++ codes "x" ∷ []); place = folder ++ codes "x" ∷ []; shown = shown; below = below_by_part folder (codes "x") })

pub exposed_by_mount : ExposedByMount
exposed_by_mount rows table first rest folder root whole at host low there dir target few =
    let target' : target_kind rows (first ∷ rest) proc ≡ Ok true = ap (λ (t : Table). target_kind rows t proc) (sym whole) ∙ target in
    let few' : length (first ∷ rest) < 4096 = rw whole at few in
    let P : Table → Type 0 = λ t. (now : Table) × (after_mount rows (map plain t) [] proc 4096 ≡ Ok (map plain now)) × SeesBelow folder now in
    subst P (sym whole) (opened rows first rest folder root at host low there dir target' few')
