use Rattle.std.proofs.Common.{◌≡◌, ◌∙◌, sym, ap, subst}
use Rattle.abs_path.specs.Paths.{Path}
use Rattle.std.specs.Prelude.{List}
use Rattle.kern_mounts.specs.Copying.{locked_copy}
use Rattle.kern_mounts.specs.Mounts.{Mounts, steps_of}
use Rattle.kern_mounts.specs.Split.{Table}
use Rattle.kern_mounts.specs.Table.{IsTable, Knows}
use Rattle.kern_mounts.proofs.Mounts.{locked_steps}
use Rattle.kern_mounts.proofs.table.MountTable.copy_locked.Goals as goal

pub invariant_of-result : goal.invariant_of-result
invariant_of-result c =
    let items : Mounts = c.self.inside.mounts.items in
    let same : steps_of items ≡ steps_of c.in_ok-copied_locked.field-0.items =
    sym (locked_steps items) ∙ ap (λ (mounts : Mounts). steps_of (locked_copy mounts)) (sym c.deref.ensures.value) ∙ ap steps_of (sym c.in_ok-copied_locked.ensures.locked) in (
      subst IsTable same c.self.invariant.0,
      subst (λ (places : List Path). Knows c.self.inside.known (steps_of c.in_ok-copied_locked.field-0.items) places)
          (sym c.in_ok-copy.ensures.same)
          (subst (λ (table : Table). Knows c.self.inside.known table c.self.inside.places) same c.self.invariant.1),
    )
