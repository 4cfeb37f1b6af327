use Rattle.std.proofs.Common.{◌≡◌, ◌∙◌, ◌+◌, cond, [], drop, length, refl, sym, ap, arith}
use Rattle.kern_mounts.specs.Mounts.{Mounts}
use Rattle.kern_mounts.proofs.Mounts.{in_range}
use Rattle.kern_mounts.proofs.Binding.{Binds, bind_uncovers, bind_made, stands, uncovers}
use Rattle.kern_mounts.proofs.table.bind.add_bound.Goals as goal
use Rattle.kern_mounts.proofs.table.bind.add_bound.Goals.{then-recursive, else-recursive}

pub returns-then-uncovers-clause-by_the_rule : goal.returns-then-uncovers-clause-by_the_rule
returns-then-uncovers-clause-by_the_rule c =
    let here = stands c.args.mounts.now.items c.args.at (in_range c.args.mounts.now.items c.args.source.now c.args.at c.requires.belongs) in
    let binds : Binds c.args.mounts.now.items (cond c.args.recursive (drop (c.args.at + 1) c.args.mounts.now.items) []) c.args.source.now c.args.recursive c.args.at here.0 =
    record { belongs = c.requires.belongs; entry_is = here.1; later_is = refl } in (
      bind_uncovers _ _ c.args.source.now c.args.target.now c.args.recursive c.args.at here.0 binds
          (ap (λ (items : Mounts). uncovers items c.args.source.now c.args.recursive c.args.at) (sym c.deref.ensures.value)
          ∙ sym c.if-uncovers.ensures),
      refl,
    )

pub returns-then-len-le-MOUNT_MAX-clause-by_the_rule : goal.returns-then-len-le-MOUNT_MAX-clause-by_the_rule
returns-then-len-le-MOUNT_MAX-clause-by_the_rule c =
    let size : c.len-before.result ≡ length c.args.mounts.now.items = omega (arith, c.len-before.ensures, c.args.mounts.now.ok.0) in
    let end : c.if-recursive.end ≡ cond c.args.recursive (length c.args.mounts.now.items) (c.args.at + 1) = elim c.if-recursive.branch [
      | then-recursive w ↦ w.end-is ∙ size ∙ sym (ap (λ b. cond b (length c.args.mounts.now.items) (c.args.at + 1)) w.if-recursive.true)
      | else-recursive w ↦ w.end-is ∙ sym (ap (λ b. cond b (length c.args.mounts.now.items) (c.args.at + 1)) w.if-recursive.false)
    ] in
    bind_made c.args.mounts.now.items c.push_bound.new.mounts.items c.args.source.now c.args.target.now c.args.recursive c.args.at
    c.if-recursive.end c.requires.belongs
    (ap (λ (items : Mounts). uncovers items c.args.source.now c.args.recursive c.args.at) (sym c.deref.ensures.value)
    ∙ sym c.if-uncovers.ensures)
    end (c.in-Ok-true.ensures.pushed c.in-Ok-true.field-0-test)
    (omega (arith, c.len.ensures, c.if-len-le-MOUNT_MAX.true, c.push_bound.new.mounts.ok.0))
