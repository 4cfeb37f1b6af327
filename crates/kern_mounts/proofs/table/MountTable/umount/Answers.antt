use Rattle.std.proofs.Common.{◌≡◌, ◌∙◌, ◌+◌, ℕ, Bool, true, false, Ok, refl, sym, ap, subst, drop, ◌<◌, length, get_or}
use Rattle.std.specs.Prelude.{not, ◌&&◌}
use Rattle.std.specs.List.{list_any}
use Rattle.std.proofs.lemmas.List.{get_or_default}
use Rattle.kern_mounts.specs.declared.step.Mount.{Mount}
use Rattle.kern_mounts.specs.Mounts.{Mounts, steps_of, stands_at, stands_below}
use Rattle.kern_mounts.specs.Umount.{after_umount}
use Rattle.kern_mounts.specs.Table.{IsTable}
use Rattle.kern_mounts.proofs.Mounts.{in_range}
use Rattle.kern_mounts.proofs.Changing.{Stands, umount_elsewhere, umount_locked, umount_busy, umount_done}
use Rattle.kern_mounts.proofs.Unmounting.{unmounted_table}
use Rattle.kern_mounts.proofs.Known.{mounts_known}
use Rattle.kern_mounts.proofs.table.MountTable.umount.Goals as goal
use Rattle.kern_mounts.proofs.table.MountTable.umount.Goals.{else-not-detach-via-then-not-detach+else-any_below}
use Rattle.kern_mounts.proofs.table.MountTable.umount.Goals.{else-not-detach-via-else-not-detach}

was_false : (b : Bool) → true ≡ not b → b ≡ false
was_false true e = cc
was_false false e = refl

was_true : (b : Bool) → false ≡ not b → b ≡ true
was_true true e = refl
was_true false e = cc

neither : (detach some : Bool) → some ≡ false → (not detach && some) ≡ false
neither true some e = refl
neither false some e = e

detached : (detach some : Bool) → detach ≡ true → (not detach && some) ≡ false
detached true some e = refl
detached false some e = cc

-- one element, read twice
element : (items : Mounts) (at : ℕ) (x y : Mount) {mounts : Mounts} → at < length mounts → items ≡ mounts → x ≡ get_or items at x
    → y ≡ get_or items at y → x ≡ y
element items at x y lt view e f = e ∙ get_or_default items at x y (rw view lt) ∙ sym f

pub returns-then-ne : goal.returns-then-ne
returns-then-ne c =
    let stands : Stands c.args.self.now c.self.inside.mounts.items c.args.path.now c.resolve-at.result c.index.result.now =
    record { view = c.self.view_is; belongs = c.resolve-at.ensures.last_that_leads; entry_is = c.index.ensures } in
    record { unmounts = (umount_elsewhere _ _ c.args.path.now c.args.detach c.resolve-at.result c.index.result.now stands (sym c.if-is_root.ensures.without_parts) (was_false _ c.if-ne.ensures), refl) }

-- what the first reading of the mount said of its place holds at the second
same_mount : (c : goal.Then-index) → c.index.result.now ≡ c.index-2.result.now
same_mount c = element c.self.inside.mounts.items c.resolve-at.result _ _
    (in_range c.args.self.now c.args.path.now c.resolve-at.result c.resolve-at.ensures.last_that_leads) c.self.view_is c.index.ensures
    c.index-2.ensures

pub returns-then-index : goal.returns-then-index
returns-then-index c =
    let stands : Stands c.args.self.now c.self.inside.mounts.items c.args.path.now c.resolve-at.result c.index-2.result.now =
    record { view = c.self.view_is; belongs = c.resolve-at.ensures.last_that_leads; entry_is = c.index-2.ensures } in
    let own = ap (λ (m : Mount). stands_at c.args.path.now m) (sym (same_mount c)) ∙ was_true _ c.if-ne.ensures in
    record { unmounts = (umount_locked _ _ c.args.path.now c.args.detach c.resolve-at.result c.index-2.result.now stands (sym c.if-is_root.ensures.without_parts) own c.if-index.true, refl) }

pub returns-then-any_below : goal.returns-then-any_below
returns-then-any_below c =
    let stands : Stands c.args.self.now c.self.inside.mounts.items c.args.path.now c.resolve-at.result c.index-2.result.now =
    record { view = c.self.view_is; belongs = c.resolve-at.ensures.last_that_leads; entry_is = c.index-2.ensures } in
    let lt = in_range c.args.self.now c.args.path.now c.resolve-at.result c.resolve-at.ensures.last_that_leads in
    let same : c.index.result.now ≡ c.index-2.result.now = element c.self.inside.mounts.items c.resolve-at.result _ _ lt c.self.view_is c.index.ensures c.index-2.ensures in
    let some : list_any (stands_below c.args.path.now) (drop (c.resolve-at.result + 1) c.self.inside.mounts.items) ≡ true =
    sym (c.if-any_below.ensures ∙ ap (list_any (stands_below c.args.path.now)) (c.later_than.ensures.behind ∙ ap (drop (c.resolve-at.result + 1)) c.deref.ensures.value)) in
    let busy = umount_busy _ _ c.args.path.now c.resolve-at.result c.index-2.result.now stands (sym c.if-is_root.ensures.without_parts) (ap (λ (m : Mount). stands_at c.args.path.now m) (sym same) ∙ was_true _ c.if-ne.ensures) c.if-index.false some in
    record { unmounts = (ap (after_umount c.args.self.now c.args.path.now) c.if-not-detach.true ∙ busy, refl) }

done : (c : goal.After-self-2-1) → after_umount c.args.self.now c.args.path.now c.args.detach ≡ Ok c.take_away.new.mounts.items
done c =
    let stands : Stands c.args.self.now c.self.inside.mounts.items c.args.path.now c.resolve-at.result c.index-2.result.now =
    record { view = c.self.view_is; belongs = c.resolve-at.ensures.last_that_leads; entry_is = c.index-2.ensures } in
    let lt = in_range c.args.self.now c.args.path.now c.resolve-at.result c.resolve-at.ensures.last_that_leads in
    let same : c.index.result.now ≡ c.index-2.result.now = element c.self.inside.mounts.items c.resolve-at.result _ _ lt c.self.view_is c.index.ensures c.index-2.ensures in
    let some : Bool = list_any (stands_below c.args.path.now) (drop (c.resolve-at.result + 1) c.self.inside.mounts.items) in
    let none : (not c.args.detach && some) ≡ false = elim c.else-not-detach.branch [
      | else-not-detach-via-then-not-detach+else-any_below w ↦ neither c.args.detach some
          (sym (w.if-any_below.ensures ∙ ap (list_any (stands_below c.args.path.now))
          (w.later_than.ensures.behind ∙ ap (drop (c.resolve-at.result + 1)) w.deref.ensures.value)))
      | else-not-detach-via-else-not-detach w ↦ detached c.args.detach some w.if-not-detach.false
    ] in
    umount_done _ _ c.args.path.now c.args.detach c.resolve-at.result c.index-2.result.now stands (sym c.if-is_root.ensures.without_parts)
    (ap (λ (m : Mount). stands_at c.args.path.now m) (sym same) ∙ was_true _ c.if-ne.ensures) c.if-index.false none
    ∙ ap Ok (sym c.take_away.ensures.the_mount_and_below)

pub invariant_of-self : goal.invariant_of-self
invariant_of-self c =
    let is : IsTable (steps_of c.args.self.now) = subst (λ (mounts : Mounts). IsTable (steps_of mounts)) c.self.view_is c.self.invariant.0 in
    let lt : c.resolve-at.result < length c.self.inside.mounts.items = subst (λ (mounts : Mounts). c.resolve-at.result < length mounts) (sym c.self.view_is) (in_range c.args.self.now c.args.path.now c.resolve-at.result c.resolve-at.ensures.last_that_leads) in (
      unmounted_table c.args.path.now c.args.detach c.args.self.now c.take_away.new.mounts.items is (done c),
      mounts_known c.self.inside.mounts.items c.take_away.new.mounts.items _ c.self.inside.places c.known_still-self-inside.new.places
          c.self.inside.known c.known_still-self-inside.result c.resolve-at.result
          c.known_still-self-inside.ensures.knows_those c.self.invariant.1 lt c.take_away.ensures.the_mount_and_below,
    )

pub returns : goal.returns
returns c = record { unmounts = done c }
