use Rattle.std.proofs.Common.{◌≡◌, ◌<◌, ◌∙◌, ℕ, Bool, true, false, length, get_or, refl, sym, ap}
use Rattle.std.specs.Prelude.{not}
use Rattle.std.proofs.lemmas.List.{get_or_default}
use Rattle.kern_mounts.specs.declared.step.Mount.{Mount}
use Rattle.kern_mounts.specs.Keeping.{lacks}
use Rattle.kern_mounts.specs.Mounts.{Mounts, stands_at}
use Rattle.kern_mounts.proofs.Mounts.{in_range}
use Rattle.kern_mounts.proofs.Changing.{Stands, remount_refused, remount_kept, remount_done}
use Rattle.kern_mounts.proofs.Places.{mounts_stay, mount_places_stay}
use Rattle.kern_mounts.proofs.Known.{knows_same}
use Rattle.kern_mounts.proofs.table.MountTable.remount.Goals as goal

was_false : (b : Bool) → true ≡ not b → b ≡ false
was_false true e = cc
was_false false e = refl

was_true : (b : Bool) → false ≡ not b → b ≡ true
was_true true e = refl
was_true false e = cc

-- one element, read twice
element : (items : Mounts) (at : ℕ) (x y : Mount) {mounts : Mounts} → at < length mounts → items ≡ mounts → x ≡ get_or items at x
    → y ≡ get_or items at y → x ≡ y
element items at x y lt view e f = e ∙ get_or_default items at x y (rw view lt) ∙ sym f

pub returns-then-ne : goal.returns-then-ne
returns-then-ne c =
    let stands : Stands c.args.self.now c.self.inside.mounts.items c.args.place.now c.resolve-at.result c.index.result.now =
    record { view = c.self.view_is; belongs = c.resolve-at.ensures.last_that_leads; entry_is = c.index.ensures } in
    record { remounts = (remount_refused _ _ c.args.place.now c.args.flags c.resolve-at.result c.index.result.now stands (was_false _ c.if-ne.ensures), refl) }

pub returns-then-lacks : goal.returns-then-lacks
returns-then-lacks c =
    let stands : Stands c.args.self.now c.self.inside.mounts.items c.args.place.now c.resolve-at.result c.index-2.result.now =
    record { view = c.self.view_is; belongs = c.resolve-at.ensures.last_that_leads; entry_is = c.index-2.ensures } in
    let own = was_true _ c.if-ne.ensures in
    let lt = in_range c.args.self.now c.args.place.now c.resolve-at.result c.resolve-at.ensures.last_that_leads in
    let same : c.index.result.now ≡ c.index-2.result.now = element c.self.inside.mounts.items c.resolve-at.result _ _ lt c.self.view_is c.index.ensures c.index-2.ensures in
    record { remounts = (remount_kept _ _ c.args.place.now c.args.flags c.resolve-at.result c.index-2.result.now stands (ap (stands_at c.args.place.now) (sym same) ∙ own) (sym c.if-lacks.ensures), refl) }

pub returns : goal.returns
returns c =
    let stands : Stands c.args.self.now c.self.inside.mounts.items c.args.place.now c.resolve-at.result c.index_mut.result.now =
    record { view = c.self.view_is; belongs = c.resolve-at.ensures.last_that_leads; entry_is = c.index_mut.ensures.value } in
    let own = was_true _ c.if-ne.ensures in
    let lt = in_range c.args.self.now c.args.place.now c.resolve-at.result c.resolve-at.ensures.last_that_leads in
    let same : c.index.result.now ≡ c.index_mut.result.now = element c.self.inside.mounts.items c.resolve-at.result _ _ lt c.self.view_is c.index.ensures c.index_mut.ensures.value in
    let again : c.index-2.result.now ≡ c.index_mut.result.now = element c.self.inside.mounts.items c.resolve-at.result _ _ lt c.self.view_is c.index-2.ensures c.index_mut.ensures.value in
    record {
      remounts = remount_done _ _ c.args.place.now c.args.flags c.resolve-at.result c.index_mut.result.now stands
          (ap (stands_at c.args.place.now) (sym same) ∙ own)
          (ap (λ (m : Mount). lacks m.kept c.args.flags) (sym again) ∙ sym c.if-lacks.ensures);
    }

pub invariant_of-self : goal.invariant_of-self
invariant_of-self c = (
  mounts_stay c.self.inside.mounts.items c.resolve-at.result c.index_mut.result.now _ c.self.invariant.0 c.index_mut.ensures.value refl,
  knows_same _ _ _ _ c.self.invariant.1
      (mount_places_stay c.self.inside.mounts.items c.resolve-at.result c.index_mut.result.now _ c.index_mut.ensures.value refl),
)
