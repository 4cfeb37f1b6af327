use Rattle.std.proofs.Common.{◌≡◌, ◌∙◌, true, false, ap, sym, subst, arith}
use Rattle.seccomp_compile.specs.Decisions.{decision_of, looks, splits, both, is_end, LooksInside}
use Rattle.seccomp_compile.specs.Placed.{Placed}
use Rattle.seccomp_compile.proofs.Steps.{grows-le}
use Rattle.seccomp_compile.proofs.Places.{looks_placed, split_by_end, split_by_jump, both_placed, end_most}
use Rattle.seccomp_compile.proofs.emit.+place.Goals as goal

pub compare-requires-clause-miss : goal.compare-requires-clause-miss
compare-requires-clause-miss t c =
    let n = c.in_ok-miss_at-in-Split.ensures.placed in
    let y = c.in_ok-hit_at-in-Split.ensures.placed in
    let ending : is_end (decision_of c.deref-then-is_end-2.result.now) ≡ true =
    ap (λ tree. is_end (decision_of tree)) (c.deref-then-is_end-2.ensures ∙ sym c.deref-in-Split.ensures) ∙ sym c.is_end.ensures.ends ∙ c.if-is_end.true in
    let one = end_most (decision_of c.deref-then-is_end-2.result.now) ending in
    (omega (arith, n.inside, grows-le c.place-then-is_end.new.code.items c.place-then-is_end-2.new.code.items y.grows), omega (arith, n.near, y.short, one))

pub returns-then-is_end-clause-placed : goal.returns-then-is_end-clause-placed
returns-then-is_end-clause-placed t c =
    let n = c.in_ok-miss_at-in-Split.ensures.placed in
    let y = c.in_ok-hit_at-in-Split.ensures.placed in
    let miss = decision_of c.deref-then-is_end.result.now in
    let hit = decision_of c.deref-then-is_end-2.result.now in
    let ending : is_end hit ≡ true =
    ap (λ tree. is_end (decision_of tree)) (c.deref-then-is_end-2.ensures ∙ sym c.deref-in-Split.ensures) ∙ sym c.is_end.ensures.ends ∙ c.if-is_end.true in
    let whole : decision_of c.args.tree.now ≡ splits c.in-Split.comparison c.in-Split.number miss hit =
    ap decision_of c.in-Split.is
    ∙ ap (λ tree. splits c.in-Split.comparison c.in-Split.number (decision_of tree) (decision_of c.in-Split.hit.value))
    (sym c.deref-then-is_end.ensures)
    ∙ ap (λ tree. splits c.in-Split.comparison c.in-Split.number miss (decision_of tree)) (sym c.deref-then-is_end-2.ensures) in
    subst (λ decision. Placed decision c.args.code.now.items c.compare.new.code.items c.len-then-is_end.result) (sym whole)
    (split_by_end c.in-Split.comparison c.in-Split.number c.in_ok-miss_at-in-Split.miss_at c.in_ok-hit_at-in-Split.hit_at c.len-then-is_end.result miss hit
    c.args.code.now.items c.place-then-is_end.new.code.items c.place-then-is_end-2.new.code.items c.compare.new.code.items ending n y
    c.in_ok-compare-in-Split.ensures.adds (omega (arith, c.len-then-is_end.ensures, c.compare.new.code.ok.0)))

pub returns-in_ok-look-in-Look-clause-placed : goal.returns-in_ok-look-in-Look-clause-placed
returns-in_ok-look-in-Look-clause-placed t c =
    let next = decision_of c.deref.result.now in
    let whole : decision_of c.args.tree.now ≡ looks c.in-Look.offset c.in-Look.mask next =
    ap decision_of c.in-Look.is ∙ ap (λ tree. looks c.in-Look.offset c.in-Look.mask (decision_of tree)) (sym c.deref.ensures) in
    let inside = subst LooksInside whole c.requires.looks in
    subst (λ decision. Placed decision c.args.code.now.items c.look.new.code.items c.len.result) (sym whole)
    (looks_placed c.in-Look.offset c.in-Look.mask c.in_ok-next_at-in-Look.next_at c.in_ok-within-in-Look.field-0 c.len.result next
    c.args.code.now.items c.place.new.code.items c.within.new.code.items c.look.new.code.items inside.0 inside.1
    c.in_ok-next_at-in-Look.ensures.placed c.in_ok-within-in-Look.ensures.reached c.in_ok-look-in-Look.ensures.adds (omega (arith, c.len.ensures, c.look.new.code.ok.0)))

pub returns-in_ok-compare-in-Split-2-clause-placed : goal.returns-in_ok-compare-in-Split-2-clause-placed
returns-in_ok-compare-in-Split-2-clause-placed t c =
    let y = c.in_ok-far_at-in-Split.ensures.placed in
    let n = c.in_ok-miss_at-in-Split-2.ensures.placed in
    let r = c.in_ok-hit_at-in-Split-2.ensures.reached in
    let hit = decision_of c.deref-in-Split-2.result.now in
    let miss = decision_of c.deref-in-Split-3.result.now in
    let tree : is_end hit ≡ false =
    ap (λ tree. is_end (decision_of tree)) (c.deref-in-Split-2.ensures ∙ sym c.deref-in-Split.ensures) ∙ sym c.is_end.ensures.ends ∙ c.if-is_end.false in
    let whole : decision_of c.args.tree.now ≡ splits c.in-Split.comparison c.in-Split.number miss hit =
    ap decision_of c.in-Split.is
    ∙ ap (λ tree. splits c.in-Split.comparison c.in-Split.number (decision_of tree) (decision_of c.in-Split.hit.value)) (sym c.deref-in-Split-3.ensures)
    ∙ ap (λ tree. splits c.in-Split.comparison c.in-Split.number miss (decision_of tree)) (sym c.deref-in-Split-2.ensures) in
    subst (λ decision. Placed decision c.args.code.now.items c.compare-in-Split.new.code.items c.len-in-Split.result) (sym whole)
    (split_by_jump c.in-Split.comparison c.in-Split.number c.in_ok-far_at-in-Split.far_at c.in_ok-miss_at-in-Split-2.miss_at c.in_ok-hit_at-in-Split-2.hit_at c.len-in-Split.result miss hit
    c.args.code.now.items c.place-in-Split.new.code.items c.place-in-Split-2.new.code.items c.within-in-Split.new.code.items c.compare-in-Split.new.code.items tree y n r
    c.in_ok-compare-in-Split-2.ensures.adds (omega (arith, c.len-in-Split.ensures, c.compare-in-Split.new.code.ok.0)))

pub returns-in_ok-test-in-Both-2-clause-placed : goal.returns-in_ok-test-in-Both-2-clause-placed
returns-in_ok-test-in-Both-2-clause-placed t c =
    let otherwise = decision_of c.deref-in-Both.result.now in
    let whole : decision_of c.args.tree.now ≡ both c.in-Both.first c.in-Both.second c.in-Both.action otherwise =
    ap decision_of c.in-Both.is ∙ ap (λ tree. both c.in-Both.first c.in-Both.second c.in-Both.action (decision_of tree)) (sym c.deref-in-Both.ensures) in
    let inside = subst LooksInside whole c.requires.looks in
    subst (λ decision. Placed decision c.args.code.now.items c.test-in-Both.new.code.items c.len-in-Both.result) (sym whole)
    (both_placed c.in-Both.first c.in-Both.second c.in-Both.action c.in_ok-miss_at-in-Both.miss_at c.in_ok-hit_at-in-Both.hit_at c.len-second_at.result c.len-in-Both.result otherwise
    c.args.code.now.items c.place-in-Both.new.code.items c.place_end-in-Both.new.code.items c.test.new.code.items c.test-in-Both.new.code.items inside.0 inside.1
    c.in_ok-miss_at-in-Both.ensures.placed c.in_ok-hit_at-in-Both.ensures.placed
    c.in_ok-test-in-Both.ensures.adds (omega (arith, c.len-second_at.ensures, c.test.new.code.ok.0))
    c.in_ok-test-in-Both-2.ensures.adds (omega (arith, c.len-in-Both.ensures, c.test-in-Both.new.code.ok.0)))
