use Rattle.std.proofs.Common.{refl}
use Rattle.tighten_command.specs.tightening.Searching.{tried_of}
use Rattle.tighten_command.specs.tightening.Wishes.{wishes_by}
use Rattle.tighten_command.proofs.Searched.{goes_with, some, stays_with, stays_without}
use Rattle.tighten_command.proofs.tightening.trial.Trial.found_with.Goals as goal

pub returns-then-has : goal.returns-then-has
returns-then-has g c =
    stays_with (tried_of c.args.self.now
    (wishes_by (λ wish. wish.must_open)
    (λ wish shown answer. (goal.Fn-dyn g).post (wish.test.vtable, wish.test.value) (shown, tt) answer) c.args.wishes.now)) c.args.held.now
    c.args.item c.deref.result.now c.has.result c.requires.holds c.deref.ensures.value c.has.ensures c.if-has.true

pub serves-requires-clause-some : goal.serves-requires-clause-some
serves-requires-clause-some g c =
    some (tried_of c.args.self.now
    (wishes_by (λ wish. wish.must_open)
    (λ wish shown answer. (goal.Fn-dyn g).post (wish.test.vtable, wish.test.value) (shown, tt) answer) c.args.wishes.now)) c.args.held.now
    c.args.item c.deref.result.now c.deref-2.result.now c.in_ok-wider.wider.items c.deref-3.result.now c.has.result
    c.requires.holds c.deref.ensures.value c.has.ensures c.deref-2.ensures.value c.in_ok-wider.ensures c.deref-3.ensures.value
    c.requires.from_1 c.requires.to_17

pub returns-in-Some : goal.returns-in-Some
returns-in-Some g c =
    goes_with (tried_of c.args.self.now
    (wishes_by (λ wish. wish.must_open)
    (λ wish shown answer. (goal.Fn-dyn g).post (wish.test.vtable, wish.test.value) (shown, tt) answer) c.args.wishes.now)) c.args.held.now
    c.args.item c.deref.result.now c.deref-2.result.now c.in_ok-wider.wider.items c.deref-3.result.now c.has.result
    c.requires.holds c.deref.ensures.value c.has.ensures c.deref-2.ensures.value c.in_ok-wider.ensures c.deref-3.ensures.value _ refl
    c.if-has.false (rw c.in-Some.is at c.in_ok-bounded.ensures.tells_whether_they_serve)

pub returns : goal.returns
returns g c =
    stays_without (tried_of c.args.self.now
    (wishes_by (λ wish. wish.must_open)
    (λ wish shown answer. (goal.Fn-dyn g).post (wish.test.vtable, wish.test.value) (shown, tt) answer) c.args.wishes.now)) c.args.held.now
    c.args.item c.deref.result.now c.deref-2.result.now c.in_ok-wider.wider.items c.deref-3.result.now c.has.result
    c.requires.holds c.deref.ensures.value c.has.ensures c.deref-2.ensures.value c.in_ok-wider.ensures c.deref-3.ensures.value
    (rw c.in-None.is at c.in_ok-bounded.ensures.tells_whether_they_serve)
