use Rattle.std.proofs.Common.{rules}
use Rattle.tighten_command.specs.tightening.Searching.{tried_of}
use Rattle.tighten_command.specs.tightening.Wishes.{wishes_by}
use Rattle.tighten_command.proofs.Served.{all_asked, pleases_all, pleases_wishless, refuses_at}
use Rattle.tighten_command.proofs.tightening.trial.Trial.lack_of_wishes.Goals as goal

pub verdict_rows-requires : goal.verdict_rows-requires
verdict_rows-requires g c = record {
  bounded = c.requires.over_the_tables.is_bounded;
  all = all_asked (tried_of c.args.self.now
      (wishes_by (λ wish. wish.must_open)
      (λ wish shown answer. (goal.Fn-dyn g).post (wish.test.vtable, wish.test.value) (shown, tt) answer) c.args.wishes.now))
      c.args.bounded.now c.args.self.now.questions.now c.requires.over_the_tables c.requires.can_be_tried.all;
}

pub returns-in-Some : goal.returns-in-Some
returns-in-Some g c =
    refuses_at (tried_of c.args.self.now
    (wishes_by (λ wish. wish.must_open)
    (λ wish shown answer. (goal.Fn-dyn g).post (wish.test.vtable, wish.test.value) (shown, tt) answer) c.args.wishes.now))
    c.args.bounded.now.service.world c.in_ok-rows.rows.items c.deref.result.now c.in-Some.number c.requires.keeps
    c.in_ok-rows.ensures.one_each_and_so c.deref.ensures.value c.in-Some.ensures.first_that_answers_false

pub returns : goal.returns
returns g c =
    pleases_all (tried_of c.args.self.now
    (wishes_by (λ wish. wish.must_open)
    (λ wish shown answer. (goal.Fn-dyn g).post (wish.test.vtable, wish.test.value) (shown, tt) answer) c.args.wishes.now))
    c.args.bounded.now.service.world c.in_ok-rows.rows.items c.deref.result.now c.requires.keeps c.in_ok-rows.ensures.one_each_and_so
    c.deref.ensures.value c.in-None.ensures.all_are_granted

pub returns-then-is_empty : goal.returns-then-is_empty
returns-then-is_empty g c =
    pleases_wishless (tried_of c.args.self.now
    (wishes_by (λ wish. wish.must_open)
    (λ wish shown answer. (goal.Fn-dyn g).post (wish.test.vtable, wish.test.value) (shown, tt) answer) c.args.wishes.now))
    c.openness.ensures.each_listed c.args.bounded.now c.args.self.now.questions.now c.requires.over_the_tables
    c.requires.can_be_tried.all c.requires.keeps (search rules)
