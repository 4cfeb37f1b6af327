use Rattle.tighten_command.specs.tightening.Searching.{tried_of}
use Rattle.tighten_command.specs.tightening.Wishes.{wishes_by}
use Rattle.tighten_command.proofs.Served.{all_listed}
use Rattle.tighten_command.proofs.tightening.trial.Trial.lack.Goals as goal

pub first_denied-requires : goal.first_denied-requires
first_denied-requires g c = record {
  bounded = c.requires.over_the_tables.is_bounded;
  listed = all_listed (tried_of c.args.self.now
      (wishes_by (λ wish. wish.must_open)
      (λ wish shown answer. (goal.Fn-dyn g).post (wish.test.vtable, wish.test.value) (shown, tt) answer) c.args.wishes.now))
      c.args.bounded.now c.args.self.now.keep.now c.requires.over_the_tables c.requires.can_be_tried.listed;
}
