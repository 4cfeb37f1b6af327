use Rattle.replay_command.proofs.command.answer_prepared.Goals as goal

pub returns : goal.returns
returns g c = record {
  finishes = record {
    result = c.start.result;
    starts = c.start.ensures.starts;
    reads_nothing = c.start.ensures.reads_nothing;
    finishes = c.finish.ensures.finishes;
  };
}
