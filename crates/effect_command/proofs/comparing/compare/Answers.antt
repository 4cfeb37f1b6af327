use Rattle.effect_command.proofs.comparing.compare.Goals as goal

pub compare_with-requires : goal.compare_with-requires
compare_with-requires c = record { together = rw c.in-Ok.is at c.requires.together }

pub returns-in-Ok : goal.returns-in-Ok
returns-in-Ok c = record {
  tells =
      rw c.in-Ok.is c.compare_with.ensures;
}

pub returns-in-Err : goal.returns-in-Err
returns-in-Err c = record {
  tells =
      rw c.in-Err.is (λ table site one other. c.tell_refused.ensures);
}
