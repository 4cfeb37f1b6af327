use Rattle.effect_command.proofs.comparing.compare_with.Goals as goal

pub compare_services-requires : goal.compare_services-requires
compare_services-requires c =
    let both = rw c.in-Ok.is at c.requires.together in
    record { together = record { table = both.table; site = both.site; first = both.starts; second = both.starts_with } }

pub returns-in-Ok : goal.returns-in-Ok
returns-in-Ok c = rw c.in-Ok.is c.compare_services.ensures

pub returns-in-Err : goal.returns-in-Err
returns-in-Err c = rw c.in-Err.is (λ table site one other. c.tell_refused_with.ensures)
