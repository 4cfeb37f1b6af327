use Rattle.why_command.proofs.opening_lines.judged.Judged.alone_of.Goals as goal

pub opens-requires-clause-starts : goal.opens-requires-clause-starts
opens-requires-clause-starts c = rw c.in-Launched.is at c.in_ok-service.ensures.starts

pub returns : goal.returns
returns c = record { is_so = (c.in-Refused.field-0.items, rw c.in-Refused.is at c.in_ok-service.ensures.starts) }
