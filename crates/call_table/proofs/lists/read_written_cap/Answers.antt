use Rattle.call_table.proofs.Checks.{cap_read, cap_unread}
use Rattle.call_table.proofs.lists.read_written_cap.Goals as goal

pub returns-in-Some-read_cap : goal.returns-in-Some-read_cap
returns-in-Some-read_cap c = cap_read c.args.word c.in-Some.word c.in-Some-read_cap.cap c.in-Some.is c.in-Some-read_cap.ensures.named c.in-Some-read_cap.ensures.in_range

pub returns-in-None-read_cap : goal.returns-in-None-read_cap
returns-in-None-read_cap c = cap_unread c.args.word c.in-Some.word c.in-Some.is c.in-None-read_cap.ensures.named
