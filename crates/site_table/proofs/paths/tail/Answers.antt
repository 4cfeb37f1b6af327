use Rattle.std.proofs.Common.{sym, ◌∙◌}
use Rattle.site_table.proofs.Folders.{normal_root}
use Rattle.site_table.proofs.paths.tail.Goals as goal

pub returns-then-tail_len-eq0-clause-normal : goal.returns-then-tail_len-eq0-clause-normal
returns-then-tail_len-eq0-clause-normal c = normal_root c.args.path.now (sym c.tail_len.ensures.length ∙ c.if-tail_len-eq0.true)
