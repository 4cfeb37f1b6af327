use Rattle.site_table.proofs.Folders.{before_last, no_slash}
use Rattle.site_table.proofs.paths.parent.Goals as goal

pub returns-in-Some : goal.returns-in-Some
returns-in-Some c = record {
  parent = before_last c.args.path.now c.tail.result.now c.in-Some.front c.in-Some.field-0-1 c.tail.ensures.normal c.tail.ensures.tail
      c.in-Some.ensures.cases;
}

pub returns-in-None : goal.returns-in-None
returns-in-None c = record { parent = no_slash c.args.path.now c.tail.result.now c.tail.ensures.tail c.in-None.ensures.cases }
