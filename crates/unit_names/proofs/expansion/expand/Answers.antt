use Rattle.unit_names.proofs.Answered.{gives_then, refuses_then}
use Rattle.unit_names.specs.Expansion.{expansion}
use Rattle.unit_names.proofs.expansion.expand.Goals as goal

pub returns-clause-expands_the_value : goal.returns-clause-expands_the_value
returns-clause-expands_the_value c = gives_then (expansion c.args.systemd c.args.name.now c.args.value.now) c.expanded.result c.expanded.ensures

pub returns-clause-refuses_the_value : goal.returns-clause-refuses_the_value
returns-clause-refuses_the_value c = refuses_then (expansion c.args.systemd c.args.name.now c.args.value.now) c.expanded.result c.expanded.ensures
