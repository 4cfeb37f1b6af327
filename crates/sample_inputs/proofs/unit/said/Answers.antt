use Rattle.std.proofs.Common.{◌≡◌, Ok, ap, ◌∙◌}
use Rattle.launcher.specs.unit_grammar.Reading.{unit_of}
use Rattle.sample_inputs.specs.Unit.{unit_said}
use Rattle.sample_inputs.proofs.Refusals.{memory_of_unit}
use Rattle.sample_inputs.proofs.UnitRead.{unit_reads}
use Rattle.sample_inputs.proofs.unit.said.Goals as goal

pub of_memory-requires : goal.of_memory-requires
of_memory-requires c =
    memory_of_unit (unit_of c.as_bytes.result.now) (unit_said c.args.n) c.in-Err.error
    (ap unit_of (c.as_bytes.ensures.value ∙ c.in_ok-text.ensures) ∙ unit_reads c.args.n) c.in-Err.ensures.first_fault

pub returns-in-Ok : goal.returns-in-Ok
returns-in-Ok c =
    let read : unit_of c.as_bytes.result.now ≡ Ok (unit_said c.args.n) = ap unit_of (c.as_bytes.ensures.value ∙ c.in_ok-text.ensures) ∙ unit_reads c.args.n in
    let found : unit_of c.as_bytes.result.now ≡ Ok c.in-Ok.said = c.in-Ok.ensures.reads_the_unit in
    cc
