use Rattle.std.proofs.Common.{◌≡◌, Ok, ap, ◌∙◌}
use Rattle.launcher.specs.call_table.Reading.{table_of}
use Rattle.sample_inputs.specs.CallTable.{sample_table}
use Rattle.sample_inputs.proofs.CallsRead.{calls_read}
use Rattle.sample_inputs.proofs.Refusals.{memory_of_calls}
use Rattle.sample_inputs.proofs.calls.sample_calls.Goals as goal

pub of_memory-requires : goal.of_memory-requires
of_memory-requires c =
    memory_of_calls (table_of c.as_bytes.result.now) sample_table c.in-Err.error
    (ap table_of (c.as_bytes.ensures.value ∙ c.calls_text.ensures) ∙ calls_read) c.in-Err.ensures.first_refusal

pub returns-in_ok-new-in-Ok : goal.returns-in_ok-new-in-Ok
returns-in_ok-new-in-Ok c =
    let read : table_of c.as_bytes.result.now ≡ Ok sample_table = ap table_of (c.as_bytes.ensures.value ∙ c.calls_text.ensures) ∙ calls_read in
    let found : table_of c.as_bytes.result.now ≡ Ok c.in-Ok.calls = c.in-Ok.ensures.reads_the_table in
    let same : c.in-Ok.calls ≡ sample_table = cc in
    record { table = c.in_ok-new-in-Ok.ensures.ok ∙ same }
