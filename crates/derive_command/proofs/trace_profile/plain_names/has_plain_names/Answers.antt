use Rattle.std.proofs.Common.{arith}
use Rattle.derive_command.proofs.PlainTables.{all_are_plain, one_name_more}
use Rattle.derive_command.proofs.trace_profile.plain_names.has_plain_names.Goals as goal

pub loop-place-preserved : goal.loop-place-preserved
loop-place-preserved c =
    one_name_more c.args.calls.now c.loop-place.place c.loop-place.room c.in-Some.left c.name_at.result.now (omega arith)
    c.loop-place.invariant c.name_at.ensures.of_its_line c.in-Some.ensures

pub returns : goal.returns
returns c = record {
  only_a_plain_table = λ is. all_are_plain c.args.calls.now c.loop-place.place c.loop-place.room (omega arith) c.loop-place.invariant;
}
