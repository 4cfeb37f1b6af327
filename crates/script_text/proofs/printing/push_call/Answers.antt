use Rattle.std.proofs.lemmas.Result.{on_ok_weaker}
use Rattle.script_text.proofs.Joined.{whole_text}
use Rattle.script_text.proofs.printing.push_call.Goals as goal

pub returns : goal.returns
returns c = record {
  tells_the_call =
      on_ok_weaker c.push_numbers.result
      (whole_text c.args.calls.now c.args.call.now c.from.result c.args.out.now.items c.push_u64.new.out.items c.push_named.new.out.items
      c.push_numbers.new.out.items c.without_last_zeros.result.now
      c.from.ensures c.in_ok-push_u64.ensures.appends_decimal c.in_ok-push_named.ensures c.without_last_zeros.ensures)
      c.push_numbers.ensures;
}
