use Rattle.std.proofs.Common.{◌∙◌}
use Rattle.std.proofs.lemmas.Result.{err_from_is_err_and}
use Rattle.unit_names.proofs.Taken.{part_refused, part_taken}
use Rattle.unit_names.proofs.unescape.push_unescaped.Goals as goal

pub returns-in_err-byte : goal.returns-in_err-byte
returns-in_err-byte c =
    let p = err_from_is_err_and c.from_residual.result c.from_residual.ensures.1 in
    record {
      adds_its_meaning =
          rw (p.1, p.2)
          (part_refused c.args.bytes.now.items c.loop-byte.bytes.items c.loop-byte.bytes.items c.args.text.now c.loop-byte.rest.now
          c.in_err-byte.field-0.0 c.loop-byte.invariant c.in_err-byte.ensures);
    }

pub loop-byte-preserved : goal.loop-byte-preserved
loop-byte-preserved c =
    part_taken c.loop-byte.bytes.items c.extend_from_slice.new.self.items c.loop-byte.rest.now c.in_ok-byte.field-0 c.in-Some.byte
    c.in-Some.behind c.in_ok-byte.ensures c.in-Some.is c.in_ok-extend_from_slice.ensures.items
    ∙ c.loop-byte.invariant
