use Rattle.std.proofs.Common.{sym, arith, ◌∙◌}
use Rattle.abs_path.proofs.Plain.{plain_clean, plain_level, plain_whole}
use Rattle.abs_path.proofs.Reading.{no_fault, read_is, read_parts}
use Rattle.abs_path.proofs.path.AbsPath.read.Goals as goal

pub invariant_of-result : goal.invariant_of-result
invariant_of-result c =
    let text = c.args.text.now in
    let rooted = sym c.is_rooted.ensures ∙ c.if-is_rooted.true in
    let plain = sym c.is_plain.ensures ∙ c.if-is_plain.true in
    read_is text c.in_ok-tail.tail (omega arith) (plain_clean _ text plain) rooted (plain_level text rooted plain)
    (c.in_ok-tail.ensures ∙ plain_whole text rooted plain)

pub returns-then-is_plain : goal.returns-then-is_plain
returns-then-is_plain c =
    let text = c.args.text.now in
    let rooted = sym c.is_rooted.ensures ∙ c.if-is_rooted.true in
    let plain = sym c.is_plain.ensures ∙ c.if-is_plain.true in
    record {
      reads_or_first_fault = (
        no_fault text (omega arith) (plain_clean _ text plain) rooted (plain_level text rooted plain),
        read_parts text c.in_ok-tail.tail (plain_clean _ text plain) (plain_level text rooted plain)
            (c.in_ok-tail.ensures ∙ plain_whole text rooted plain),
      );
    }
