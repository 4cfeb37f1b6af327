use Rattle.std.proofs.Common.{arith, sym}
use Rattle.std.proofs.lemmas.Bool.{eqb-true}
use Rattle.bpf_code.specs.Reading.{not_whole, empty, too_long}
use Rattle.bpf_code.proofs.program.check_length.Goals as goal

pub returns-then-bytes-ne0 : goal.returns-then-bytes-ne0
returns-then-bytes-ne0 c = not_whole c.if-bytes-ne0.true

pub returns-then-is_empty : goal.returns-then-is_empty
returns-then-is_empty c = empty (eqb-true _ _ (sym c.if-is_empty.ensures))

pub returns-then-bytes-gt-BPF_MAXINSNS : goal.returns-then-bytes-gt-BPF_MAXINSNS
returns-then-bytes-gt-BPF_MAXINSNS c = too_long c.if-bytes-ne0.false (omega arith)
