use Rattle.std.proofs.Common.{refl}
use Rattle.std.proofs.lemmas.Option.{slice_get-get_or}
use Rattle.bpf_code.proofs.FirstFaults.{read_fine_at}
use Rattle.bpf_code.proofs.Paths.{not_true, marked_start, marked_more, marked_first, marked_none}
use Rattle.bpf_code.proofs.unstored.first_marked.Goals as goal

pub loop-at-init : goal.loop-at-init
loop-at-init c = rw (c.join.ensures, c.requires.unmarked) (marked_start c.args.insns.now)

pub loads-requires : goal.loads-requires
loads-requires c = (_, read_fine_at c.args.insns.now c.loop-at.at _ c.requires.fine c.loop-at-test.true)

pub returns-then-loads : goal.returns-then-loads
returns-then-loads c =
    marked_first c.args.insns.now c.loop-at.at _ c.loop-at.marks _ c.loop-at.invariant c.loop-at-test.true
    (slice_get-get_or c.args.insns.now c.loop-at.at _ c.loop-at-test.true)
    (read_fine_at c.args.insns.now c.loop-at.at _ c.requires.fine c.loop-at-test.true)
    (c.if-loads.ensures.0 refl)

pub left_unstored-requires : goal.left_unstored-requires
left_unstored-requires c = (_, read_fine_at c.args.insns.now c.loop-at.at _ c.requires.fine c.loop-at-test.true)

pub loop-at-preserved : goal.loop-at-preserved
loop-at-preserved c =
    rw (c.pass_on.ensures, c.left_unstored.ensures)
    (marked_more c.args.insns.now c.loop-at.at _ c.loop-at.marks _ c.loop-at.invariant c.loop-at-test.true
    (slice_get-get_or c.args.insns.now c.loop-at.at _ c.loop-at-test.true)
    (read_fine_at c.args.insns.now c.loop-at.at _ c.requires.fine c.loop-at-test.true)
    (λ h. not_true (c.if-loads.ensures.1 h)))

pub returns : goal.returns
returns c = marked_none c.args.insns.now c.loop-at.at c.loop-at.marks c.loop-at-test.false c.loop-at.invariant
