use Rattle.std.proofs.Common.{◌+◌, ◌/◌, length, get_or, sym, subst, ap, ◌∙◌, arith}
use Rattle.std.proofs.Math.ListN.{length-set}
use Rattle.std.proofs.lemmas.Option.{slice_get-get_or, slice_get_within}
use Rattle.seccomp_compile.specs.bpf_code.declared.machine.Insn.{Insn}
use Rattle.filter_check.proofs.Alike.{load_fits, AreMarked, marked_more, marked_none}
use Rattle.filter_check.proofs.loads.loaded_words.Goals as goal
use Rattle.filter_check.proofs.loads.loaded_words.Goals.{then-insn-eq-LD_W_ABS, else-insn-eq-LD_W_ABS}

pub bounds-marks-insn : goal.bounds-marks-insn
bounds-marks-insn c = load_fits c.args.insns.now c.loop-insn.insn-index _ c.requires.program
    (slice_get-get_or c.args.insns.now c.loop-insn.insn-index _ c.loop-insn-test.true) c.if-insn-eq-LD_W_ABS.true

pub loop-insn-preserved : goal.loop-insn-preserved
loop-insn-preserved c =
    let code = c.args.insns.now in
    let at = c.loop-insn.insn-index in
    let here : Insn = get_or code at record { code = 0; jt = 0; jf = 0; k = 0 } in
    let found = slice_get-get_or code at (record { code = 0; jt = 0; jf = 0; k = 0 }) c.loop-insn-test.true in
    elim c.if-insn-eq-LD_W_ABS.branch [
      | then-insn-eq-LD_W_ABS w ↦
          let fits = load_fits code at here c.requires.program found w.if-insn-eq-LD_W_ABS.true in
          record {
            sixteen = ap length w.marks-is ∙ length-set c.loop-insn.marks (here.k / 4) _ ∙ c.loop-insn.invariant.sixteen;
            marked = subst (AreMarked code (at + 1)) (sym w.marks-is)
                (marked_more code at here c.loop-insn.marks (omega (arith, fits, c.loop-insn.invariant.sixteen)) found c.loop-insn.invariant.marked);
          }
      | else-insn-eq-LD_W_ABS w ↦ record {
        sixteen = ap length w.marks-is ∙ c.loop-insn.invariant.sixteen;
        marked = subst (AreMarked code (at + 1)) (sym w.marks-is)
            (marked_none code at here c.loop-insn.marks w.if-insn-eq-LD_W_ABS.false found c.loop-insn.invariant.marked);
      }
    ]

pub returns : goal.returns
returns c = record {
  marks_them = λ at insn found load.
      let lt = slice_get_within c.args.insns.now at insn found in
      c.loop-insn.invariant.marked at insn (omega (arith, lt, c.loop-insn-test.false)) found load;
}
