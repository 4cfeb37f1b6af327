-- A comparison by bits compares a masked word with 0.
use Rattle.std.proofs.Common.{◌≡◌, ℕ, Bool, true, false, not, refl, sym, ap, ◌∙◌, arith, cond}
use Rattle.std.specs.Prelude.{bit_and, ◌==◌, nat_lt, nat_le, if◌then◌else◌}
use Rattle.std.proofs.lemmas.Bool.{le-ltb, ne_eqb}
use Rattle.std.proofs.lemmas.Nat.{and_assoc}
use Rattle.seccomp_compile.specs.bpf_code.declared.machine.Insn.{Insn}
use Rattle.filter_check.specs.filter_paths.Comparing.{compares}
use Rattle.filter_check.proofs.filter_paths.comparing.condition_of.Goals as goal

not_by : (t : Bool) → (if t then false else true) ≡ not t
not_by true = refl
not_by false = refl

above_zero : (n : ℕ) → (if nat_lt n 0 then false else (if n == 0 then false else true)) ≡ not (n == 0)
above_zero n = ap (λ t. if t then false else (if n == 0 then false else true)) (le-ltb n 0 (omega arith)) ∙ not_by (n == 0)

by_set : (insn : Insn) (a : ℕ) → (insn.code ≡ 21 → ⊥) → (insn.code ≡ 37 → ⊥) → (insn.code ≡ 53 → ⊥)
    → compares insn a ≡ not (bit_and a insn.k == 0)
by_set insn a x y z =
    ap (λ t. cond t (a == insn.k)
    (cond (insn.code == 37) (nat_lt insn.k a) (cond (insn.code == 53) (nat_le insn.k a) (not (bit_and a insn.k == 0)))))
    (ne_eqb insn.code 21 x)
    ∙ ap (λ t. cond t (nat_lt insn.k a) (cond (insn.code == 53) (nat_le insn.k a) (not (bit_and a insn.k == 0)))) (ne_eqb insn.code 37 y)
    ∙ ap (λ t. cond t (nat_le insn.k a) (not (bit_and a insn.k == 0))) (ne_eqb insn.code 53 z)

pub returns : goal.returns
returns c = record {
  by_the_masked_word = λ word. above_zero (bit_and word (bit_and c.args.mask c.args.insn.k))
      ∙ ap (λ n. not (n == 0)) (sym (and_assoc c.args.insn.k word c.args.mask))
      ∙ sym (by_set c.args.insn (bit_and word c.args.mask) c.if-insn-eq-JMP_JEQ_K.false c.if-insn-eq-JMP_JGT_K.false
      c.if-insn-eq-JMP_JGE_K.false);
}
