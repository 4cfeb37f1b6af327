-- The functions by which proofs compute agree with the relations.
use Rattle.std.proofs.Common.{◌≡◌, ℕ, ◌%◌, Bool, true, false, cond, List, [], ◌∷◌, length, Some, None, refl, sym, ap, ◌∙◌, subst, arith}
use Rattle.std.proofs.Common.{inl, inr}
use Rattle.std.specs.Prelude.{◌==◌, ◌&&◌, ◌≤ℤ◌, ◌<ℤ◌, ℤ, slice_get}
use Rattle.std.specs.List.{AllByRecursion}
use Rattle.std.proofs.lemmas.Bool.{cases_lt, eqb-true, and_parts}
use Rattle.std.proofs.lemmas.Int.{ints}
use Rattle.bpf_code.specs.declared.machine.Insn.{Insn}
use Rattle.bpf_code.specs.declared.machine.CallData.{CallData}
use Rattle.bpf_code.specs.declared.decision.Decision.{Decision}
use Rattle.bpf_code.specs.Accepted.{IsAccepted}
use Rattle.bpf_code.specs.Meaning.{Answers}
use Rattle.bpf_code.specs.Reading.{insns_of, Accepts}
use Rattle.bpf_code.specs.ProgramOf.{is_accepted}
use Rattle.bpf_code.specs.Stack.{answer_of, answers_of, deciding, stronger_of, decision_of, decision_by, IsDeciding, AnswerEach, DecidedBy}
use Rattle.bpf_code.specs.Stack.{Decides}
use Rattle.bpf_code.specs.Tied.{AcceptsByFunction, DecidesByFunction}
use Rattle.bpf_code.proofs.Computed.{accepted_of, program_of-accepts}
use Rattle.bpf_code.proofs.Runs.{accepted_answers}
use Rattle.bpf_code.proofs.Stacks.{answer_is, decides, computed_decides, some_same}

-- programs

same_program : (a b : List Insn) → Some a ≡ Some b → b ≡ a
same_program a b e = cc

accepts_by : (bytes : List ℕ) (program : List Insn) (b : Bool) → (length bytes % 8 == 0 && is_accepted (insns_of bytes)) ≡ b
    → cond b (Some (insns_of bytes)) None ≡ Some program → Accepts bytes program
accepts_by bytes program false e h = cc
accepts_by bytes program true e h =
    let parts = and_parts (length bytes % 8 == 0) (is_accepted (insns_of bytes)) e in
    let same : program ≡ insns_of bytes = same_program (insns_of bytes) program h in
    record { whole = eqb-true (length bytes % 8) 0 parts.0; insns = same; accepted = subst IsAccepted (sym same) (accepted_of (insns_of bytes) parts.1) }

pub accepted_by_function : AcceptsByFunction
accepted_by_function bytes program =
    (accepts_by bytes program (length bytes % 8 == 0 && is_accepted (insns_of bytes)) refl, program_of-accepts bytes program)

-- decisions

each_answers : (programs : List (List Insn)) (input : CallData) → AllByRecursion IsAccepted programs
    → AnswerEach programs input (answers_of programs input)
each_answers [] input h = tt
each_answers (code ∷ programs) input h =
    let answer = accepted_answers code input h.0 in
    (subst (Answers code input) (sym (answer_is code input answer.0 answer.1)) answer.1, each_answers programs input h.1)

same_answers : (programs : List (List Insn)) (input : CallData) (answers : List ℕ) → AnswerEach programs input answers
    → answers ≡ answers_of programs input
same_answers [] input [] h = refl
same_answers [] input (answer ∷ answers) h = absurd h
same_answers (code ∷ programs) input [] h = absurd h
same_answers (code ∷ programs) input (answer ∷ answers) h =
    ap (λ first. first ∷ answers) (sym (answer_is code input answer h.0))
    ∙ ap (λ rest. answer_of code input ∷ rest) (same_answers programs input answers h.1)

not_both : (a b : ℤ) → a <ℤ b → b ≤ℤ a → ⊥
not_both a b h k = absurd (omega (arith, ints))

one_deciding : (answers : List ℕ) (a b : ℕ) → IsDeciding answers a → IsDeciding answers b → a ≡ b
one_deciding answers a b h k =
    elim (cases_lt h.place k.place) [
      | inl lt ↦ absurd (not_both _ _ (h.newest k.place b lt k.found) (k.least h.place a h.found))
      | inr le ↦ elim (cases_lt k.place h.place) [
        | inl lt ↦ absurd (not_both _ _ (k.newest h.place a lt h.found) (h.least k.place b k.found))
        | inr ge ↦ (let same : h.place ≡ k.place = omega arith in some_same a b (sym h.found ∙ ap (slice_get answers) same ∙ k.found))
      ]
    ]

decided_once : (answers : List ℕ) (decision : Decision) → DecidedBy answers decision → decision_by (deciding answers) ≡ decision
decided_once [] decision h = sym h
decided_once (oldest ∷ answers) decision h =
    ap decision_of (one_deciding (oldest ∷ answers) (stronger_of oldest (deciding answers)) h.0 (decides (oldest ∷ answers) _ refl) h.1)
    ∙ sym h.2

pub decided_by_function : DecidesByFunction
decided_by_function programs input decision accepted = (
  λ e. subst (Decides programs input) e (computed_decides programs input (each_answers programs input accepted)),
  λ h. decided_once (answers_of programs input) decision
      (subst (λ answers. DecidedBy answers decision) (same_answers programs input h.answers h.given) h.decided),
)
