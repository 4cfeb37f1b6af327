-- The reader has only one answer for some bytes.
use Rattle.std.proofs.Common.{◌≡◌, ℕ, ◌+◌, ◌-◌, ◌*◌, ◌/◌, ◌%◌, ◌<◌, ◌≤◌, true, false, List, [], ◌∷◌, length, Some, None, Ok, Err, refl, sym}
use Rattle.std.proofs.Common.{ap, ◌∙◌, subst, arith, inl, inr}
use Rattle.std.specs.Prelude.{◌⊎◌, slice_get, Option, Result, IfErr, IsErrAnd, MatchOption, MatchResult}
use Rattle.std.proofs.lemmas.Bool.{cases_lt}
use Rattle.std.proofs.lemmas.Option.{slice_get_within}
use Rattle.bpf_code.specs.declared.machine.Insn.{Insn}
use Rattle.bpf_code.specs.declared.program.Fault.{Fault}
use Rattle.bpf_code.specs.declared.program.ProgramError.{ProgramError}
use Rattle.bpf_code.specs.declared.program.ProgramError.TheVariants as error
use Rattle.bpf_code.specs.Accepted.{AreFine, fault_of, IsFirstFault, ends_in_return, NoUnstored, IsFirstUnstored, IsAccepted}
use Rattle.bpf_code.specs.Reading.{insns_of, IsCode, Accepts, refusal_of, RefusesCode, Refuses, faulty, no_return, unstored, not_whole}
use Rattle.bpf_code.specs.Reading.{empty, too_long, for_code}
use Rattle.bpf_code.specs.ProgramOf.{program_of}
use Rattle.bpf_code.proofs.Computed.{program_of-none}
use Rattle.bpf_code.proofs.Chunks.{length-insns_of}
use Rattle.bpf_code.proofs.FirstFaults.{same_some, fine_at}

-- two places are equal if neither precedes the other
first_place : (a b : ℕ) → (a < b → ⊥) → (b < a → ⊥) → a ≡ b
first_place a b h k =
    elim (cases_lt a b) [
      | inl lt ↦ absurd (h lt)
      | inr le ↦ elim (cases_lt b a) [ inl lt ↦ absurd (k lt) | inr ge ↦ (let same : a ≡ b = omega arith in same) ]
    ]

clash : (a : Fault) → None ≡ Some a → ⊥
clash a e = cc

same_fault : (a b : Fault) → Some a ≡ Some b → a ≡ b
same_fault a b e = cc

not_later : (code : List Insn) (at later : ℕ) (fault other : Fault) → IsFirstFault code at fault → IsFirstFault code later other
    → at < later → ⊥
not_later code at later fault other h k lt = clash fault (sym (k.fine_before at h.insn lt h.found) ∙ h.faulty)

one_fault : (code : List Insn) (at place : ℕ) (fault other : Fault) → IsFirstFault code at fault → IsFirstFault code place other
    → refusal_of fault at ≡ refusal_of other place
one_fault code at place fault other h k =
    let same : at ≡ place = first_place at place (not_later code at place fault other h k) (not_later code place at other fault k h) in
    let insn : h.insn ≡ k.insn = same_some h.insn k.insn (sym h.found ∙ ap (slice_get code) same ∙ k.found) in
    let one : fault ≡ other = same_fault fault other (sym h.faulty ∙ ap (λ i. fault_of h.insn (length code - (i + 1))) same ∙ ap (λ x. fault_of x (length code - (place + 1))) insn ∙ k.faulty) in
    ap (refusal_of fault) same ∙ ap (λ f. refusal_of f place) one

no_fault : (code : List Insn) (at : ℕ) (fault : Fault) → AreFine code → IsFirstFault code at fault → ⊥
no_fault code at fault fine h = clash fault (sym (fine_at code at h.insn fine h.found) ∙ h.faulty)

one_unstored : (code : List Insn) (at place : ℕ) → IsFirstUnstored code at → IsFirstUnstored code place → at ≡ place
one_unstored code at place h k = first_place at place (λ lt. k.none_before at lt h.unstored) (λ lt. h.none_before place lt k.unstored)

true_false : false ≡ true → ⊥
true_false e = cc

code_refused_once : (code : List Insn) (a b : ProgramError) → RefusesCode code a → RefusesCode code b → a ≡ b
code_refused_once code _ _ (faulty at fault h) (faulty place other k) = one_fault code at place fault other h k
code_refused_once code _ _ (faulty at fault h) (no_return fine e) = absurd (no_fault code at fault fine h)
code_refused_once code _ _ (faulty at fault h) (unstored place fine e k) = absurd (no_fault code at fault fine h)
code_refused_once code _ _ (no_return fine e) (faulty place other k) = absurd (no_fault code place other fine k)
code_refused_once code _ _ (no_return fine e) (no_return fine' e') = refl
code_refused_once code _ _ (no_return fine e) (unstored place fine' e' k) = absurd (true_false (sym e ∙ e'))
code_refused_once code _ _ (unstored at fine e h) (faulty place other k) = absurd (no_fault code place other fine k)
code_refused_once code _ _ (unstored at fine e h) (no_return fine' e') = absurd (true_false (sym e' ∙ e))
code_refused_once code _ _ (unstored at fine e h) (unstored place fine' e' k) = ap error.Unstored (one_unstored code at place h k)

code_refused : (code : List Insn) (e : ProgramError) → IsAccepted code → RefusesCode code e → ⊥
code_refused code _ a (faulty at fault h) = no_fault code at fault a.fine h
code_refused code _ a (no_return fine e) = true_false (sym e ∙ a.ends)
code_refused code _ a (unstored at fine e h) = let l = h.unstored in a.stored at l.insn l.found l.loads l.reached

empty_is_whole : (n : ℕ) → n ≡ 0 → n % 8 ≡ 0
empty_is_whole n e = ap (λ m. m % 8) e

-- the bytes have only one refusal
refused_once : (bytes : List ℕ) (a b : ProgramError) → Refuses bytes a → Refuses bytes b → a ≡ b
refused_once bytes _ _ (not_whole h) (not_whole k) = refl
refused_once bytes _ _ (not_whole h) (empty k) = absurd (h (empty_is_whole (length bytes) k))
refused_once bytes _ _ (not_whole h) (too_long k l) = absurd (h k)
refused_once bytes _ b (not_whole h) (for_code _ k l) = absurd (h k.whole)
refused_once bytes _ _ (empty h) (not_whole k) = absurd (k (empty_is_whole (length bytes) h))
refused_once bytes _ _ (empty h) (empty k) = refl
refused_once bytes _ _ (empty h) (too_long k l) = absurd (omega arith)
refused_once bytes _ b (empty h) (for_code _ k l) = absurd (omega (arith, k.some))
refused_once bytes _ _ (too_long h i) (not_whole k) = absurd (k h)
refused_once bytes _ _ (too_long h i) (empty k) = absurd (omega arith)
refused_once bytes _ _ (too_long h i) (too_long k l) = refl
refused_once bytes _ b (too_long h i) (for_code _ k l) = absurd (omega (arith, k.short))
refused_once bytes a _ (for_code _ h i) (not_whole k) = absurd (k h.whole)
refused_once bytes a _ (for_code _ h i) (empty k) = absurd (omega (arith, h.some))
refused_once bytes a _ (for_code _ h i) (too_long k l) = absurd (omega (arith, h.short))
refused_once bytes a b (for_code _ h i) (for_code _ k l) = code_refused_once (insns_of bytes) a b i l

some_instruction : (code : List Insn) → ends_in_return code ≡ true → 0 < length code
some_instruction [] e = cc
some_instruction (insn ∷ code) e = omega arith

-- bytes that are a program are not refused
pub accepted_unrefused : (bytes : List ℕ) (program : List Insn) (e : ProgramError) → Accepts bytes program → Refuses bytes e → ⊥
accepted_unrefused bytes program _ a (not_whole h) = h a.whole
accepted_unrefused bytes program _ a (empty h) =
    let some : 0 < length program = some_instruction program a.accepted.ends in
    let many : length program ≡ length bytes / 8 = ap length a.insns ∙ length-insns_of bytes in
    absurd (omega arith)
accepted_unrefused bytes program _ a (too_long h i) =
    let few : length program ≤ 4096 = a.accepted.short in
    let many : length program ≡ length bytes / 8 = ap length a.insns ∙ length-insns_of bytes in
    absurd (omega arith)
accepted_unrefused bytes program e a (for_code _ h i) = code_refused (insns_of bytes) e (subst IsAccepted a.insns a.accepted) i

memory_or_not : (e : ProgramError) → (e ≡ error.Memory) ⊎ (¬ (e ≡ error.Memory))
memory_or_not error.Memory = inl refl
memory_or_not error.Length = inr (λ h. cc)
memory_or_not error.Empty = inr (λ h. cc)
memory_or_not error.TooLong = inr (λ h. cc)
memory_or_not (error.Opcode at) = inr (λ h. cc)
memory_or_not (error.Load at) = inr (λ h. cc)
memory_or_not (error.Scratch at) = inr (λ h. cc)
memory_or_not (error.Shift at) = inr (λ h. cc)
memory_or_not (error.DivZero at) = inr (λ h. cc)
memory_or_not (error.Jump at) = inr (λ h. cc)
memory_or_not error.NoReturn = inr (λ h. cc)
memory_or_not (error.Unstored at) = inr (λ h. cc)

abbrev Answer : Type 0
Answer = Result (List Insn) ProgramError

abbrev failed : ProgramError → Answer
failed e = Err e

-- a refusal other than `Memory` is the only answer
pub refusal_alone : (bytes : List ℕ) (e : ProgramError) → (¬ (e ≡ error.Memory) → Refuses bytes e) → (other : ProgramError)
    → Refuses bytes other → (failed e ≡ failed other) ⊎ (failed e ≡ failed error.Memory)
refusal_alone bytes e h other k =
    elim (memory_or_not e) [
      | inl memory ↦ inr (ap failed memory)
      | inr not ↦ inl (ap failed (refused_once bytes e other (h not) k))
    ]

pub refusal_excludes : (bytes : List ℕ) (e : ProgramError) → (¬ (e ≡ error.Memory) → Refuses bytes e) → (program : List Insn)
    → Accepts bytes program → (failed e ≡ Ok program) ⊎ (failed e ≡ failed error.Memory)
refusal_excludes bytes e h program a =
    elim (memory_or_not e) [
      | inl memory ↦ inr (ap failed memory)
      | inr not ↦ absurd (accepted_unrefused bytes program e a (h not))
    ]

pub program_excludes : (bytes : List ℕ) (program : List Insn) → Accepts bytes program → (other : ProgramError) → Refuses bytes other
    → ◌≡◌ {A = Answer} (Ok program) (Err other) ⊎ (◌≡◌ {A = Answer} (Ok program) (failed error.Memory))
program_excludes bytes program a other k = absurd (accepted_unrefused bytes program other a k)

-- an error was passed on
handed_on : (answer : Answer) (e : ProgramError) → IsErrAnd answer (λ x. x ≡ e) → answer ≡ failed e
handed_on (Ok program) e h = absurd h
handed_on (Err x) e h = ap failed h

pub handed_refuses : (bytes : List ℕ) (answer : Answer) (e : ProgramError) → IsErrAnd answer (λ x. x ≡ e)
    → (¬ (e ≡ error.Memory) → Refuses bytes e) → IfErr answer (λ x. ¬ (x ≡ error.Memory) → Refuses bytes x)
handed_refuses bytes answer e is h = subst (λ r. IfErr r (λ x. ¬ (x ≡ error.Memory) → Refuses bytes x)) (sym (handed_on answer e is)) h

pub handed_alone : (bytes : List ℕ) (answer : Answer) (e : ProgramError) → IsErrAnd answer (λ x. x ≡ e)
    → (¬ (e ≡ error.Memory) → Refuses bytes e) → (other : ProgramError) → Refuses bytes other
    → (answer ≡ failed other) ⊎ (answer ≡ failed error.Memory)
handed_alone bytes answer e is h other k = subst (λ r. (r ≡ failed other) ⊎ (r ≡ failed error.Memory)) (sym (handed_on answer e is))
    (refusal_alone bytes e h other k)

pub handed_excludes : (bytes : List ℕ) (answer : Answer) (e : ProgramError) → IsErrAnd answer (λ x. x ≡ e)
    → (¬ (e ≡ error.Memory) → Refuses bytes e) → (program : List Insn) → Accepts bytes program
    → (answer ≡ Ok program) ⊎ (answer ≡ failed error.Memory)
handed_excludes bytes answer e is h program a = subst (λ r. (r ≡ Ok program) ⊎ (r ≡ failed error.Memory)) (sym (handed_on answer e is))
    (refusal_excludes bytes e h program a)

-- the refusals of instructions are the refusals of their bytes
pub for_insns : (bytes : List ℕ) (insns : List Insn) (e : ProgramError) → IsCode bytes → insns ≡ insns_of bytes
    → (¬ (e ≡ error.Memory) → RefusesCode insns e) → ¬ (e ≡ error.Memory) → Refuses bytes e
for_insns bytes insns e code is h not = for_code e code (subst (λ l. RefusesCode l e) is (h not))

pub few_insns : (bytes : List ℕ) (insns : List Insn) → IsCode bytes → insns ≡ insns_of bytes → length insns ≤ 4096
few_insns bytes insns code is =
    let many : length insns ≡ length bytes / 8 = ap length is ∙ length-insns_of bytes in
    let short : length bytes ≤ 8 * 4096 = code.short in
    omega arith

pub unstored_within : (code : List Insn) (at : ℕ) → IsFirstUnstored code at → at < length code
unstored_within code at h = slice_get_within code at h.unstored.insn h.unstored.found

pub unstored_at : (code : List Insn) (o : Option ℕ) (at : ℕ) → o ≡ Some at → MatchOption o (NoUnstored code) (IsFirstUnstored code)
    → IsFirstUnstored code at
unstored_at code o at e h = subst (λ p. MatchOption p (NoUnstored code) (IsFirstUnstored code)) e h

pub is_program : (bytes : List ℕ) (insns program : List Insn) → IsCode bytes → insns ≡ program → program ≡ insns_of bytes
    → IsAccepted insns → Accepts bytes program
is_program bytes insns program code same is accepted = record { whole = code.whole; insns = is; accepted = subst IsAccepted same accepted }

pub refused_none : (bytes : List ℕ) (e : ProgramError) → Refuses bytes e → program_of bytes ≡ None
refused_none bytes e h = program_of-none bytes (λ program a. accepted_unrefused bytes program e a h)

pub handed_none : (bytes : List ℕ) (answer : Answer) (e : ProgramError) → IsErrAnd answer (λ x. x ≡ e)
    → (¬ (e ≡ error.Memory) → Refuses bytes e) → MatchResult answer (λ program. program_of bytes ≡ Some program)
    (λ x. ¬ (x ≡ error.Memory) → program_of bytes ≡ None)
handed_none bytes answer e is h =
    subst (λ r. MatchResult r (λ program. program_of bytes ≡ Some program) (λ x. ¬ (x ≡ error.Memory) → program_of bytes ≡ None))
    (sym (handed_on answer e is)) (λ not. refused_none bytes e (h not))
