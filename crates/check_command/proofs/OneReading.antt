-- The bytes of a file have one reading.
use Rattle.std.proofs.Common.{◌≡◌, ◌∙◌, ℕ, zero, suc, ◌/◌, ◌%◌, ◌^◌, ◌<◌, List, [], ◌∷◌, ◌++◌, take, Some, Result, Ok, Err, refl, sym, ap}
use Rattle.std.proofs.Common.{subst, arith, inl, inr}
use Rattle.std.specs.Prelude.{◌≢◌, flat_map, slice_get}
use Rattle.std.specs.List.{All}
use Rattle.std.proofs.lemmas.Bool.{cases_lt}
use Rattle.std.proofs.lemmas.List.Elements.{All-head, All-tail}
use Rattle.filter_check.specs.bpf_code.Reading.{Refuses}
use Rattle.filter_check.specs.bpf_code.declared.machine.Insn.{Insn}
use Rattle.filter_check.specs.bpf_code.declared.program.ProgramError.{ProgramError}
use Rattle.filter_check.specs.bpf_code.declared.program.ProgramError.TheVariants as program
use Rattle.filter_check.proofs.OfBpfCode.Refusals.{accepted_unrefused, refusal_alone}
use Rattle.filter_check.specs.filter_lines.Digits.{hex_byte, hex_digit}
use Rattle.filter_check.specs.filter_lines.Lines.{AreLines, IsFirstOther, IsLine, lines_in}
use Rattle.filter_check.specs.filter_lines.Reading.{Reads, ReadsCode, ReadsLines, code_lines, is_program, no_memory, no_memory_lines}
use Rattle.filter_check.specs.filter_lines.Reading.{no_program, not_text, other_line, text_lines}
use Rattle.filter_check.specs.declared.filter_lines.error.FileError.{FileError}
use Rattle.filter_check.specs.declared.filter_lines.error.FileError.TheVariants.{Digits, Program, Memory}
use Rattle.check_command.proofs.Once.{same_err, true_false}

abbrev Answer : Type 0
Answer = Result (List Insn) FileError

-- a digit is of one number
digit_once : (a b : ℕ) → a < 16 → b < 16 → hex_digit a ≡ hex_digit b → a ≡ b
digit_once a b lt lt' is = grind arith

byte_once : (a b : ℕ) → a < 2 ^ 8 → b < 2 ^ 8 → hex_byte a ≡ hex_byte b → a ≡ b
byte_once a b lt lt' is =
    let high : hex_digit (a / 16) ≡ hex_digit (b / 16) = cc in
    let low : hex_digit (a % 16) ≡ hex_digit (b % 16) = cc in
    let one = digit_once (a / 16) (b / 16) (omega arith) (omega arith) high in
    let two = digit_once (a % 16) (b % 16) (omega arith) (omega arith) low in
    omega arith

bytes_once : (one other : List ℕ) → All (λ byte. byte < 2 ^ 8) one → All (λ byte. byte < 2 ^ 8) other
    → flat_map hex_byte one ≡ flat_map hex_byte other → one ≡ other
bytes_once [] [] small small' is = refl
bytes_once [] (b ∷ other) small small' is = cc
bytes_once (a ∷ one) [] small small' is = cc
bytes_once (a ∷ one) (b ∷ other) small small' is =
    let first : hex_byte a ≡ hex_byte b = cc in
    let rest : flat_map hex_byte one ≡ flat_map hex_byte other = cc in
    let same = byte_once a b (All-head (λ byte. byte < 2 ^ 8) a one small) (All-head (λ byte. byte < 2 ^ 8) b other small') first in
    let more = bytes_once one other (All-tail (λ byte. byte < 2 ^ 8) a one small) (All-tail (λ byte. byte < 2 ^ 8) b other small') rest in
    ap (λ byte. byte ∷ one) same ∙ ap (λ bytes. b ∷ bytes) more

-- a line is of one instruction, and lines are of one code
line_once : (line one other : List ℕ) → IsLine line one → IsLine line other → one ≡ other
line_once line one other is is' = bytes_once one other is.small is'.small (is.digits ∙ sym is'.digits)

lines_once : (lines : List (List ℕ)) (one other : List ℕ) → AreLines lines one → AreLines lines other → one ≡ other
lines_once [] one other is is' = is ∙ sym is'
lines_once (line ∷ lines) one other (own, rest, is, are, e) (own', rest', is', are', e') =
    e ∙ ap (λ bytes. bytes ++ rest) (line_once line own own' is is') ∙ ap (λ bytes. own' ++ bytes) (lines_once lines rest rest' are are')
    ∙ sym e'

-- each of the lines is an instruction
line_at : (lines : List (List ℕ)) (code : List ℕ) (place : ℕ) (line : List ℕ) → AreLines lines code → slice_get lines place ≡ Some line
    → (own : List ℕ) × IsLine line own
line_at [] code place line are found = cc
line_at (first ∷ lines) code zero line (own, rest, is, are, e) found = let same : first ≡ line = cc in (own, subst (λ text. IsLine text own) same is)
line_at (first ∷ lines) code (suc place) line (own, rest, is, are, e) found = line_at lines rest place line are found

get_taken : (lines : List (List ℕ)) (count place : ℕ) → place < count → slice_get (take count lines) place ≡ slice_get lines place
get_taken [] zero place lt = refl
get_taken [] (suc count) place lt = refl
get_taken (line ∷ lines) zero place lt = absurd (omega (arith, lt))
get_taken (line ∷ lines) (suc count) zero lt = refl
get_taken (line ∷ lines) (suc count) (suc place) lt = get_taken lines count place (omega (arith, lt))

-- so the first that is none is one
not_before : (lines : List (List ℕ)) (one other : ℕ) (is : IsFirstOther lines one) (is' : IsFirstOther lines other) → is.place < is'.place
    → ⊥
not_before lines one other is is' lt =
    let own = line_at (take is'.place lines) is'.bytes_before is.place is.line is'.before (get_taken lines is'.place is.place lt ∙ is.found) in
    is.is_none own.0 own.1

first_once : (lines : List (List ℕ)) (one other : ℕ) → IsFirstOther lines one → IsFirstOther lines other → one ≡ other
first_once lines one other is is' =
    elim (cases_lt is.place is'.place) [
      | inl lt ↦ absurd (not_before lines one other is is' lt)
      | inr le ↦ elim (cases_lt is'.place is.place) [
        | inl lt ↦ absurd (not_before lines other one is' is lt)
        | inr ge ↦ (let e = is.counted in let e' = is'.counted in omega (arith, le, ge, e, e'))
      ]
    ]

not_all : (lines : List (List ℕ)) (number : ℕ) (code : List ℕ) → IsFirstOther lines number → AreLines lines code → ⊥
not_all lines number code is are = let own = line_at lines code is.place is.line are is.found in is.is_none own.0 own.1

error_once : (code : List ℕ) (one other : ProgramError) → one ≢ program.Memory → Refuses code one → Refuses code other → one ≡ other
error_once code one other ne refuses refuses' =
    elim (refusal_alone code one (λ not. refuses) other refuses') [
      | inl same ↦ same_err one other same
      | inr memory ↦ absurd (ne (same_err one program.Memory memory))
    ]

code_once : (code : List ℕ) (one other : Answer) → ReadsCode code one → ReadsCode code other → one ≢ Err Memory → other ≢ Err Memory
    → one ≡ other
code_once code _ _ (no_program one ne refuses) (no_program other ne' refuses') not not' =
    ap (λ error. Err (Program error)) (error_once code one other ne refuses refuses')
code_once code _ _ (no_program one ne refuses) (is_program insns accepts) not not' =
    absurd (accepted_unrefused code insns one accepts refuses)
code_once code _ _ (is_program insns accepts) (no_program one ne refuses) not not' =
    absurd (accepted_unrefused code insns one accepts refuses)
code_once code _ _ (is_program one accepts) (is_program other accepts') not not' = ap Ok (accepts.insns ∙ sym accepts'.insns)
code_once code _ other no_memory is' not not' = absurd (not refl)
code_once code one _ is no_memory not not' = absurd (not' refl)

text_once : (lines : List (List ℕ)) (one other : Answer) → ReadsLines lines one → ReadsLines lines other → one ≢ Err Memory
    → other ≢ Err Memory → one ≡ other
text_once lines _ _ (other_line one is) (other_line other is') not not' =
    ap (λ number. Err (Digits number)) (first_once lines one other is is')
text_once lines _ other (other_line one is) (code_lines code _ are reads) not not' = absurd (not_all lines one code is are)
text_once lines one _ (code_lines code _ are reads) (other_line other is') not not' = absurd (not_all lines other code is' are)
text_once lines one other (code_lines code _ are reads) (code_lines code' _ are' reads') not not' =
    code_once code' one other (subst (λ bytes. ReadsCode bytes one) (lines_once lines code code' are are') reads) reads' not not'
text_once lines _ other no_memory_lines is' not not' = absurd (not refl)
text_once lines one _ is no_memory_lines not not' = absurd (not' refl)

pub reads_once : (bytes : List ℕ) (one other : Answer) → Reads bytes one → Reads bytes other → one ≢ Err Memory → other ≢ Err Memory
    → one ≡ other
reads_once bytes _ _ (not_text is) (not_text is') not not' = refl
reads_once bytes _ other (not_text is) (text_lines _ is' lines) not not' = absurd (true_false (sym is' ∙ is))
reads_once bytes one _ (text_lines _ is lines) (not_text is') not not' = absurd (true_false (sym is ∙ is'))
reads_once bytes one other (text_lines _ is lines) (text_lines _ is' lines') not not' =
    text_once (lines_in bytes) one other lines lines' not not'
