-- Instructions have bytes, and bytes have instructions.
use Rattle.std.proofs.Common.{◌≡◌, ℕ, zero, suc, ◌*◌, ◌/◌, ◌%◌, ◌^◌, List, [], ◌∷◌, length, drop, get_or, map, refl, sym, ap, ◌∙◌, subst}
use Rattle.std.proofs.Common.{arith}
use Rattle.std.specs.Int.{from_le_bytes, to_le_bytes, w32}
use Rattle.std.specs.List.{All}
use Rattle.std.specs.Simd.{first_chunks}
use Rattle.std.proofs.lemmas.List.{length-map}
use Rattle.std.proofs.lemmas.List.Elements.{All-map, All-tail}
use Rattle.std.proofs.lemmas.Nat.{from_le_bytes-to_le_bytes_2, from_le_bytes-to_le_bytes_4}
use Rattle.bpf_code.specs.declared.machine.Insn.{Insn}
use Rattle.bpf_code.specs.Accepted.{IsAccepted}
use Rattle.bpf_code.specs.Reading.{Fits, insn_of, insns_of, bytes_of_insn, bytes_of, IsProgram}

length-first_chunks : (count : ℕ) (bytes : List ℕ) → length (first_chunks 8 count bytes) ≡ count
length-first_chunks zero bytes = refl
length-first_chunks (suc count) bytes = ap suc (length-first_chunks count (drop 8 bytes))

-- the number of instructions in the bytes
pub length-insns_of : (bytes : List ℕ) → length (insns_of bytes) ≡ length bytes / 8
length-insns_of bytes = length-map (first_chunks 8 (length bytes / 8) bytes) insn_of ∙ length-first_chunks (length bytes / 8) bytes

length-bytes_of : (code : List Insn) → length (bytes_of code) ≡ 8 * length code
length-bytes_of [] = refl
length-bytes_of (insn ∷ code) = omega (arith, length-bytes_of code)

-- an instruction is read back with its numbers cut to their sizes
cut : Insn → Insn
cut insn = insn_of (bytes_of_insn insn)

cut_fits : (insn : Insn) → Fits (cut insn)
unfolding cut
cut_fits insn = record { code = omega arith; jt = omega arith; jf = omega arith; k = omega arith }

uncut : (insn : Insn) → Fits insn → cut insn ≡ insn
unfolding cut
uncut insn fits =
    let with : ℕ → ℕ → ℕ → ℕ → Insn = λ code jt jf k. record { code = code; jt = jt; jf = jf; k = k } in
    let jt : insn.jt % 2 ^ 8 ≡ insn.jt = omega (arith, fits.jt) in
    let jf : insn.jf % 2 ^ 8 ≡ insn.jf = omega (arith, fits.jf) in
    let k = from_le_bytes w32 (to_le_bytes w32 insn.k) in
    ap (λ code. with code (insn.jt % 2 ^ 8) (insn.jf % 2 ^ 8) k) (from_le_bytes-to_le_bytes_2 insn.code fits.code)
    ∙ ap (λ jt. with insn.code jt (insn.jf % 2 ^ 8) k) jt
    ∙ ap (λ jf. with insn.code insn.jt jf k) jf
    ∙ ap (with insn.code insn.jt insn.jf) (from_le_bytes-to_le_bytes_4 insn.k fits.k)

chunks_back : (code : List Insn) → map insn_of (first_chunks 8 (length code) (bytes_of code)) ≡ map cut code
unfolding cut
chunks_back [] = refl
chunks_back (insn ∷ code) = ap (λ rest. cut insn ∷ rest) (chunks_back code)

insns_back : (code : List Insn) → insns_of (bytes_of code) ≡ map cut code
insns_back code =
    let count : length (bytes_of code) / 8 ≡ length code = omega (arith, length-bytes_of code) in
    ap (λ n. map insn_of (first_chunks 8 n (bytes_of code))) count ∙ chunks_back code

all_uncut : (code : List Insn) → All Fits code → map cut code ≡ code
all_uncut [] fits = refl
all_uncut (insn ∷ code) fits =
    ap (λ first. first ∷ map cut code) (uncut insn (fits 0 insn (omega arith)))
    ∙ ap (λ rest. insn ∷ rest) (all_uncut code (All-tail Fits insn code fits))

all_cut_fit : (code : List Insn) → All Fits (map cut code)
all_cut_fit code = All-map Fits cut code (λ at insn below. cut_fits (get_or code at insn))

-- accepted instructions whose numbers fit are read back from their bytes
pub fitting_program : (code : List Insn) → All Fits code → IsAccepted code → IsProgram code
fitting_program code fits accepted = record {
  whole = omega (arith, length-bytes_of code);
  insns = sym (insns_back code ∙ all_uncut code fits);
  accepted = accepted;
}

-- instructions that are read back have numbers that fit
pub program_fits : (code : List Insn) → IsProgram code → All Fits code
program_fits code program = subst (All Fits) (sym (program.insns ∙ insns_back code)) (all_cut_fit code)
