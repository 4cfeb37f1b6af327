-- The sixteen words of call data.
use Rattle.std.proofs.Common.{◌≡◌, ℕ, zero, suc, ◌*◌, ◌/◌, ◌%◌, ◌^◌, ◌<◌, List, [], ◌∷◌, length, get_or, refl, arith}
use Rattle.std.specs.Prelude.{flat_map, slice_index}
use Rattle.std.specs.List.{AllByRecursion}
use Rattle.std.proofs.lemmas.List.Elements.{recursion_from_All}
use Rattle.seccomp_compile.specs.bpf_code.declared.machine.CallData.{CallData}
use Rattle.seccomp_compile.specs.bpf_code.Effects.{words_of, halves}
use Rattle.seccomp_compile.specs.bpf_code.Meaning.{IsCallData}

small_halves : (n : ℕ) → n < 2 ^ 64 → (n % 2 ^ 32 < 2 ^ 32) × (n / 2 ^ 32 < 2 ^ 32)
small_halves n lt = (omega arith, omega (arith, lt))

small_args : (args : List ℕ) → AllByRecursion (λ arg. arg < 2 ^ 64) args → AllByRecursion (λ word. word < 2 ^ 32) (flat_map halves args)
small_args [] h = tt
small_args (arg ∷ args) h = let s = small_halves arg h.0 in (s.0, (s.1, small_args args h.1))

small_at : (words : List ℕ) (at : ℕ) → AllByRecursion (λ word. word < 2 ^ 32) words → get_or words at 0 < 2 ^ 32
small_at [] at h = omega arith
small_at (word ∷ words) zero h = h.0
small_at (word ∷ words) (suc at) h = small_at words at h.1

pub word_fits : (input : CallData) (at : ℕ) → IsCallData input → slice_index (words_of input) at < 2 ^ 32
word_fits input at fits =
    let ip = small_halves input.ip fits.ip in
    small_at (words_of input) at
    (fits.nr, (fits.arch, (ip.0, (ip.1, small_args input.args (recursion_from_All (λ arg. arg < 2 ^ 64) input.args fits.args)))))

length_args : (args : List ℕ) → length (flat_map halves args) ≡ 2 * length args
length_args [] = refl
length_args (arg ∷ args) = let e = length_args args in omega (arith, e)

pub sixteen : (input : CallData) → IsCallData input → length (words_of input) ≡ 16
sixteen input fits = let e = length_args input.args in omega (arith, e, fits.count)
