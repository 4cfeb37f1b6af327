-- What code does that goes on in front of other code.
use Rattle.std.proofs.Common.{◌≡◌, zero, suc, ℕ, ◌+◌, ◌-◌, ◌*◌, ◌/◌, ◌%◌, ◌^◌, ◌<◌, ◌≤◌, Bool, true, false, cond, List, [], ◌∷◌, ◌++◌}
use Rattle.std.proofs.Common.{length, drop, get_or, Some, None, refl, sym, ap, ◌∙◌, subst, arith, length-append, append_assoc}
use Rattle.std.specs.Int.{is_power_of_two}
use Rattle.std.specs.Prelude.{not, nat_lt, nat_le, ◌&&◌, ◌==◌, slice_index, bit_and}
use Rattle.std.specs.List.{flat_map}
use Rattle.std.proofs.lemmas.Bool.{lt-ltb, eq-eqb, eqb-true}
use Rattle.std.proofs.lemmas.Nat.{and_mask}
use Rattle.call_rules.specs.bpf_code.declared.machine.Insn.{Insn}
use Rattle.call_rules.specs.bpf_code.declared.machine.CallData.{CallData}
use Rattle.call_rules.specs.bpf_code.declared.machine.Regs.{Regs}
use Rattle.call_rules.specs.bpf_code.declared.program.Fault.TheVariants as fault
use Rattle.call_rules.specs.bpf_code.Ops.{op_of}
use Rattle.call_rules.specs.bpf_code.Effects.{halves, words_of, effect_by}
use Rattle.call_rules.specs.bpf_code.Meaning.{counted, goes_on, run_from}
use Rattle.call_rules.specs.bpf_code.Accepted.{fault_of, is_scratch_load, unless}
use Rattle.call_rules.proofs.OfBpfCode.Endings.{run_from-skip}
use Rattle.call_rules.specs.Tested.{Tested}
use Rattle.call_rules.specs.Action.{test_holds}
use Rattle.call_rules.specs.declared.actions.Action.{Action}
use Rattle.seccomp_compile.specs.declared.tree.Comparison.{Comparison}
use Rattle.seccomp_compile.specs.declared.tree.Comparison.TheVariants.{AtLeast, Equal, AnyBit}
use Rattle.seccomp_compile.specs.Code.{whole_word, load, mask_by, skip, compare, end, IsEnd, look_code}
use Rattle.seccomp_compile.specs.Looks.{asks_for_a_bit, mask_of, comparison_of, test_code}
use Rattle.seccomp_compile.proofs.OneBit.{and_parts, one_bit, power_of_two}
use Rattle.seccomp_compile.specs.Decisions.{compares, tested_word, masked}
use Rattle.seccomp_compile.specs.Lengths.{look_len}
use Rattle.seccomp_compile.specs.Placed.{EndsWithin, from_place, ends_well, IsSound, Grows}

-- Places.

-- code that goes on in front keeps what stands at a place
from_place-append : (more code : List Insn) (place : ℕ) → place ≤ length code → from_place place (more ++ code) ≡ from_place place code
from_place-append [] code place le = refl
from_place-append (insn ∷ more) code place le =
    let further : length (insn ∷ (more ++ code)) - place ≡ suc (length (more ++ code) - place) = omega (arith, length-append more code) in
    ap (λ n. drop n (insn ∷ (more ++ code))) further ∙ from_place-append more code place le

pub from_place-grows : (before after : List Insn) (place : ℕ) → Grows before after → place ≤ length before
    → from_place place after ≡ from_place place before
from_place-grows before after place grows le = ap (from_place place) grows.1 ∙ from_place-append grows.0 before place le

pub from_place-all : (code : List Insn) (place : ℕ) → place ≡ length code → from_place place code ≡ code
from_place-all code place e = let none : length code - place ≡ 0 = omega arith in ap (λ n. drop n code) none

pub grows_not : (code : List Insn) → Grows code code
grows_not code = ([], refl)

pub grows-trans : (a b c : List Insn) → Grows a b → Grows b c → Grows a c
grows-trans a b c h k = (k.0 ++ h.0, k.1 ∙ ap (λ l. k.0 ++ l) h.1 ∙ sym (append_assoc k.0 h.0 a))

pub grows-le : (a b : List Insn) → Grows a b → length a ≤ length b
grows-le a b h = let e = ap length h.1 in omega (arith, length-append h.0 a)

-- Runs.

pub ends_later : (code : List Insn) (input : CallData) (regs : Regs) (answer : Action) (limit more : ℕ) → limit ≤ more
    → EndsWithin code input regs answer limit → EndsWithin code input regs answer more
ends_later code input regs answer limit more le h = record { steps = h.steps; ends = h.ends; within = omega (arith, h.within) }

-- one instruction, and then what stands behind so many
step : (insn : Insn) (code : List Insn) (input : CallData) (count : ℕ) (regs after : Regs) (answer : Action) (limit : ℕ)
    → run_from (insn ∷ code) input 0 regs ≡ counted (run_from code input count after)
    → EndsWithin (drop count code) input after answer limit → EndsWithin (insn ∷ code) input regs answer (limit + 1)
step insn code input count regs after answer limit e h = record {
  steps = h.steps + 1;
  ends = e ∙ ap counted (run_from-skip code input count after ∙ h.ends);
  within = omega (arith, h.within);
}

pub jump_ends : (code : List Insn) (input : CallData) (regs : Regs) (answer : Action) (limit count : ℕ)
    → EndsWithin (drop count code) input regs answer limit → EndsWithin (skip count ∷ code) input regs answer (limit + 1)
jump_ends code input regs answer limit count h = step (skip count) code input count regs regs answer limit refl h

pub end_ends : (insn : Insn) (code : List Insn) (input : CallData) (regs : Regs) (action : Action) (limit : ℕ) → IsEnd action insn
    → 1 ≤ limit → EndsWithin (insn ∷ code) input regs action limit
end_ends insn code input regs action limit is le = record {
  steps = 1;
  ends =
      ap (λ code_of_insn. goes_on (effect_by (op_of code_of_insn) insn regs input) (run_from code input)) is.code
      ∙ ap (λ word. Some (word, 1)) is.word;
  within = le;
}

pub is_end_insn : (action : Action) → IsEnd action (end action)
is_end_insn action = record { code = refl; word = refl }

chosen : (code : List Insn) (input : CallData) (regs : Regs) (b : Bool) (hit miss : ℕ) (there here : Action) (limit : ℕ)
    → EndsWithin (drop hit code) input regs there limit → EndsWithin (drop miss code) input regs here limit
    → EndsWithin (drop (cond b hit miss) code) input regs (cond b there here) limit
chosen code input regs true hit miss there here limit h k = h
chosen code input regs false hit miss there here limit h k = k

pub compare_ends : (comparison : Comparison) (number hit miss : ℕ) (code : List Insn) (input : CallData) (regs : Regs)
    (there here : Action) (limit : ℕ) → EndsWithin (drop hit code) input regs there limit
    → EndsWithin (drop miss code) input regs here limit →
    EndsWithin (compare comparison number hit miss ∷ code) input regs (cond (compares comparison regs.a number) there here) (limit + 1)
compare_ends AtLeast number hit miss code input regs there here limit h k =
    step (compare AtLeast number hit miss) code input (cond (nat_le number regs.a) hit miss) regs regs
    (cond (nat_le number regs.a) there here) limit refl (chosen code input regs (nat_le number regs.a) hit miss there here limit h k)
compare_ends Equal number hit miss code input regs there here limit h k =
    step (compare Equal number hit miss) code input (cond (regs.a == number) hit miss) regs regs
    (cond (regs.a == number) there here) limit refl (chosen code input regs (regs.a == number) hit miss there here limit h k)
compare_ends AnyBit number hit miss code input regs there here limit h k =
    let some = not (bit_and regs.a number == 0) in
    step (compare AnyBit number hit miss) code input (cond some hit miss) regs regs (cond some there here) limit refl
    (chosen code input regs some hit miss there here limit h k)

-- Words.

look_by : (whole : Bool) (offset mask : ℕ) (code : List Insn) (input : CallData) (regs : Regs) (answer : Action) (limit : ℕ) →
    ((after : Regs) → after.a ≡ cond whole (slice_index (words_of input) (offset / 4))
    (bit_and (slice_index (words_of input) (offset / 4)) mask) → EndsWithin code input after answer limit) →
    EndsWithin (cond whole (load offset ∷ []) (load offset ∷ mask_by mask ∷ []) ++ code) input regs answer (limit + 2)
look_by true offset mask code input regs answer limit h =
    let after = record regs { a = slice_index (words_of input) (offset / 4) } in
    ends_later (load offset ∷ code) input regs answer (limit + 1) (limit + 2) (omega arith)
    (step (load offset) code input 0 regs after answer limit refl (h after refl))
look_by false offset mask code input regs answer limit h =
    let loaded = record regs { a = slice_index (words_of input) (offset / 4) } in
    let after = record regs { a = bit_and (slice_index (words_of input) (offset / 4)) mask } in
    ends_later (load offset ∷ mask_by mask ∷ code) input regs answer (limit + 1 + 1) (limit + 2) (omega arith)
    (step (load offset) (mask_by mask ∷ code) input 0 regs loaded answer (limit + 1) refl
    (step (mask_by mask) code input 0 loaded after answer limit refl (h after refl)))

pub look_ends : (offset mask : ℕ) (code : List Insn) (input : CallData) (regs : Regs) (answer : Action) (limit : ℕ) →
    ((after : Regs) → after.a ≡ masked (slice_index (words_of input) (offset / 4)) mask → EndsWithin code input after answer limit) →
    EndsWithin (look_code offset mask ++ code) input regs answer (limit + 2)
look_ends offset mask code input regs answer limit h = look_by (mask == 2 ^ 32 - 1) offset mask code input regs answer limit h

low_half : (args : List ℕ) (arg at : ℕ) → at ≡ 2 * arg → get_or (flat_map halves args) at 0 ≡ get_or args arg 0 % 2 ^ 32
low_half [] arg at e = refl
low_half (x ∷ args) zero at e = let first : at ≡ 0 = omega arith in rw first refl
low_half (x ∷ args) (suc arg) zero e = absurd (omega arith)
low_half (x ∷ args) (suc arg) (suc zero) e = absurd (omega arith)
low_half (x ∷ args) (suc arg) (suc (suc at)) e = low_half args arg at (omega arith)

pub low_word : (input : CallData) (arg : ℕ) → slice_index (words_of input) ((16 + 8 * arg) / 4) ≡ slice_index input.args arg % 2 ^ 32
low_word input arg =
    let place : (16 + 8 * arg) / 4 ≡ suc (suc (suc (suc (2 * arg)))) = omega arith in
    ap (slice_index (words_of input)) place ∙ low_half input.args arg (2 * arg) refl

mod_twice : (n : ℕ) → n % 2 ^ 32 % 2 ^ 32 ≡ n % 2 ^ 32
mod_twice n = omega arith

masked_by : (whole : Bool) (n mask : ℕ) → (mask == 2 ^ 32 - 1) ≡ whole
    → cond whole (n % 2 ^ 32) (bit_and (n % 2 ^ 32) mask) ≡ bit_and (n % 2 ^ 32) mask
masked_by true n mask e =
    let same : mask ≡ 2 ^ 32 - 1 = eqb-true mask (2 ^ 32 - 1) e in
    sym (ap (bit_and (n % 2 ^ 32)) same ∙ and_mask (n % 2 ^ 32) 32 ∙ mod_twice n)
masked_by false n mask e = refl

-- a low word under a mask is the word that a test looks at
pub masked_low : (n mask : ℕ) → masked (n % 2 ^ 32) mask ≡ bit_and (n % 2 ^ 32) mask
masked_low n mask = masked_by (mask == 2 ^ 32 - 1) n mask refl

-- a test compares the masked low word with its value
pub test_by_mask : (input : CallData) (test : Tested) → test_holds input test
    ≡ (masked (slice_index input.args test.arg % 2 ^ 32) test.mask == test.value)
test_by_mask input test = sym (ap (λ word. word == test.value) (masked_low (slice_index input.args test.arg) test.mask))

by_bit : (asks : Bool) (n mask value : ℕ) → ((mask == value) && is_power_of_two mask) ≡ asks →
    (bit_and (n % 2 ^ 32) mask == value) ≡ compares (cond asks AnyBit Equal) (masked (n % 2 ^ 32) (cond asks whole_word mask)) value
by_bit false n mask value e = sym (ap (λ word. word == value) (masked_low n mask))
by_bit true n mask value e =
    let parts = and_parts (mask == value) (is_power_of_two mask) e in
    let same : mask ≡ value = eqb-true mask value parts.0 in
    let power = power_of_two mask (eqb-true _ _ parts.1) in
    let word = n % 2 ^ 32 in
    subst (λ m. (bit_and word m == value) ≡ not (bit_and word value == 0)) (sym same)
    (subst (λ v. (bit_and word v == v) ≡ not (bit_and word v == 0)) (sym power.1 ∙ same) (one_bit word power.0))

-- and so does the comparison of the word that is looked at for it
pub test_by_word : (input : CallData) (test : Tested) → test_holds input test
    ≡ compares (comparison_of test) (tested_word input test) test.value
test_by_word input test = by_bit (asks_for_a_bit test) (slice_index input.args test.arg) test.mask test.value refl

-- A test.
pub test_ends : (test : Tested) (hit miss : ℕ) (code : List Insn) (input : CallData) (regs : Regs) (there here : Action) (limit : ℕ) →
    ((after : Regs) → EndsWithin (drop hit code) input after there limit)
    → ((after : Regs) → after.a ≡ tested_word input test → EndsWithin (drop miss code) input after here limit) →
    EndsWithin (test_code test hit miss ++ code) input regs (cond (test_holds input test) there here) (limit + 3)
test_ends test hit miss code input regs there here limit h k =
    let compared : (after : Regs) → after.a ≡ masked (slice_index (words_of input) ((16 + 8 * test.arg) / 4)) (mask_of test) → EndsWithin (compare (comparison_of test) test.value hit miss ∷ code) input after (cond (test_holds input test) there here) (limit + 1) = λ after e.
    let word : after.a ≡ tested_word input test = e ∙ ap (λ w. masked w (mask_of test)) (low_word input test.arg) in
    let holds : compares (comparison_of test) after.a test.value ≡ test_holds input test = ap (λ w. compares (comparison_of test) w test.value) word ∙ sym (test_by_word input test) in
    subst (λ b. EndsWithin (compare (comparison_of test) test.value hit miss ∷ code) input after (cond b there here) (limit + 1)) holds
    (compare_ends (comparison_of test) test.value hit miss code input after there here limit (h after) (k after word)) in
    let all = look_ends (16 + 8 * test.arg) (mask_of test) (compare (comparison_of test) test.value hit miss ∷ code) input regs (cond (test_holds input test) there here) (limit + 1) compared in
    subst (λ code. EndsWithin code input regs (cond (test_holds input test) there here) (limit + 3))
    (sym (append_assoc (look_code (16 + 8 * test.arg) (mask_of test)) (compare (comparison_of test) test.value hit miss ∷ []) code))
    (ends_later _ input regs (cond (test_holds input test) there here) (limit + 1 + 2) (limit + 3) (omega arith) all)

-- Sound code.

ends_in_front : (insn : Insn) (code : List Insn) → 0 < length code → ends_well code ≡ true → ends_well (insn ∷ code) ≡ true
ends_in_front insn [] lt e = absurd (omega arith)
ends_in_front insn (next ∷ code) lt e = e

sound_in_front : (insn : Insn) (code : List Insn) → 0 < length code → fault_of insn (length code) ≡ None
    → is_scratch_load (op_of insn.code) ≡ false → IsSound code → IsSound (insn ∷ code)
sound_in_front insn code lt fine load sound = record { fine = (fine, load, sound.fine); ends = ends_in_front insn code lt sound.ends }

end_last : (action : Action) (code : List Insn) → ends_well code ≡ true → ends_well (end action ∷ code) ≡ true
end_last action [] e = refl
end_last action (insn ∷ code) e = e

pub end_sound : (action : Action) (code : List Insn) → IsSound code → IsSound (end action ∷ code)
end_sound action code sound = record { fine = (refl, refl, sound.fine); ends = end_last action code sound.ends }

pub jump_sound : (count : ℕ) (code : List Insn) → count < length code → IsSound code → IsSound (skip count ∷ code)
jump_sound count code lt sound = sound_in_front (skip count) code (omega arith)
    (ap (λ b. unless b fault.Jump) (lt-ltb count (length code) lt)) refl sound

both_fine : (jt jf left : ℕ) → jt < left → jf < left → unless (nat_lt jt left && nat_lt jf left) fault.Jump ≡ None
both_fine jt jf left t f = ap (λ b. unless b fault.Jump) (ap (λ b. b && nat_lt jf left) (lt-ltb jt left t) ∙ lt-ltb jf left f)

pub compare_sound : (comparison : Comparison) (number hit miss : ℕ) (code : List Insn) → hit < length code → miss < length code
    → IsSound code → IsSound (compare comparison number hit miss ∷ code)
compare_sound AtLeast number hit miss code t f sound = sound_in_front (compare AtLeast number hit miss) code (omega arith)
    (both_fine hit miss (length code) t f) refl sound
compare_sound Equal number hit miss code t f sound = sound_in_front (compare Equal number hit miss) code (omega arith)
    (both_fine hit miss (length code) t f) refl sound
compare_sound AnyBit number hit miss code t f sound = sound_in_front (compare AnyBit number hit miss) code (omega arith)
    (both_fine hit miss (length code) t f) refl sound

load_fine : (offset left : ℕ) → offset < 64 → offset % 4 ≡ 0 → fault_of (load offset) left ≡ None
load_fine offset left lt whole =
    ap (λ b. unless b fault.Load) (ap (λ b. b && (offset % 4 == 0)) (lt-ltb offset 64 lt) ∙ eq-eqb (offset % 4) 0 whole)

look_sound_by : (whole : Bool) (offset mask : ℕ) (code : List Insn) → offset < 64 → offset % 4 ≡ 0 → 0 < length code → IsSound code
    → IsSound (cond whole (load offset ∷ []) (load offset ∷ mask_by mask ∷ []) ++ code)
look_sound_by true offset mask code lt e some sound = sound_in_front (load offset) code some
    (load_fine offset (length code) lt e) refl sound
look_sound_by false offset mask code lt e some sound =
    sound_in_front (load offset) (mask_by mask ∷ code) (omega arith) (load_fine offset (suc (length code)) lt e) refl
    (sound_in_front (mask_by mask) code some refl refl sound)

pub look_sound : (offset mask : ℕ) (code : List Insn) → offset < 64 → offset % 4 ≡ 0 → 0 < length code → IsSound code
    → IsSound (look_code offset mask ++ code)
look_sound offset mask code = look_sound_by (mask == 2 ^ 32 - 1) offset mask code

pub test_sound : (test : Tested) (hit miss : ℕ) (code : List Insn) → test.arg ≤ 5 → hit < length code → miss < length code → IsSound code
    → IsSound (test_code test hit miss ++ code)
test_sound test hit miss code arg t f sound =
    subst IsSound (sym (append_assoc (look_code (16 + 8 * test.arg) (mask_of test))
    (compare (comparison_of test) test.value hit miss ∷ []) code))
    (look_sound (16 + 8 * test.arg) (mask_of test) (compare (comparison_of test) test.value hit miss ∷ code) (omega arith) (omega arith)
    (omega arith) (compare_sound (comparison_of test) test.value hit miss code t f sound))

-- Lengths.

look_length_by : (whole : Bool) (offset mask : ℕ) → length (cond whole (load offset ∷ []) (load offset ∷ mask_by mask ∷ []))
    ≡ cond whole 1 2
look_length_by true offset mask = refl
look_length_by false offset mask = refl

pub look_length : (offset mask : ℕ) → length (look_code offset mask) ≡ look_len mask
look_length offset mask = look_length_by (mask == 2 ^ 32 - 1) offset mask

either_le : (whole : Bool) → cond whole 1 2 ≤ 2
either_le true = omega arith
either_le false = omega arith

pub look_len-le : (mask : ℕ) → look_len mask ≤ 2
look_len-le mask = either_le (mask == 2 ^ 32 - 1)

pub test_length : (test : Tested) (hit miss : ℕ) → length (test_code test hit miss) ≤ 3
test_length test hit miss =
    omega (arith, length-append (look_code (16 + 8 * test.arg) (mask_of test)) (compare (comparison_of test) test.value hit miss ∷ []), look_length (16 + 8 * test.arg) (mask_of test), look_len-le (mask_of test))
