-- The program of bytes as a function, which accepts the same programs by tests in place of facts. A path only leads
-- forward, so a path to a place has at most as many steps as the number of the place.
use Rattle.std.specs.Prelude.{ℕ, zero, suc, ◌+◌, ◌%◌, ◌==◌, nat_le, ◌&&◌, ◌||◌, not, Bool, true, false, if◌then◌else◌, List, [], ◌∷◌}
use Rattle.std.specs.Prelude.{length, slice_get, Option, Some, None}
use Rattle.std.specs.Option.{option_map_or, is_none}
use Rattle.linux_numbers.specs.Limits.{bpf_maxinsns}
use Rattle.bpf_code.specs.declared.machine.Insn.{Insn}
use Rattle.bpf_code.specs.declared.ops.Op.{Op}
use Rattle.bpf_code.specs.declared.ops.Op.TheVariants.{Jump, JumpIf}
use Rattle.bpf_code.specs.Ops.{op_of}
use Rattle.bpf_code.specs.Accepted.{fault_of, stores, is_scratch_load, ends_in_return}
use Rattle.bpf_code.specs.Reading.{insns_of}

-- one of the numbers below this has the property
abbrev pub any_below : ℕ → (ℕ → Bool) → Bool
any_below zero test = false
any_below (suc n) test = test n || any_below n test

abbrev pub leads_to : Option Op → Insn → ℕ → ℕ → Bool
leads_to (Some Jump) insn at to = to == at + 1 + insn.k
leads_to (Some (JumpIf t o)) insn at to = to == at + 1 + insn.jt || to == at + 1 + insn.jf
leads_to op insn at to = to == at + 1

-- the instruction at a place leads to another and does not store the word
abbrev pub passes_to : List Insn → ℕ → ℕ → ℕ → Bool
passes_to code word at to = option_map_or (λ insn. not (stores (op_of insn.code) insn word) && leads_to (op_of insn.code) insn at to)
    (slice_get code at) false

-- some path of at most so many steps leads to this place without a store of the word
abbrev pub reaches : List Insn → ℕ → ℕ → ℕ → Bool
reaches code word zero to = to == 0
reaches code word (suc steps) to = to == 0 || any_below to (λ at. reaches code word steps at && passes_to code word at to)

abbrev pub is_unstored_load : List Insn → ℕ → Bool
is_unstored_load code at = option_map_or (λ insn. is_scratch_load (op_of insn.code) && reaches code insn.k at at) (slice_get code at) false

abbrev pub are_fine : List Insn → Bool
are_fine [] = true
are_fine (insn ∷ code) = is_none (fault_of insn (length code)) && are_fine code

abbrev pub is_accepted : List Insn → Bool
is_accepted code = (nat_le (length code) bpf_maxinsns && are_fine code) &&
    (ends_in_return code && not (any_below (length code) (is_unstored_load code)))

-- the program of the bytes, if they are a program
abbrev pub program_of : List ℕ → Option (List Insn)
program_of bytes = if length bytes % 8 == 0 && is_accepted (insns_of bytes) then Some (insns_of bytes) else None
