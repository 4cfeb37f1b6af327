use Rattle.std.proofs.Common.{◌∙◌, subst}
use Rattle.bpf_code.specs.Accepted.{IsAccepted}
use Rattle.bpf_code.proofs.Chunks.{fitting_program}
use Rattle.bpf_code.proofs.Computed.{program_of-accepts}
use Rattle.bpf_code.proofs.Refusals.{handed_none, handed_refuses, handed_alone, handed_excludes, for_insns, few_insns, is_program}
use Rattle.bpf_code.proofs.Refusals.{program_excludes}
use Rattle.bpf_code.proofs.program.Program.read.Goals as goal

pub returns-in_err-check_length-clause-whole_program : goal.returns-in_err-check_length-clause-whole_program
returns-in_err-check_length-clause-whole_program c = handed_excludes c.args.bytes.now _ _ c.from_residual.ensures.1
    (λ h. c.in_err-check_length.ensures)

pub returns-in_err-check_length-clause-first_refusal : goal.returns-in_err-check_length-clause-first_refusal
returns-in_err-check_length-clause-first_refusal c = handed_alone c.args.bytes.now _ _ c.from_residual.ensures.1
    (λ h. c.in_err-check_length.ensures)

pub check_insns-requires : goal.check_insns-requires
check_insns-requires c = few_insns c.args.bytes.now c.deref.result.now c.in_ok-check_length.ensures
    (c.deref.ensures.value ∙ c.in_ok-insns.ensures.read)

pub returns-in_err-check_insns-clause-refuses : goal.returns-in_err-check_insns-clause-refuses
returns-in_err-check_insns-clause-refuses c =
    handed_refuses c.args.bytes.now _ _ c.from_residual-in_err-check_insns.ensures.1
    (for_insns c.args.bytes.now c.deref.result.now _ c.in_ok-check_length.ensures
    (c.deref.ensures.value ∙ c.in_ok-insns.ensures.read) c.in_err-check_insns.ensures.refused)

pub returns-in_err-check_insns-clause-whole_program : goal.returns-in_err-check_insns-clause-whole_program
returns-in_err-check_insns-clause-whole_program c =
    handed_excludes c.args.bytes.now _ _ c.from_residual-in_err-check_insns.ensures.1
    (for_insns c.args.bytes.now c.deref.result.now _ c.in_ok-check_length.ensures
    (c.deref.ensures.value ∙ c.in_ok-insns.ensures.read) c.in_err-check_insns.ensures.refused)

pub returns-in_err-check_insns-clause-first_refusal : goal.returns-in_err-check_insns-clause-first_refusal
returns-in_err-check_insns-clause-first_refusal c =
    handed_alone c.args.bytes.now _ _ c.from_residual-in_err-check_insns.ensures.1
    (for_insns c.args.bytes.now c.deref.result.now _ c.in_ok-check_length.ensures
    (c.deref.ensures.value ∙ c.in_ok-insns.ensures.read) c.in_err-check_insns.ensures.refused)

pub returns-clause-first_refusal : goal.returns-clause-first_refusal
returns-clause-first_refusal c = program_excludes c.args.bytes.now _
    (is_program c.args.bytes.now c.deref.result.now _ c.in_ok-check_length.ensures c.deref.ensures.value c.in_ok-insns.ensures.read
    c.in_ok-check_insns.ensures.accepted)

pub returns-in_err-check_length-clause-program_of : goal.returns-in_err-check_length-clause-program_of
returns-in_err-check_length-clause-program_of c = handed_none c.args.bytes.now _ _ c.from_residual.ensures.1
    (λ h. c.in_err-check_length.ensures)

pub returns-in_err-check_insns-clause-program_of : goal.returns-in_err-check_insns-clause-program_of
returns-in_err-check_insns-clause-program_of c =
    handed_none c.args.bytes.now _ _ c.from_residual-in_err-check_insns.ensures.1
    (for_insns c.args.bytes.now c.deref.result.now _ c.in_ok-check_length.ensures
    (c.deref.ensures.value ∙ c.in_ok-insns.ensures.read) c.in_err-check_insns.ensures.refused)

pub returns-clause-program_of : goal.returns-clause-program_of
returns-clause-program_of c = program_of-accepts c.args.bytes.now _
    (is_program c.args.bytes.now c.deref.result.now _ c.in_ok-check_length.ensures c.deref.ensures.value c.in_ok-insns.ensures.read
    c.in_ok-check_insns.ensures.accepted)

pub invariant_of-result : goal.invariant_of-result
invariant_of-result c = fitting_program c.in_ok-insns.insns.items c.in_ok-insns.ensures.fit
    (subst IsAccepted c.deref.ensures.value c.in_ok-check_insns.ensures.accepted)
