use Rattle.bpf_code.proofs.Chunks.{fitting_program, program_fits}
use Rattle.bpf_code.proofs.laws.programs_fit.Goals as goal

pub returns : goal.returns
returns c = record {
  fit_and_accepted = λ code.
      (λ program. (program_fits code program, program.accepted), λ h. fitting_program code h.0 h.1);
}
