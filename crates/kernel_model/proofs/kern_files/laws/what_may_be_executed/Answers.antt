use Rattle.kernel_model.proofs.Seeing.{executed_may_be, may_be_executed}
use Rattle.kernel_model.proofs.kern_files.laws.what_may_be_executed.Goals as goal

pub returns : goal.returns
returns c = record {
  programs_where_they_may_run = λ rows table path program.
      (executed_may_be rows table path program, may_be_executed rows table path program);
}
