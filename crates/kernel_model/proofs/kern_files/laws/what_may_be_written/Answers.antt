use Rattle.kernel_model.proofs.Seeing.{written_may_be, may_be_written}
use Rattle.kernel_model.proofs.kern_files.laws.what_may_be_written.Goals as goal

pub returns : goal.returns
returns c = record {
  files_on_writable_mounts = λ rows table path value.
      (written_may_be rows table path value, may_be_written rows table path value);
}
