use Rattle.kernel_model.proofs.Seeing.{seen_is_there, there_is_seen}
use Rattle.kernel_model.proofs.kern_files.laws.what_is_seen.Goals as goal

pub returns : goal.returns
returns c = record {
  files_and_empty_places = λ rows table path value.
      (seen_is_there rows table path value, there_is_seen rows table path value);
}
