use Rattle.std.proofs.Common.{sym, ◌∙◌, subst}
use Rattle.std.proofs.lemmas.Bool.{false≢true}
use Rattle.std.specs.Prelude.{Result, List}
use Rattle.serde_json.specs.View.{view}
use Rattle.exposure_score.specs.declared.policy_file.policy.PolicyTest.{PolicyTest}
use Rattle.exposure_score.specs.declared.policy_file.error.PolicyError.{PolicyError}
use Rattle.exposure_score.specs.policy_file.Steps.{IsUnlessMemory}
use Rattle.exposure_score.proofs.Bytes.{of_tree, no_tree}
use Rattle.exposure_score.proofs.policy_file.reader.read_bytes.Goals as goal

pub returns-in-Ok : goal.returns-in-Ok
returns-in-Ok c =
    subst (λ (wanted : Result (List PolicyTest) PolicyError). IsUnlessMemory c.read_tree.result wanted)
    (sym (of_tree c.args.bytes.now (view c.in-Ok.tree) c.in-Ok.ensures.ok.0 c.in-Ok.ensures.ok.1)) c.read_tree.ensures

pub returns-else-is_memory : goal.returns-else-is_memory
returns-else-is_memory c =
    no_tree c.args.bytes.now (c.in-Err.ensures.err (λ memory. false≢true (sym c.if-is_memory.false ∙ c.is_memory.ensures.1 memory)))
