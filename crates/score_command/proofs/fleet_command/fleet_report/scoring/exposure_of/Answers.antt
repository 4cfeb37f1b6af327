use Rattle.report_text.specs.exposure_score.StoredTests.{stored_by}
use Rattle.report_text.proofs.OfExposureScore.ServiceFactsAccepted.{few_paths}
use Rattle.score_command.proofs.Came.{weighs_each}
use Rattle.score_command.proofs.fleet_command.fleet_report.scoring.exposure_of.Goals as goal

pub facts-requires : goal.facts-requires
facts-requires g c = record { few_paths = few_paths c.args.unit.now c.args.calls.now c.args.site.now c.requires.accepted }

pub unreachable-requires : goal.unreachable-requires
unreachable-requires g c =
    let stored = stored_by (λ test. test.id) (λ test. test.range) (λ test shown answer. (goal.Fn-dyn g).post (test.check.vtable, test.check.value) (shown, tt) answer) c.args.tests.now in
    weighs_each c.args.unit.now c.args.calls.now c.args.made.now c.in_ok-known.known stored c.args.policy.now c.in_ok-known.ensures.facts
    c.requires.weighs
    (c.in-Err-NoWeight.ensures.no_weight c.in-Err-NoWeight.field-0-is)
