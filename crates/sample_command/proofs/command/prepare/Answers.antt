use Rattle.std.proofs.Common.{refl, subst}
use Rattle.asked_service.specs.call_table.Facts.{IsWhole}
use Rattle.sample_command.proofs.Accepted.{never_refused}
use Rattle.sample_command.proofs.Prepared.{prints_it}
use Rattle.sample_command.proofs.command.prepare.Goals as goal

pub launch_sample-requires : goal.launch_sample-requires
launch_sample-requires c =
    let inputs = c.in_ok-inputs.inputs in
    record {
      never_refused = never_refused c.args.number inputs.unit.value inputs.calls.value inputs.site.value c.in_ok-inputs.ensures.unit_says
          c.in_ok-inputs.ensures.site_rows
          (subst IsWhole c.deref.ensures c.look_at.ensures.whole) c.settings.ensures.not_refused c.settings.ensures.are_these
          c.plan.ensures.not_refused c.plan.ensures.finds_its_program c.launches_end_well.ensures.of_settings;
    }

pub judge_sample-requires : goal.judge_sample-requires
judge_sample-requires c = record {
  served = c.in_ok-service.ensures.launches.launched.is_served;
  program = c.in_ok-service.ensures.launches.launched.runs_its_program;
}

pub returns-clause-prepares : goal.returns-clause-prepares
returns-clause-prepares c =
    let inputs = c.in_ok-inputs.inputs in
    let n = c.args.number in
    (refl, prints_it n inputs.unit.value inputs.calls.value inputs.site.value c.in_ok-service.service c.in_ok-counts.counts c.in_ok-inputs.ensures.reads_the_texts c.in_ok-service.ensures.launches c.in_ok-counts.ensures.judges c.truths.ensures.answers)
