use Rattle.std.proofs.Common.{ap, subst, List, ℕ, length, ◌≤◌}
use Rattle.judge.specs.kernel_laws.Launched.{Launch}
use Rattle.judge.proofs.OfLauncher.Conditions.{settings_can_be_launched}
use Rattle.judge.proofs.OfLauncher.TwoAbis.{word_archs}
use Rattle.asked_service.proofs.OtherPrograms.{whichever}
use Rattle.asked_service.proofs.Served.{served, runs_program}
use Rattle.asked_service.proofs.launching.steps.launch_planned.Goals as goal

pub launch-requires-clause-settings : goal.launch-requires-clause-settings
launch-requires-clause-settings c =
    settings_can_be_launched c.requires.settings.0 c.args.calls.now c.args.site.now c.args.settings.now
    c.dynamic_uid-uid.ensures.holds_of_each_site c.requires.settings.1

pub returns-in-Ok : goal.returns-in-Ok
returns-in-Ok c =
    let table = c.args.calls.now in
    let archs = word_archs table c.look_at.ensures.native c.look_at.ensures.second in
    let service = c.in-Ok.service in
    let left = c.in-Ok.ensures.leaves_one_process in
    record {
      launches = record {
        launches = c.in-Ok.ensures.ends_as_its_steps_do;
        leaves_one_process = left;
        is_a_launched_world = c.in-Ok.ensures.is_a_launched_world c.requires.settings.0 c.requires.settings.1;
        whichever_programs =
            whichever table c.args.site.now c.args.settings.now c.args.plan.now service archs c.requires.settings.0
            c.look_at.ensures.whole c.dynamic_uid-uid.ensures.holds_of_each_site c.requires.plan c.requires.settings.1
            c.in-Ok.ensures.ends_as_its_steps_do (ap (λ (launch : Launch). launch.calls) left.leaves.is);
        is_served =
            served c.requires.settings.0 table c.args.site.now c.args.settings.now c.args.plan.now service c.look_at.ensures.whole archs
            c.dynamic_uid-uid.ensures.holds_of_each_site c.requires.plan c.requires.settings.1 c.in-Ok.ensures.ends_as_its_steps_do;
        runs_its_program =
            runs_program c.requires.settings.0 table c.args.site.now c.args.settings.now c.args.plan.now service c.look_at.ensures.whole
            archs c.dynamic_uid-uid.ensures.holds_of_each_site c.requires.plan c.requires.settings.1
            c.in-Ok.ensures.ends_as_its_steps_do
            (record { normal = c.text-program.ensures.normal; short = subst (λ (text : List ℕ). length text ≤ 512) c.text-program.ensures.whole c.text-program.ensures.short });
      };
    }
