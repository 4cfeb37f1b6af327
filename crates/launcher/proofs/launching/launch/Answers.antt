use Rattle.launcher.proofs.TwoAbis.{word_archs}
use Rattle.std.proofs.Common.{◌≡◌, ◌≤◌, ◌∙◌, sym, subst, refl, List, length, Ok, Err, false}
use Rattle.kernel_laws.specs.kern_mounts.Finds.{finds}
use Rattle.kernel_laws.specs.Launched.{IsLaunchedWorld}
use Rattle.kernel_laws.specs.kernel_model.World.{World}
use Rattle.exec_settings.specs.site_table.Table.{row_at}
use Rattle.launcher.specs.declared.launched.Launched.{Launched as Service}
use Rattle.launcher.specs.Answers.{AreProgramsOf, EndsAs, LaunchesTo, LeavesService, given_bytes, wanted_of}
use Rattle.launcher.specs.Launch.{LaunchStep, is_privileged_row}
use Rattle.launcher.proofs.Answered.{at_error, ends_refused, service_left, steps_end}
use Rattle.launcher.proofs.Counted.{few_calls}
use Rattle.launcher.proofs.UnitLaunched.{unit_launched}
use Rattle.launcher.proofs.launching.launch.Goals as goal

pub make_steps-requires-clause-few_calls : goal.make_steps-requires-clause-few_calls
make_steps-requires-clause-few_calls c =
    let settings = c.args.settings.now in
    let made = c.in_ok-filters.filters in
    let are : AreProgramsOf settings.filters.items made = subst (λ filters. AreProgramsOf filters made) c.deref.ensures.value c.in_ok-filters.ensures.one_for_each_filter in
    subst (λ (steps : List LaunchStep). length steps ≤ 40000) (sym c.in_ok-list.ensures.calls_by_these_programs)
    (few_calls c.args.calls.now.calls (wanted_of settings (given_bytes made)) settings.filters.items made are
    c.requires.settings.fit_into_a_stack refl)

pub returns-in_err-steps-clause-ends_as_its_steps_do : goal.returns-in_err-steps-clause-ends_as_its_steps_do
returns-in_err-steps-clause-ends_as_its_steps_do c =
    let table = c.args.calls.now in
    let site = c.args.site.now in
    let settings = c.args.settings.now in
    let plan = c.args.plan.now in
    let made = c.in_ok-filters.filters in
    let e = c.in_err-steps.field-0.0 in
    let after : World = c.make_steps.new.world in
    let are : AreProgramsOf settings.filters.items made = subst (λ filters. AreProgramsOf filters made) c.deref.ensures.value c.in_ok-filters.ensures.one_for_each_filter in
    let plain : is_privileged_row (finds (row_at site.rows) plan settings.program) ≡ false = sym c.is_privileged.ensures.by_the_row_that_is_found ∙ c.if-is_privileged.false in
    let ends = steps_end table site settings plan c.look_at.ensures.whole (word_archs table c.look_at.ensures.native c.look_at.ensures.second) c.requires.plan c.requires.settings made are plain c.in_ok-list.list c.in_ok-world.world (Err e) after c.in_ok-world.ensures.starts c.in_ok-list.ensures.calls_by_these_programs c.in_err-steps.ensures in
    at_error (EndsAs table site settings plan) c.from_residual-in_err-steps.result e c.from_residual-in_err-steps.ensures.1
    (ends_refused table site settings plan c.look_at.ensures.whole
    (word_archs table c.look_at.ensures.native c.look_at.ensures.second) c.requires.plan c.requires.settings made are plain e after
    ends)

pub returns : goal.returns
returns c =
    let table = c.args.calls.now in
    let site = c.args.site.now in
    let settings = c.args.settings.now in
    let plan = c.args.plan.now in
    let made = c.in_ok-filters.filters in
    let after : World = c.make_steps.new.world in
    let are : AreProgramsOf settings.filters.items made = subst (λ filters. AreProgramsOf filters made) c.deref.ensures.value c.in_ok-filters.ensures.one_for_each_filter in
    let plain : is_privileged_row (finds (row_at site.rows) plan settings.program) ≡ false = sym c.is_privileged.ensures.by_the_row_that_is_found ∙ c.if-is_privileged.false in
    let ends = steps_end table site settings plan c.look_at.ensures.whole (word_archs table c.look_at.ensures.native c.look_at.ensures.second) c.requires.plan c.requires.settings made are plain c.in_ok-list.list c.in_ok-world.world (Ok c.in_ok-steps.steps) after c.in_ok-world.ensures.starts c.in_ok-list.ensures.calls_by_these_programs c.in_ok-steps.ensures in
    let service : Service = record { world = after; program = c.in_ok-copy-2.field-0; filters = made; steps = c.in_ok-steps.steps } in
    let launched : LaunchesTo table site settings plan service = record { program = c.in_ok-copy-2.ensures.same; filters = are; ends = ends } in
    record {
      ends_as_its_steps_do = subst (λ (world : World). LaunchesTo table site settings plan (record service { world = world }))
          (sym c.world.view_is) launched;
      leaves_one_process =
          subst (λ (world : World). LeavesService table site settings plan (record service { world = world })) (sym c.world.view_is)
          (service_left table site settings plan c.look_at.ensures.whole
          (word_archs table c.look_at.ensures.native c.look_at.ensures.second) c.requires.plan c.requires.settings service launched);
      is_a_launched_world = λ unit are_settings.
          subst IsLaunchedWorld (sym c.world.view_is)
          (unit_launched unit table site settings plan service c.look_at.ensures.whole
          (word_archs table c.look_at.ensures.native c.look_at.ensures.second) c.requires.plan c.requires.settings are_settings
          launched);
    }
