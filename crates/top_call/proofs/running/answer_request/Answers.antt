use Rattle.std.proofs.Common.{[], map, refl}
use Rattle.derive_command.specs.unit_inputs.command_answers.Laws.{laws_over}
use Rattle.derive_command.specs.unit_inputs.declared.command_answers.exit_status.ExitStatus.TheVariants.{Done}
use Rattle.derive_command.proofs.OfUnitInputs.Runs.{ran}
use Rattle.filter_command.specs.Prints.{filter_laws, filters_text, status_of as filter_status}
use Rattle.filter_command.proofs.Prepared.{together as filter_together}
use Rattle.derive_command.specs.plan_command.Prints.{plan_laws, mounts_text, status_of as plan_status}
use Rattle.derive_command.proofs.OfPlanCommand.Prepared.{together as plan_together}
use Rattle.derive_command.specs.unit_inputs.command_answers.ReadyTexts.{status_of as ready_status, text_of as ready_text}
use Rattle.derive_command.specs.Prints.{derive_laws}
use Rattle.derive_command.proofs.Prepared.{together as derive_together}
use Rattle.effect_command.specs.Prints.{effect_laws}
use Rattle.effect_command.proofs.Prepared.{together as effect_together}
use Rattle.tighten_command.specs.tightening.Wishes.{wishes_by}
use Rattle.tighten_command.specs.Prints.{tighten_laws}
use Rattle.tighten_command.proofs.Prepared.{together as tighten_together}
use Rattle.why_command.specs.Prints.{why_laws}
use Rattle.why_command.proofs.Prepared.{together as why_together}
use Rattle.why_command.specs.lines_command.Prints.{lines_laws}
use Rattle.why_command.proofs.LinesCommandPrepared.{together as lines_together}
use Rattle.score_command.specs.exposure_score.StoredTests.{stored_by}
use Rattle.score_command.specs.Prints.{score_laws, scored_text, status_of as score_status}
use Rattle.score_command.proofs.Prepared.{together as score_together}
use Rattle.check_command.specs.Checked.{checked_text, status_of as check_status}
use Rattle.check_command.specs.Prints.{check_laws}
use Rattle.check_command.proofs.Together.{together as check_together}
use Rattle.score_command.specs.fleet_command.Prints.{fleet_laws, status_of as fleet_status, text_of as fleet_text}
use Rattle.score_command.proofs.FleetCommandPrepared.{together as fleet_together}
use Rattle.derive_command.proofs.OfUnitInputs.Refusing.{quiet}
use Rattle.sample_command.specs.Prints.{sample_laws, sampled_text, status_of as sample_status}
use Rattle.sample_command.proofs.Prepared.{together as sample_together}
use Rattle.top_call.specs.Texts.{help_text, version_text}
use Rattle.top_call.proofs.Runs.{ran_fixed}
use Rattle.derive_command.specs.host_io.Calls.{Whole}
use Rattle.derive_command.specs.unit_inputs.Asking.{asks_with_file, input_asks}
use Rattle.derive_command.proofs.OfUnitInputs.Ended.{order_finished}
use Rattle.derive_command.proofs.OfUnitInputs.Ordering.{asked_so, order_quiet}
use Rattle.score_command.specs.fleet_command.Asking.{fleet_asks}
use Rattle.top_call.proofs.Asked.{asked_fixed}
use Rattle.top_call.proofs.running.answer_request.Goals as goal

pub returns-in-Help-clause-runs : goal.returns-in-Help-clause-runs
returns-in-Help-clause-runs g c =
    rw c.in-Help.is
    (ran_fixed c.help.result Done help_text (Unit {0}) _ c.finish.result refl
    (λ all. refl) c.help.ensures.status c.help.ensures.text refl c.finish.ensures.finishes)

pub returns-in-Version-clause-runs : goal.returns-in-Version-clause-runs
returns-in-Version-clause-runs g c =
    rw c.in-Version.is
    (ran_fixed c.version.result Done version_text (Unit {0}) _ c.finish-in-Version.result refl (λ all. refl) c.version.ensures.status c.version.ensures.text refl c.finish-in-Version.ensures.finishes)

pub returns-in-Filter-clause-runs : goal.returns-in-Filter-clause-runs
returns-in-Filter-clause-runs g c =
    rw c.in-Filter.is
    (ran (laws_over (g.S.Shelf.agrees c.prepare.new.shelf) (filter_laws c.in-Filter.unit.now)) (filter_together (g.S.Shelf.agrees c.prepare.new.shelf) c.in-Filter.unit.now) _ filter_status filters_text c.prepare.result c.finish-in-Filter.result
    c.prepare.ensures.prepares c.prepare.ensures.reads_for_the_unit.reads_for_a_name c.prepare.ensures.reads_for_the_unit.fault_rose c.finish-in-Filter.ensures.finishes)

pub returns-in-Plan-clause-runs : goal.returns-in-Plan-clause-runs
returns-in-Plan-clause-runs g c =
    rw c.in-Plan.is
    (ran (laws_over (g.S.Shelf.agrees c.prepare-in-Plan.new.shelf) (plan_laws c.in-Plan.unit.now)) (plan_together (g.S.Shelf.agrees c.prepare-in-Plan.new.shelf) c.in-Plan.unit.now) _ plan_status mounts_text c.prepare-in-Plan.result c.finish-in-Plan.result
    c.prepare-in-Plan.ensures.prepares c.prepare-in-Plan.ensures.reads_for_the_unit.reads_for_a_name c.prepare-in-Plan.ensures.reads_for_the_unit.fault_rose c.finish-in-Plan.ensures.finishes)

pub returns-in-Judge-clause-runs : goal.returns-in-Judge-clause-runs
returns-in-Judge-clause-runs g c = rw c.in-Judge.is c.answer.ensures.runs

pub returns-in-Replay-clause-runs : goal.returns-in-Replay-clause-runs
returns-in-Replay-clause-runs g c = rw c.in-Replay.is c.answer-in-Replay.ensures.runs

pub returns-in-Derive-clause-runs : goal.returns-in-Derive-clause-runs
returns-in-Derive-clause-runs g c =
    rw c.in-Derive.is
    (ran (laws_over (g.S.Shelf.agrees c.prepare-in-Derive.new.shelf) (derive_laws c.in-Derive.unit.now c.in-Derive.script.now)) (derive_together (g.S.Shelf.agrees c.prepare-in-Derive.new.shelf) c.in-Derive.unit.now c.in-Derive.script.now) _ ready_status ready_text c.prepare-in-Derive.result c.finish-in-Derive.result
    c.prepare-in-Derive.ensures.prepares c.prepare-in-Derive.ensures.reads_for_the_unit.reads_for_a_name c.prepare-in-Derive.ensures.reads_for_the_unit.fault_rose c.finish-in-Derive.ensures.finishes)

pub returns-in-Effect-clause-runs : goal.returns-in-Effect-clause-runs
returns-in-Effect-clause-runs g c =
    rw c.in-Effect.is
    (ran (laws_over (g.S.Shelf.agrees c.prepare-in-Effect.new.shelf) (effect_laws c.in-Effect.unit.now c.in-Effect.dropin.now)) (effect_together (g.S.Shelf.agrees c.prepare-in-Effect.new.shelf) c.in-Effect.unit.now c.in-Effect.dropin.now) _ ready_status ready_text c.prepare-in-Effect.result c.finish-in-Effect.result
    c.prepare-in-Effect.ensures.prepares c.prepare-in-Effect.ensures.reads_for_the_unit.reads_for_a_name c.prepare-in-Effect.ensures.reads_for_the_unit.fault_rose c.finish-in-Effect.ensures.finishes)

pub returns-in-Tighten-clause-runs : goal.returns-in-Tighten-clause-runs
returns-in-Tighten-clause-runs g c =
    rw c.in-Tighten.is
    (let wishes = wishes_by (λ wish. wish.must_open) (λ wish shown answer. (goal.dyn-2-members g).post (wish.test.vtable, wish.test.value) (shown, tt) answer) c.args.wishes.now in
    ran (tighten_laws (g.S.Shelf.agrees c.prepare-in-Tighten.new.shelf) c.in-Tighten.unit.now c.in-Tighten.keep.now wishes) (tighten_together c.in-Tighten.unit.now c.in-Tighten.keep.now wishes (g.S.Shelf.agrees c.prepare-in-Tighten.new.shelf)) _ ready_status ready_text c.prepare-in-Tighten.result c.finish-in-Tighten.result
    c.prepare-in-Tighten.ensures.prepares c.prepare-in-Tighten.ensures.reads_for_the_unit.reads_for_a_name c.prepare-in-Tighten.ensures.reads_for_the_unit.fault_rose c.finish-in-Tighten.ensures.finishes)

pub returns-in-Why-clause-runs : goal.returns-in-Why-clause-runs
returns-in-Why-clause-runs g c =
    rw c.in-Why.is
    (ran (laws_over (g.S.Shelf.agrees c.prepare-in-Why.new.shelf) (why_laws c.in-Why.unit.now (map (λ word. word.now) c.in-Why.words.now))) (why_together (g.S.Shelf.agrees c.prepare-in-Why.new.shelf) c.in-Why.unit.now (map (λ word. word.now) c.in-Why.words.now)) _ ready_status ready_text c.prepare-in-Why.result c.finish-in-Why.result
    c.prepare-in-Why.ensures.prepares c.prepare-in-Why.ensures.reads_for_the_unit.reads_for_a_name c.prepare-in-Why.ensures.reads_for_the_unit.fault_rose c.finish-in-Why.ensures.finishes)

pub returns-in-Lines-clause-runs : goal.returns-in-Lines-clause-runs
returns-in-Lines-clause-runs g c =
    rw c.in-Lines.is
    (ran (laws_over (g.S.Shelf.agrees c.prepare-in-Lines.new.shelf) (lines_laws c.in-Lines.unit.now)) (lines_together (g.S.Shelf.agrees c.prepare-in-Lines.new.shelf) c.in-Lines.unit.now) _ ready_status ready_text c.prepare-in-Lines.result c.finish-in-Lines.result
    c.prepare-in-Lines.ensures.prepares c.prepare-in-Lines.ensures.reads_for_the_unit.reads_for_a_name c.prepare-in-Lines.ensures.reads_for_the_unit.fault_rose c.finish-in-Lines.ensures.finishes)

pub returns-in-Score-clause-runs : goal.returns-in-Score-clause-runs
returns-in-Score-clause-runs g c =
    rw c.in-Score.is
    (let stored = stored_by (λ test. test.id) (λ test. test.range) (λ test shown answer. (goal.dyn-1-members g).post (test.check.vtable, test.check.value) (shown, tt) answer) c.args.tests.now in
    ran (laws_over (g.S.Shelf.agrees c.prepare-in-Score.new.shelf) (score_laws c.in-Score.unit.now c.in-Score.policy.now c.in-Score.threshold stored)) (score_together (g.S.Shelf.agrees c.prepare-in-Score.new.shelf) c.in-Score.unit.now c.in-Score.policy.now c.in-Score.threshold stored) _ score_status scored_text c.prepare-in-Score.result c.finish-in-Score.result
    c.prepare-in-Score.ensures.prepares c.prepare-in-Score.ensures.reads_for_the_unit.reads_for_a_name c.prepare-in-Score.ensures.reads_for_the_unit.fault_rose c.finish-in-Score.ensures.finishes)

pub returns-in-Check-clause-runs : goal.returns-in-Check-clause-runs
returns-in-Check-clause-runs g c =
    rw c.in-Check.is
    (ran (check_laws (g.S.Shelf.agrees c.prepare-in-Check.new.shelf) c.in-Check.unit.now c.in-Check.name.now c.in-Check.path.now) (check_together c.in-Check.unit.now c.in-Check.name.now c.in-Check.path.now (g.S.Shelf.agrees c.prepare-in-Check.new.shelf)) _ check_status checked_text c.prepare-in-Check.result c.finish-in-Check.result
    c.prepare-in-Check.ensures.prepares c.prepare-in-Check.ensures.reads_for_the_unit.reads_for_a_name c.prepare-in-Check.ensures.reads_for_the_unit.fault_rose c.finish-in-Check.ensures.finishes)

pub returns-in-Fleet-clause-runs : goal.returns-in-Fleet-clause-runs
returns-in-Fleet-clause-runs g c =
    rw c.in-Fleet.is
    (let stored = stored_by (λ test. test.id) (λ test. test.range) (λ test shown answer. (goal.dyn-1-members g).post (test.check.vtable, test.check.value) (shown, tt) answer) c.args.tests.now in
    ran (laws_over (g.S.Shelf.agrees c.prepare-in-Fleet.new.shelf) (fleet_laws c.in-Fleet.policy.now stored)) (fleet_together (g.S.Shelf.agrees c.prepare-in-Fleet.new.shelf) c.in-Fleet.policy.now stored) _ fleet_status fleet_text c.prepare-in-Fleet.result c.finish-in-Fleet.result
    c.prepare-in-Fleet.ensures.prepares (λ fault. tt) c.prepare-in-Fleet.ensures.fault_rose c.finish-in-Fleet.ensures.finishes)

pub returns-in-Sample-clause-runs : goal.returns-in-Sample-clause-runs
returns-in-Sample-clause-runs g c =
    rw c.in-Sample.is
    (ran (sample_laws c.in-Sample.number) (sample_together c.in-Sample.number) _ sample_status sampled_text c.prepare-in-Sample.result c.finish-in-Sample.result
    c.prepare-in-Sample.ensures.prepares c.prepare-in-Sample.ensures.reads_nothing (quiet _ _ c.prepare-in-Sample.result refl c.prepare-in-Sample.ensures.reads_nothing) c.finish-in-Sample.ensures.finishes)

pub returns-in-Help-clause-reads_in_order : goal.returns-in-Help-clause-reads_in_order
returns-in-Help-clause-reads_in_order g c =
    rw c.in-Help.is
    (asked_fixed g.S.Shelf.asks (g.S.Shelf.agrees c.args.shelf.now) c.args.shelf.now c.help.result Done c.finish.result _ refl
    c.help.ensures.status c.finish.ensures.finishes)

pub returns-in-Version-clause-reads_in_order : goal.returns-in-Version-clause-reads_in_order
returns-in-Version-clause-reads_in_order g c =
    rw c.in-Version.is
    (asked_fixed g.S.Shelf.asks (g.S.Shelf.agrees c.args.shelf.now) c.args.shelf.now c.version.result Done c.finish-in-Version.result _ refl c.version.ensures.status c.finish-in-Version.ensures.finishes)

pub returns-in-Filter-clause-reads_in_order : goal.returns-in-Filter-clause-reads_in_order
returns-in-Filter-clause-reads_in_order g c =
    rw c.in-Filter.is
    (order_finished g.S.Shelf.asks (g.S.Shelf.agrees c.prepare.new.shelf) (λ files. input_asks files c.in-Filter.unit.now) c.args.shelf.now c.prepare.new.shelf (laws_over (g.S.Shelf.agrees c.prepare.new.shelf) (filter_laws c.in-Filter.unit.now)) (filter_together (g.S.Shelf.agrees c.prepare.new.shelf) c.in-Filter.unit.now) filter_status filters_text c.prepare.result c.finish-in-Filter.result _
    c.prepare.ensures.prepares c.finish-in-Filter.ensures.finishes c.prepare.ensures.asks_in_order)

pub returns-in-Plan-clause-reads_in_order : goal.returns-in-Plan-clause-reads_in_order
returns-in-Plan-clause-reads_in_order g c =
    rw c.in-Plan.is
    (order_finished g.S.Shelf.asks (g.S.Shelf.agrees c.prepare-in-Plan.new.shelf) (λ files. input_asks files c.in-Plan.unit.now) c.args.shelf.now c.prepare-in-Plan.new.shelf (laws_over (g.S.Shelf.agrees c.prepare-in-Plan.new.shelf) (plan_laws c.in-Plan.unit.now)) (plan_together (g.S.Shelf.agrees c.prepare-in-Plan.new.shelf) c.in-Plan.unit.now) plan_status mounts_text c.prepare-in-Plan.result c.finish-in-Plan.result _
    c.prepare-in-Plan.ensures.prepares c.finish-in-Plan.ensures.finishes c.prepare-in-Plan.ensures.asks_in_order)

pub returns-in-Judge-clause-reads_in_order : goal.returns-in-Judge-clause-reads_in_order
returns-in-Judge-clause-reads_in_order g c =
    rw c.in-Judge.is
    (c.answer.ensures.asks_in_order)

pub returns-in-Replay-clause-reads_in_order : goal.returns-in-Replay-clause-reads_in_order
returns-in-Replay-clause-reads_in_order g c =
    rw c.in-Replay.is
    (c.answer-in-Replay.ensures.asks_in_order)

pub returns-in-Derive-clause-reads_in_order : goal.returns-in-Derive-clause-reads_in_order
returns-in-Derive-clause-reads_in_order g c =
    rw c.in-Derive.is
    (order_finished g.S.Shelf.asks (g.S.Shelf.agrees c.prepare-in-Derive.new.shelf) (λ files. asks_with_file files c.in-Derive.unit.now c.in-Derive.script.now) c.args.shelf.now c.prepare-in-Derive.new.shelf (laws_over (g.S.Shelf.agrees c.prepare-in-Derive.new.shelf) (derive_laws c.in-Derive.unit.now c.in-Derive.script.now)) (derive_together (g.S.Shelf.agrees c.prepare-in-Derive.new.shelf) c.in-Derive.unit.now c.in-Derive.script.now) ready_status ready_text c.prepare-in-Derive.result c.finish-in-Derive.result _
    c.prepare-in-Derive.ensures.prepares c.finish-in-Derive.ensures.finishes c.prepare-in-Derive.ensures.asks_in_order)

pub returns-in-Effect-clause-reads_in_order : goal.returns-in-Effect-clause-reads_in_order
returns-in-Effect-clause-reads_in_order g c =
    rw c.in-Effect.is
    (order_finished g.S.Shelf.asks (g.S.Shelf.agrees c.prepare-in-Effect.new.shelf) (λ files. asks_with_file files c.in-Effect.unit.now c.in-Effect.dropin.now) c.args.shelf.now c.prepare-in-Effect.new.shelf (laws_over (g.S.Shelf.agrees c.prepare-in-Effect.new.shelf) (effect_laws c.in-Effect.unit.now c.in-Effect.dropin.now)) (effect_together (g.S.Shelf.agrees c.prepare-in-Effect.new.shelf) c.in-Effect.unit.now c.in-Effect.dropin.now) ready_status ready_text c.prepare-in-Effect.result c.finish-in-Effect.result _
    c.prepare-in-Effect.ensures.prepares c.finish-in-Effect.ensures.finishes c.prepare-in-Effect.ensures.asks_in_order)

pub returns-in-Tighten-clause-reads_in_order : goal.returns-in-Tighten-clause-reads_in_order
returns-in-Tighten-clause-reads_in_order g c =
    rw c.in-Tighten.is
    (let wishes = wishes_by (λ wish. wish.must_open) (λ wish shown answer. (goal.dyn-2-members g).post (wish.test.vtable, wish.test.value) (shown, tt) answer) c.args.wishes.now in
    order_finished g.S.Shelf.asks (g.S.Shelf.agrees c.prepare-in-Tighten.new.shelf) (λ files. asks_with_file files c.in-Tighten.unit.now c.in-Tighten.keep.now) c.args.shelf.now c.prepare-in-Tighten.new.shelf (tighten_laws (g.S.Shelf.agrees c.prepare-in-Tighten.new.shelf) c.in-Tighten.unit.now c.in-Tighten.keep.now wishes) (tighten_together c.in-Tighten.unit.now c.in-Tighten.keep.now wishes (g.S.Shelf.agrees c.prepare-in-Tighten.new.shelf)) ready_status ready_text c.prepare-in-Tighten.result c.finish-in-Tighten.result _
    c.prepare-in-Tighten.ensures.prepares c.finish-in-Tighten.ensures.finishes c.prepare-in-Tighten.ensures.asks_in_order)

pub returns-in-Why-clause-reads_in_order : goal.returns-in-Why-clause-reads_in_order
returns-in-Why-clause-reads_in_order g c =
    rw c.in-Why.is
    (order_finished g.S.Shelf.asks (g.S.Shelf.agrees c.prepare-in-Why.new.shelf) (λ files. input_asks files c.in-Why.unit.now) c.args.shelf.now c.prepare-in-Why.new.shelf (laws_over (g.S.Shelf.agrees c.prepare-in-Why.new.shelf) (why_laws c.in-Why.unit.now (map (λ word. word.now) c.in-Why.words.now))) (why_together (g.S.Shelf.agrees c.prepare-in-Why.new.shelf) c.in-Why.unit.now (map (λ word. word.now) c.in-Why.words.now)) ready_status ready_text c.prepare-in-Why.result c.finish-in-Why.result _
    c.prepare-in-Why.ensures.prepares c.finish-in-Why.ensures.finishes c.prepare-in-Why.ensures.asks_in_order)

pub returns-in-Lines-clause-reads_in_order : goal.returns-in-Lines-clause-reads_in_order
returns-in-Lines-clause-reads_in_order g c =
    rw c.in-Lines.is
    (order_finished g.S.Shelf.asks (g.S.Shelf.agrees c.prepare-in-Lines.new.shelf) (λ files. input_asks files c.in-Lines.unit.now) c.args.shelf.now c.prepare-in-Lines.new.shelf (laws_over (g.S.Shelf.agrees c.prepare-in-Lines.new.shelf) (lines_laws c.in-Lines.unit.now)) (lines_together (g.S.Shelf.agrees c.prepare-in-Lines.new.shelf) c.in-Lines.unit.now) ready_status ready_text c.prepare-in-Lines.result c.finish-in-Lines.result _
    c.prepare-in-Lines.ensures.prepares c.finish-in-Lines.ensures.finishes c.prepare-in-Lines.ensures.asks_in_order)

pub returns-in-Score-clause-reads_in_order : goal.returns-in-Score-clause-reads_in_order
returns-in-Score-clause-reads_in_order g c =
    rw c.in-Score.is
    (let stored = stored_by (λ test. test.id) (λ test. test.range) (λ test shown answer. (goal.dyn-1-members g).post (test.check.vtable, test.check.value) (shown, tt) answer) c.args.tests.now in
    order_finished g.S.Shelf.asks (g.S.Shelf.agrees c.prepare-in-Score.new.shelf) (λ files. asks_with_file files c.in-Score.unit.now c.in-Score.policy.now) c.args.shelf.now c.prepare-in-Score.new.shelf (laws_over (g.S.Shelf.agrees c.prepare-in-Score.new.shelf) (score_laws c.in-Score.unit.now c.in-Score.policy.now c.in-Score.threshold stored)) (score_together (g.S.Shelf.agrees c.prepare-in-Score.new.shelf) c.in-Score.unit.now c.in-Score.policy.now c.in-Score.threshold stored) score_status scored_text c.prepare-in-Score.result c.finish-in-Score.result _
    c.prepare-in-Score.ensures.prepares c.finish-in-Score.ensures.finishes c.prepare-in-Score.ensures.asks_in_order)

pub returns-in-Check-clause-reads_in_order : goal.returns-in-Check-clause-reads_in_order
returns-in-Check-clause-reads_in_order g c =
    rw c.in-Check.is
    (order_finished g.S.Shelf.asks (g.S.Shelf.agrees c.prepare-in-Check.new.shelf) (λ files. asks_with_file files c.in-Check.unit.now c.in-Check.path.now) c.args.shelf.now c.prepare-in-Check.new.shelf (check_laws (g.S.Shelf.agrees c.prepare-in-Check.new.shelf) c.in-Check.unit.now c.in-Check.name.now c.in-Check.path.now) (check_together c.in-Check.unit.now c.in-Check.name.now c.in-Check.path.now (g.S.Shelf.agrees c.prepare-in-Check.new.shelf)) check_status checked_text c.prepare-in-Check.result c.finish-in-Check.result _
    c.prepare-in-Check.ensures.prepares c.finish-in-Check.ensures.finishes c.prepare-in-Check.ensures.asks_in_order)

pub returns-in-Fleet-clause-reads_in_order : goal.returns-in-Fleet-clause-reads_in_order
returns-in-Fleet-clause-reads_in_order g c =
    rw c.in-Fleet.is
    (let stored = stored_by (λ test. test.id) (λ test. test.range) (λ test shown answer. (goal.dyn-1-members g).post (test.check.vtable, test.check.value) (shown, tt) answer) c.args.tests.now in
    order_finished g.S.Shelf.asks (g.S.Shelf.agrees c.prepare-in-Fleet.new.shelf) (λ files. fleet_asks files c.in-Fleet.policy.now stored) c.args.shelf.now c.prepare-in-Fleet.new.shelf (laws_over (g.S.Shelf.agrees c.prepare-in-Fleet.new.shelf) (fleet_laws c.in-Fleet.policy.now stored)) (fleet_together (g.S.Shelf.agrees c.prepare-in-Fleet.new.shelf) c.in-Fleet.policy.now stored) fleet_status fleet_text c.prepare-in-Fleet.result c.finish-in-Fleet.result _
    c.prepare-in-Fleet.ensures.prepares c.finish-in-Fleet.ensures.finishes c.prepare-in-Fleet.ensures.asks_in_order)

pub returns-in-Sample-clause-reads_in_order : goal.returns-in-Sample-clause-reads_in_order
returns-in-Sample-clause-reads_in_order g c =
    rw c.in-Sample.is
    (order_finished g.S.Shelf.asks (g.S.Shelf.agrees c.args.shelf.now) (λ files. []) c.args.shelf.now c.args.shelf.now (sample_laws c.in-Sample.number) (sample_together c.in-Sample.number) sample_status sampled_text c.prepare-in-Sample.result c.finish-in-Sample.result _
    c.prepare-in-Sample.ensures.prepares c.finish-in-Sample.ensures.finishes
    (order_quiet g.S.Shelf.asks (g.S.Shelf.agrees c.args.shelf.now) (λ files. []) c.args.shelf.now c.args.shelf.now c.prepare-in-Sample.result c.prepare-in-Sample.ensures.reads_nothing (asked_so g.S.Shelf.asks (g.S.Shelf.agrees c.args.shelf.now) [] c.args.shelf.now c.args.shelf.now Whole refl)))
