use Rattle.std.proofs.Common.{◌≡◌, Some}
use Rattle.unit_inputs.proofs.FileCommands.{at_stop}
use Rattle.unit_inputs.specs.Inputs.{inputs_of, inputs_view}
use Rattle.unit_inputs.specs.Settled.{AreSettled}
use Rattle.check_command.specs.Prepared.{IsPrepared}
use Rattle.check_command.proofs.Steps.{is_prepared, stops_at_file, stops_at_inputs, stops_at_settings}
use Rattle.unit_inputs.specs.Asking.{asks_with_file}
use Rattle.unit_inputs.specs.host_io.Agreeing.{ForFiles}
use Rattle.unit_inputs.specs.host_io.Calls.{Whole}
use Rattle.unit_inputs.specs.declared.settling.SettledUnit.{SettledUnit}
use Rattle.filter_check.specs.bpf_code.declared.machine.Insn.{Insn}
use Rattle.std.proofs.Common.{List}
use Rattle.unit_inputs.proofs.Ordering.{order_quiet_stopped, stops_at_file as asked_at_file, stops_before_file, with_file}
use Rattle.check_command.proofs.preparing.read_all.Goals as goal

pub returns-in_err-inputs-clause-prepares : goal.returns-in_err-inputs-clause-prepares
returns-in_err-inputs-clause-prepares g c =
    at_stop (λ result. ForFiles (g.S.Shelf.agrees c.read_inputs.new.shelf) (λ files. IsPrepared files c.args.unit.now c.args.path.now result))
    c.from_residual.result c.in_err-inputs.field-0.0 c.from_residual.ensures.1
    (stops_at_inputs (λ files inputs. inputs_of files c.args.unit.now ≡ Some (inputs_view inputs))
    (g.S.Shelf.agrees c.read_inputs.new.shelf) c.args.unit.now c.args.path.now c.in_err-inputs.field-0.0
    c.in_err-inputs.ensures.reads_by_the_files)

pub returns-in_err-made-clause-prepares : goal.returns-in_err-made-clause-prepares
returns-in_err-made-clause-prepares g c =
    at_stop (λ result. ForFiles (g.S.Shelf.agrees c.read_program.new.shelf) (λ files. IsPrepared files c.args.unit.now c.args.path.now result))
    c.from_residual-in_err-made.result c.in_err-made.field-0.0 c.from_residual-in_err-made.ensures.1
    (stops_at_file (g.S.Shelf.agrees c.read_inputs.new.shelf) (g.S.Shelf.agrees c.read_program.new.shelf) c.args.unit.now c.args.path.now
    c.in_ok-inputs.inputs c.in_err-made.field-0.0
    c.in_err-made.ensures.answers_stay c.in_ok-inputs.ensures.reads_by_the_files c.in_err-made.ensures.reads_the_program)

pub returns-in_err-one-clause-prepares : goal.returns-in_err-one-clause-prepares
returns-in_err-one-clause-prepares g c =
    at_stop (λ result. ForFiles (g.S.Shelf.agrees c.read_program.new.shelf) (λ files. IsPrepared files c.args.unit.now c.args.path.now result))
    c.from_residual-in_err-one.result c.in_err-one.field-0.0 c.from_residual-in_err-one.ensures.1
    (stops_at_settings (λ one. (one.inputs ≡ c.in_ok-inputs.inputs) × AreSettled (inputs_view c.in_ok-inputs.inputs) one.settings.value)
    (g.S.Shelf.agrees c.read_program.new.shelf) c.args.unit.now c.args.path.now c.in_ok-inputs.inputs c.in_ok-made.made c.in_err-one.field-0.0
    (λ files agree. c.in_ok-inputs.ensures.reads_by_the_files files (c.in_ok-made.ensures.answers_stay files agree))
    c.in_ok-made.ensures.reads_the_program
    c.in_err-one.ensures.settles)

pub returns-clause-prepares : goal.returns-clause-prepares
returns-clause-prepares g c =
    is_prepared (g.S.Shelf.agrees c.read_program.new.shelf) c.args.unit.now c.args.path.now c.in_ok-inputs.inputs c.in_ok-made.made c.in_ok-one.one
    c.in_ok-one.ensures.settles.1.0 c.in_ok-one.ensures.settles.0 (λ files agree. c.in_ok-inputs.ensures.reads_by_the_files files (c.in_ok-made.ensures.answers_stay files agree))
    c.in_ok-made.ensures.reads_the_program

pub returns-in_err-inputs-clause-asks_in_order : goal.returns-in_err-inputs-clause-asks_in_order
returns-in_err-inputs-clause-asks_in_order g c =
    stops_before_file g.S.Shelf.asks (g.S.Shelf.agrees c.read_inputs.new.shelf) c.args.unit.now c.args.path.now c.args.shelf.now _
    c.from_residual.result c.in_err-inputs.field-0.0 c.from_residual.ensures.1
    c.in_err-inputs.ensures.reads_by_the_files c.in_err-inputs.ensures.asks_in_order

pub returns-in_err-made-clause-asks_in_order : goal.returns-in_err-made-clause-asks_in_order
returns-in_err-made-clause-asks_in_order g c =
    asked_at_file g.S.Shelf.asks (g.S.Shelf.agrees c.read_program.new.shelf) c.args.unit.now c.args.path.now c.args.shelf.now
    c.read_inputs.new.shelf (List Insn) c.read_program.new.shelf (g.S.Shelf.agrees c.read_inputs.new.shelf) c.in_ok-inputs.inputs
    c.from_residual-in_err-made.result c.in_err-made.field-0.0 c.from_residual-in_err-made.ensures.1
    c.in_err-made.ensures.answers_stay c.in_ok-inputs.ensures.reads_by_the_files c.in_ok-inputs.ensures.asks_in_order
    c.in_err-made.ensures.asks_for_it

pub returns-in_err-one-clause-asks_in_order : goal.returns-in_err-one-clause-asks_in_order
returns-in_err-one-clause-asks_in_order g c =
    order_quiet_stopped g.S.Shelf.asks (g.S.Shelf.agrees c.read_program.new.shelf)
    (λ files. asks_with_file files c.args.unit.now c.args.path.now) c.args.shelf.now c.read_program.new.shelf SettledUnit
    c.from_residual-in_err-one.result c.in_err-one.field-0.0 c.from_residual-in_err-one.ensures.1 c.in_err-one.ensures.reads_nothing
    (with_file g.S.Shelf.asks (g.S.Shelf.agrees c.read_program.new.shelf) c.args.unit.now c.args.path.now c.args.shelf.now c.read_inputs.new.shelf
    c.read_program.new.shelf (g.S.Shelf.agrees c.read_inputs.new.shelf) c.in_ok-inputs.inputs Whole
    c.in_ok-made.ensures.answers_stay c.in_ok-inputs.ensures.reads_by_the_files c.in_ok-inputs.ensures.asks_in_order
    c.in_ok-made.ensures.asks_for_it)

pub returns-clause-asks_in_order : goal.returns-clause-asks_in_order
returns-clause-asks_in_order g c =
    with_file g.S.Shelf.asks (g.S.Shelf.agrees c.read_program.new.shelf) c.args.unit.now c.args.path.now c.args.shelf.now c.read_inputs.new.shelf
    c.read_program.new.shelf (g.S.Shelf.agrees c.read_inputs.new.shelf) c.in_ok-inputs.inputs Whole
    c.in_ok-made.ensures.answers_stay c.in_ok-inputs.ensures.reads_by_the_files c.in_ok-inputs.ensures.asks_in_order
    c.in_ok-made.ensures.asks_for_it
