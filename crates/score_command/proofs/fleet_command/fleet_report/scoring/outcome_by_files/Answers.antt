use Rattle.std.proofs.Common.{◌≡◌, Ok, subst}
use Rattle.unit_inputs.specs.host_io.Agreeing.{ForFiles}
use Rattle.unit_inputs.specs.host_io.Calls.{AsksExactly, Whole}
use Rattle.report_text.specs.dropin_merge.Asking.{resolve_asks}
use Rattle.report_text.specs.dropin_merge.Resolving.{resolved_of}
use Rattle.unit_inputs.specs.unit_names.Names.{text_of}
use Rattle.score_command.specs.fleet_command.fleet_report.Asking.{row_asks}
use Rattle.score_command.proofs.Came.{outcome_read}
use Rattle.score_command.proofs.FleetReportAsked.{only_memory}
use Rattle.score_command.proofs.fleet_command.fleet_report.scoring.outcome_by_files.Goals as goal

pub returns-in-Ok-clause-asks_in_order : goal.returns-in-Ok-clause-asks_in_order
returns-in-Ok-clause-asks_in_order g c =
    only_memory g.S.Shelf.asks (g.S.Shelf.agrees c.resolve.new.shelf) c.args.shelf.now c.resolve.new.shelf (λ files. row_asks files c.args.name.now) c.outcome_of.result c.outcome_of.ensures.only_memory_fails
    (subst (λ text. ForFiles (g.S.Shelf.agrees c.resolve.new.shelf) (λ files. AsksExactly g.S.Shelf.asks c.args.shelf.now c.resolve.new.shelf (resolve_asks files text) Whole)) c.text.ensures.whole_text c.in-Ok.ensures.asks_in_order)

pub returns-in-Ok-clause-comes_of_its_files : goal.returns-in-Ok-clause-comes_of_its_files
returns-in-Ok-clause-comes_of_its_files g c =
    outcome_read c.args.calls.now c.args.site.now c.args.policy.now _ (g.S.Shelf.agrees c.resolve.new.shelf) (text_of c.args.name.now) c.systemd.result c.in-Ok.unit
    c.read_by.new.self c.outcome_of.result c.systemd.ensures.systemd
    (subst (λ text. ForFiles (g.S.Shelf.agrees c.resolve.new.shelf) (λ files. resolved_of files text ≡ Ok c.in-Ok.unit)) c.text.ensures.whole_text
    c.in-Ok.ensures.resolves_by_the_files)
    c.read_by.ensures.same_files c.outcome_of.ensures.comes_of_it
