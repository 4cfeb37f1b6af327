use Rattle.unit_inputs.proofs.Asking.{went_quiet}
use Rattle.unit_inputs.specs.Asking.{site_asks}
use Rattle.unit_inputs.proofs.site.read_site.Goals as goal

pub returns-clause-asks_for_it : goal.returns-clause-asks_for_it
returns-clause-asks_for_it g c =
    went_quiet g.S.Shelf.asks c.args.shelf.now c.read_input.new.shelf site_asks c.site_of_bytes.result
    c.site_of_bytes.ensures.reads_nothing c.in_ok-bytes.ensures.asks_for_it
