use Rattle.std.proofs.Common.{◌≡◌, ◌++◌, sym, subst, List}
use Rattle.std.specs.Prelude.{OnOk}
use Rattle.ceilings.specs.kernel_model.declared.kernel_calls.call.Call.{Call}
use Rattle.ceilings.specs.kernel_laws.Launched.{launch_of}
use Rattle.ceilings.proofs.OfKernelWays.Rows.{known_at}
use Rattle.open_calls.proofs.Listed.{row_is}
use Rattle.open_calls.proofs.service.Service.push_path.Goals as goal

pub push_row-requires-clause-known : goal.push_row-requires-clause-known
push_row-requires-clause-known c = known_at c.args.self.now.world.now.site c.requires.served.offers.site c.args.at c.in-Some.row.now
    (sym c.in-Some.ensures)

pub push_row-requires-clause-of_the_row : goal.push_row-requires-clause-of_the_row
push_row-requires-clause-of_the_row c = c.leads_to.ensures.of_the_row
    (launch_of c.args.self.now.world.now) c.in-Some.row.now c.args.self.now.its_ceiling (sym c.in-Some.ensures)

pub returns : goal.returns
returns c =
    let same = row_is (launch_of c.args.self.now.world.now) c.args.self.now.program.now c.args.at c.args.wish c.in-Some.row.now (sym c.in-Some.ensures) in
    let P : List Call → Type 0 = λ calls. OnOk c.push_row.result (c.push_row.new.calls.items ≡ c.args.calls.now.items ++ calls) in
    subst P same c.push_row.ensures
