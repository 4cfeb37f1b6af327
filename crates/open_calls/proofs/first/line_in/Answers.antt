use Rattle.std.proofs.Common.{◌∙◌, ap, sym}
use Rattle.std.specs.Prelude.{option_copied, option_and_then}
use Rattle.ceilings.specs.call_table.Lookups.{named}
use Rattle.ceilings.specs.call_table.Table.{calls_in}
use Rattle.open_calls.specs.chosen_calls.First.{lets_name, names_of}
use Rattle.ceilings.specs.kernel_laws.Launched.{launch_of}
use Rattle.open_calls.proofs.Finding.{found_name}
use Rattle.open_calls.proofs.first.line_in.Goals as goal

pub returns-in_err-name : goal.returns-in_err-name
returns-in_err-name c =
    let name = found_name (lets_name (launch_of c.args.world.now) c.args.kind c.args.abi) c.names_of.result.now (names_of c.args.kind) c.first_name.result c.names_of.ensures c.first_name.ensures in
    ap option_copied c.from_residual.ensures
    ∙ sym (ap (option_and_then (λ name. named name (calls_in c.args.world.now.calls c.args.abi)))
    (name ∙ ap option_copied c.in_err-name.was))

pub returns : goal.returns
returns c =
    let name = found_name (lets_name (launch_of c.args.world.now) c.args.kind c.args.abi) c.names_of.result.now (names_of c.args.kind) c.first_name.result c.names_of.ensures c.first_name.ensures in
    c.line_named.ensures ∙ sym
    (ap (option_and_then (λ name. named name (calls_in c.args.world.now.calls c.args.abi))) (name ∙ ap option_copied c.in_ok-name.was))
