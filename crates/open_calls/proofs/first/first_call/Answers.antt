use Rattle.std.proofs.Common.{List, ℕ, ap, ap₂, ◌∙◌}
use Rattle.ceilings.specs.kernel_laws.Launched.{launch_of}
use Rattle.ceilings.specs.kernel_model.declared.kernel_calls.rule.Rule.{Rule}
use Rattle.open_calls.specs.Firsts.{first_as}
use Rattle.open_calls.specs.declared.first.FirstCall.{FirstCall}
use Rattle.open_calls.proofs.first.first_call.Goals as goal

pub returns : goal.returns
returns c =
    let line = c.line_of-line.result.now in
    let made : List ℕ → Rule → FirstCall = λ args rule. record { abi = line.abi; nr = line.number; args = args; rule = rule } in
    ap₂ made c.args_of.ensures c.own_rule.ensures ∙ ap (first_as (launch_of c.args.world.now) c.args.kind) c.line_of-line.ensures
