use Rattle.std.proofs.Common.{◌≡◌, ◌++◌, subst}
use Rattle.std.specs.Prelude.{OnOk}
use Rattle.launcher.specs.Launch.{outside_steps}
use Rattle.launcher.proofs.identity.drop_steps.Goals as goal

pub returns : goal.returns
returns c =
    subst (λ set. OnOk c.outside_steps.result (c.outside_steps.new.steps ≡ c.args.steps.now ++ outside_steps c.args.table.now.calls set))
    c.with_held-bounding.ensures.adds_what_is_kept c.outside_steps.ensures
