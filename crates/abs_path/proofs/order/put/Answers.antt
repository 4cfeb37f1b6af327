use Rattle.std.proofs.Common.{◌≡◌, subst, arith}
use Rattle.std.proofs.lemmas.Grind.{common_steps}
use Rattle.abs_path.specs.ByteOrder.{placed, AreAscending}
use Rattle.abs_path.proofs.Placed.{placed_ascending}
use Rattle.abs_path.proofs.order.put.Goals as goal

pub returns-in_ok-insert-in-Some-clause-stays_ascending : goal.returns-in_ok-insert-in-Some-clause-stays_ascending
returns-in_ok-insert-in-Some-clause-stays_ascending c up =
    let same : placed c.args.path.now c.args.paths.now.items ≡ c.insert.new.self.items = grind (arith, common_steps, c.in_ok-insert-in-Some.ensures.items, c.in_ok-copy-in-Some.ensures.same, c.in-Some.ensures) in
    subst AreAscending same (placed_ascending c.args.path.now c.args.paths.now.items up)
