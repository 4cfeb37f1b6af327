use Rattle.std.proofs.Common.{rules}
use Rattle.std.proofs.lemmas.List.Sorted.{answers_always}
use Rattle.call_table.specs.Table.{calls_in}
use Rattle.kernel_model.proofs.Search.{found_at, found_nowhere}
use Rattle.kernel_model.proofs.kernel_calls.rules.place_numbered.Goals as goal

-- the closure gives a line's number
pub returns-in-Ok : goal.returns-in-Ok
returns-in-Ok c =
    let equal = c.in-Ok.ensures.position (λ line. line.number) (answers_always _ _ _ (λ f a r g called. search rules)) in
    found_at (calls_in c.args.calls.now c.args.abi) c.by_number_in-order.result.now c.by_number_in-order.ensures.ascends c.args.nr
    c.in-Ok.at c.in-Ok.ensures.bound equal

pub returns-in-Err : goal.returns-in-Err
returns-in-Err c =
    let parted = c.in-Err.ensures.position (λ line. line.number) (answers_always _ _ _ (λ f a r g called. search rules)) in
    found_nowhere (calls_in c.args.calls.now c.args.abi) c.by_number_in-order.result.now c.by_number_in-order.ensures.ascends c.args.nr
    c.in-Err.field-0 parted
