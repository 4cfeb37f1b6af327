use Rattle.std.proofs.Common.{arith}
use Rattle.std.proofs.lemmas.Result.{err_from_is_err_and}
use Rattle.unit_names.proofs.Taken.{letter_taken, letter_refused}
use Rattle.unit_names.proofs.expansion.push_specifier.Goals as goal

pub returns-in_err-push_letter-in-Some : goal.returns-in_err-push_letter-in-Some
returns-in_err-push_letter-in-Some c =
    let first = rw c.in-Some.is at c.split_first.ensures.cases in
    let p = err_from_is_err_and c.from_residual.result c.from_residual.ensures.1 in
    rw (p.1, p.2)
    (letter_refused c.args.systemd c.args.name.now c.args.bytes.now.items c.push_letter.new.bytes.items c.args.behind.now
    c.in-Some.rest.now c.in-Some.letter.now c.in_err-push_letter-in-Some.field-0.0 first.0 c.in_err-push_letter-in-Some.ensures)

pub returns-in_ok-push_letter-in-Some : goal.returns-in_ok-push_letter-in-Some
returns-in_ok-push_letter-in-Some c =
    let first = rw c.in-Some.is at c.split_first.ensures.cases in (
      letter_taken c.args.systemd c.args.name.now c.args.bytes.now.items c.push_letter.new.bytes.items c.args.behind.now
          c.in-Some.rest.now c.in-Some.letter.now first.0 c.in_ok-push_letter-in-Some.ensures,
      omega (arith, first.1),
    )
