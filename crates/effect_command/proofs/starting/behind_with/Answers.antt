use Rattle.std.proofs.Common.{◌≡◌, subst}
use Rattle.std.specs.Prelude.{IfOk}
use Rattle.effect_command.specs.Lines.{with_line}
use Rattle.effect_command.proofs.Started.{behind_tells}
use Rattle.effect_command.proofs.starting.behind_with.Goals as goal

pub returns-in-Refused : goal.returns-in-Refused
returns-in-Refused c =
    rw c.in-Refused.is (behind_tells c.with_line.result c.in-Refused.line c.refuse.result c.refuse.ensures.tells_the_line
    (subst (λ own. IfOk c.with_line.result (λ told. told.items ≡ with_line own)) c.as_slice.ensures.value
    c.with_line.ensures.stands_behind_with))
