use Rattle.std.proofs.Common.{Contains, subst, sym}
use Rattle.std.specs.List.{All}
use Rattle.asked_service.specs.kernel_laws.Questions.{questions}
use Rattle.why_command.specs.lines_command.Lines.{IsListed}
use Rattle.why_command.proofs.lines_command.lines.push_opened.Goals as goal

pub push_questions-requires : goal.push_questions-requires
push_questions-requires c =
    let listed = subst (IsListed c.args.calls.now c.args.site.now) c.in-Opens.is c.requires.listed in
    record { asked = subst (All (Contains (questions c.args.calls.now c.args.site.now))) (sym c.as_slice.ensures.value) listed }
