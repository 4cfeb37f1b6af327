use Rattle.std.proofs.Common.{◌∙◌, ap, codes, arith}
use Rattle.std.specs.Prelude.{◌&&◌, ◌||◌, not}
use Rattle.std.specs.List.{list_any}
use Rattle.asked_service.specs.call_table.Members.{is_first}
use Rattle.asked_service.specs.call_table.Table.{every_call}
use Rattle.derive_command.specs.trace_profile.Used.{is_in_default, is_line_of}
use Rattle.derive_command.proofs.trace_profile.used.mark_used.Goals as goal

pub returns : goal.returns
returns c = λ at lt.
    let table = c.args.calls.now in
    c.clear_default.ensures at (omega arith)
    ∙ ap (λ b. b && not (is_in_default table at)) (c.mark_calls.ensures at (omega arith)
    ∙ ap (λ b. b || list_any (is_line_of table at) c.args.script.now) (c.mark_name.ensures at (omega arith)
    ∙ ap (λ b. b || is_first (every_call table) (codes "execve") at) (c.requires.unmarked at)))
