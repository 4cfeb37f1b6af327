-- Each line ends in a line feed.
use Rattle.std.proofs.Common.{ℕ, codes, inl, inr, refl}
use Rattle.std.specs.Fmt.{decimal}
use Rattle.asked_service.specs.abs_path.Paths.{text_of}
use Rattle.asked_service.specs.text_forms.Escaped.{escaped_word}
use Rattle.asked_service.specs.report_text.Launches.{launched_line, yes_or_no}
use Rattle.asked_service.specs.report_text.declared.launches.Launched.{Launched as Line}
use Rattle.asked_service.specs.launching.Refusals.{launch_line}
use Rattle.asked_service.specs.launcher.declared.error.LaunchError.{LaunchError}
use Rattle.asked_service.specs.launcher.declared.error.LaunchError.TheVariants as error
use Rattle.asked_service.specs.unit_inputs.command_answers.Lines.{IsOfLines}
use Rattle.asked_service.specs.call_table.Table.{Table}
use Rattle.asked_service.specs.kernel_model.Runs.{Moment}
use Rattle.asked_service.specs.script_text.Printed.{call_text}
use Rattle.asked_service.proofs.OfUnitInputs.Lines.{ends_behind, ends_feed}
use Rattle.replay_command.specs.Lines.{moment_line, reply_words}
use Rattle.replay_command.specs.Texts.{count_line}

pub launched_ends : (launched : Line) → IsOfLines (launched_line launched)
launched_ends launched =
    inr (ends_behind (codes "launched uid ") _ (ends_behind (decimal launched.uid) _
    (ends_behind (codes " gid ") _ (ends_behind (decimal launched.gid) _
    (ends_behind (codes " nnp ") _ (ends_behind (yes_or_no launched.no_new_privs) _
    (ends_behind (codes " steps ") _ (ends_behind (decimal launched.steps) _ ends_feed))))))))

pub launch_ends : (why : LaunchError) → IsOfLines (launch_line why)
launch_ends (error.PrivilegedProgram program) = inr (ends_behind (codes "launch privileged ") _
    (ends_behind (escaped_word (text_of program)) _ ends_feed))
launch_ends (error.Refused step errno) =
    inr (ends_behind (codes "launch refused step ") _ (ends_behind (decimal step) _
    (ends_behind (codes " errno ") _ (ends_behind (decimal errno) _ ends_feed))))
launch_ends (error.Killed step) = inr (ends_behind (codes "launch killed step ") _ (ends_behind (decimal step) _ ends_feed))
launch_ends error.Memory = inl refl

-- a call with its reply
pub moment_ends : (table : Table) (moment : Moment) → IsOfLines (moment_line table moment)
moment_ends table moment =
    inr (ends_behind (call_text table moment.call) _ (ends_behind (codes " -> ") _ (ends_behind (reply_words moment.reply) _ ends_feed)))

pub count_ends : (count : ℕ) → IsOfLines (count_line count)
count_ends count = inr (ends_behind (codes "calls ") _ (ends_behind (decimal count) _ ends_feed))
