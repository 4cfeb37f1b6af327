-- Each exit status is that of an ending.
use Rattle.std.proofs.Common.{Result, Ok, Err}
use Rattle.std.specs.Prelude.{IfOk}
use Rattle.std.specs.declared.process.ExitCode.{ExitCode}
use Rattle.top_call.specs.unit_inputs.declared.command_answers.exit_status.ExitStatus.{ExitStatus}
use Rattle.top_call.specs.unit_inputs.declared.command_answers.exit_status.ExitStatus.TheVariants.{OutOfMemory}
use Rattle.sandbox_cli.specs.Running.{ExitsBy, ExitsUnlessMemory, IsExit}

pub made_exit : {E : Type 0} (Ends : ExitStatus → Type 0) (made : Result ExitCode E) → IfOk made (ExitsBy Ends) → IfOk made IsExit
made_exit Ends (Ok code) (status, ends, is) = (status, tt, is)
made_exit Ends (Err error) none = tt

pub some_exit : {E : Type 0} (made : Result ExitCode E) (code : ExitCode) → IfOk made IsExit → ExitsUnlessMemory made code → IsExit code
some_exit (Ok made) code exit same = rw same exit
some_exit (Err error) code none is = (OutOfMemory, tt, is)
