-- The lines of a replay, each ended by a line feed.
use Rattle.std.specs.Prelude.{ℕ, List, [], ◌∷◌, ◌++◌, codes, flat_map}
use Rattle.std.specs.Fmt.{decimal}
use Rattle.asked_service.specs.call_table.Table.{Table}
use Rattle.asked_service.specs.kernel_model.declared.kernel_calls.call.Call.{Call}
use Rattle.asked_service.specs.kernel_model.declared.reply.Reply.{Reply}
use Rattle.asked_service.specs.kernel_model.declared.reply.Reply.TheVariants.{Done, Refused, Killed}
use Rattle.asked_service.specs.kernel_model.Runs.{Moment, moments}
use Rattle.asked_service.specs.kernel_model.World.{World}
use Rattle.asked_service.specs.script_text.Printed.{call_text}

-- the reply of a call: its value, its error number (errno(3)), or that the caller is killed (seccomp(2))
abbrev pub reply_words : Reply → List ℕ
reply_words (Done value) = codes "ok " ++ decimal value
reply_words (Refused errno) = codes "errno " ++ decimal errno
reply_words Killed = codes "killed"

-- a call, as a script has it, and its reply
abbrev pub call_line : Table → Call → Reply → List ℕ
call_line table call reply = call_text table call ++ (codes " -> " ++ (reply_words reply ++ 10 ∷ []))

-- a call of a run and the reply to it
abbrev pub moment_line : Table → Moment → List ℕ
moment_line table moment = call_line table moment.call moment.reply

-- the run of a script from a world on: a line for each call, in order, with its reply
abbrev pub run_text : Table → World → List Call → List ℕ
run_text table world script = flat_map (moment_line table) (moments world script)
