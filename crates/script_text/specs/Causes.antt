-- The printed words of the causes.
use Rattle.std.specs.Prelude.{ℕ, List, codes}
use Rattle.script_text.specs.declared.error.ScriptCause.{ScriptCause}
use Rattle.script_text.specs.declared.error.ScriptCause.TheVariants.{Pid, Name, Payload, Number, Words}

abbrev pub cause_text : ScriptCause → List ℕ
cause_text Pid = codes "pid"
cause_text Name = codes "name"
cause_text Payload = codes "payload"
cause_text Number = codes "number"
cause_text Words = codes "words"
