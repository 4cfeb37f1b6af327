use Rattle.std.proofs.Common.{◌≡◌, ◌++◌, take}
use Rattle.std.specs.Prelude.{codes}
use Rattle.script_text.specs.Printed.{each_number}
use Rattle.script_text.proofs.printing.push_others.Given as goal

abbrev pub invariant-loop-id : goal.invariant-loop-id
invariant-loop-id l = l.out.items ≡ l.initial.out.items ++ each_number (codes ",") (take l.id-index l.ids)
