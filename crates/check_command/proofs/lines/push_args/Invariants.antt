use Rattle.std.proofs.Common.{◌≡◌, ◌++◌, drop}
use Rattle.std.specs.Prelude.{flat_map}
use Rattle.check_command.specs.Lines.{arg_text}
use Rattle.check_command.proofs.lines.push_args.Given as goal

abbrev pub invariant-loop-arg : goal.invariant-loop-arg
invariant-loop-arg l = l.out.items ++ flat_map arg_text (drop l.arg-index l.args) ≡ l.fn.out.items ++ flat_map arg_text l.args
