use Rattle.std.proofs.Common.{◌≡◌, ◌++◌, take}
use Rattle.filter_settings.specs.Lines.{in_force}
use Rattle.filter_settings.specs.Modes.{list_mode}
use Rattle.filter_settings.specs.CallLists.{call_notes}
use Rattle.filter_settings.proofs.call_lists.CallListKeyList.read.Given as goal

abbrev pub invariant-loop-one : goal.invariant-loop-one
invariant-loop-one l = record {
  mode : l.mode ≡ list_mode (in_force (take l.one-index l.all));
  noted : l.notes.items ≡ l.fn.notes.items ++ call_notes l.systemd l.table (take l.one-index l.all);
}
