use Rattle.std.proofs.Common.{◌≡◌, ◌++◌, drop}
use Rattle.filter_settings.specs.FamilyLists.{family_notes}
use Rattle.filter_settings.proofs.family_lists.FamilyListKeyList.read.Given as goal

abbrev pub invariant-loop-one : goal.invariant-loop-one
invariant-loop-one l =
    l.notes.items ++ family_notes l.systemd l.table (drop l.one-index l.all)
    ≡ l.fn.notes.items ++ family_notes l.systemd l.table l.all
