use Rattle.std.proofs.Common.{◌≡◌, ◌++◌, drop}
use Rattle.filter_settings.specs.Namespaces.{namespaces_notes}
use Rattle.filter_settings.proofs.namespaces.note_all.Given as goal

abbrev pub invariant-loop-one : goal.invariant-loop-one
invariant-loop-one l =
    l.notes.items ++ namespaces_notes l.systemd (drop l.one-index l.all)
    ≡ l.fn.notes.items ++ namespaces_notes l.systemd l.all
