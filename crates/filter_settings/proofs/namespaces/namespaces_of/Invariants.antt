use Rattle.std.proofs.Common.{◌≡◌, take}
use Rattle.std.specs.Prelude.{filter}
use Rattle.filter_settings.specs.Namespaces.{counts, is_begun, namespaces_of}
use Rattle.filter_settings.proofs.namespaces.namespaces_of.Given as goal

abbrev pub invariant-loop-one : goal.invariant-loop-one
invariant-loop-one l = record {
  means : l.types ≡ namespaces_of l.systemd (take l.one-index l.all);
  begun : l.is_begun ≡ is_begun l.systemd (filter (counts l.systemd) (take l.one-index l.all));
}
