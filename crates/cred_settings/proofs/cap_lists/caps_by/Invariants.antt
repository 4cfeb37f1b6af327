use Rattle.std.proofs.Common.{◌≡◌, drop}
use Rattle.std.specs.Prelude.{fold}
use Rattle.cred_settings.specs.CapLists.{with_listed, caps_by}
use Rattle.cred_settings.proofs.cap_lists.caps_by.Given as goal

abbrev pub invariant-loop-one : goal.invariant-loop-one
invariant-loop-one l = fold (with_listed l.default) l.set (drop l.one-index l.lines) ≡ caps_by l.default l.lines
