use Rattle.std.proofs.Common.{◌≡◌, take, map}
use Rattle.std.specs.Prelude.{flat_map}
use Rattle.exposure_score.specs.service_facts.Facts.{told, told_by_line}
use Rattle.exposure_score.proofs.service_facts.listing.all_facts.Given as goal

abbrev pub invariant-loop-line : goal.invariant-loop-line
invariant-loop-line l = told l.facts.items ≡ flat_map (told_by_line l.sandbox l.calls)
    (map (λ line. (line.0.now, line.1)) (take l.line-index l.line-items))
