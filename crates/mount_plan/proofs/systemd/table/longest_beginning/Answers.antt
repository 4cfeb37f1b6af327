use Rattle.std.proofs.Common.{map, rules, tests}
use Rattle.std.proofs.lemmas.Iterator.Search.{find_from_yields_List}
use Rattle.std.proofs.lemmas.Iterator.{YieldsList-from_slice}
use Rattle.std.proofs.lemmas.Iterator.Consumers.{YieldsList-at, YieldsList-from_copied}
use Rattle.path_settings.specs.systemd.Made.{is_longest_such}
use Rattle.path_settings.specs.systemd.View.{begins_for}
use Rattle.mount_plan.proofs.Keeping.{found_lent}
use Rattle.mount_plan.proofs.systemd.table.longest_beginning.Goals as goal

pub returns : goal.returns
returns c =
    let among = map (λ one. one.now) c.args.beginning.now in
    found_lent (is_longest_such (begins_for c.args.path.now) among) c.args.beginning.now c.find.result
    (find_from_yields_List (λ one. is_longest_such (begins_for c.args.path.now) among one.now) _ _ _ c.find.ensures.ran
    (YieldsList-from_copied (YieldsList-at c.copied.ensures.source (YieldsList-from_slice c.args.beginning.now c.iter.ensures.rest)))
    (λ x b q k. search (rules, tests)))
