use Rattle.std.proofs.Common.{rules, tests}
use Rattle.std.specs.Prelude.{◌&&◌}
use Rattle.std.proofs.lemmas.Iterator.Search.{find_from_yields_List}
use Rattle.std.proofs.lemmas.Iterator.{YieldsList-from_slice}
use Rattle.std.proofs.lemmas.Iterator.Consumers.{YieldsList-at, YieldsList-from_copied}
use Rattle.path_settings.specs.abs_path.Prefix.{is_same}
use Rattle.path_settings.specs.systemd.Made.{has_source}
use Rattle.mount_plan.specs.Host.{host_of}
use Rattle.mount_plan.proofs.Keeping.{found_lent}
use Rattle.mount_plan.proofs.systemd.making.node_in.Goals as goal

pub returns : goal.returns
returns c =
    found_lent (λ one. is_same one.path c.args.path.now && has_source (host_of c.args.site.now) one) c.args.nodes.now c.find.result
    (find_from_yields_List (λ one. is_same one.now.path c.args.path.now && has_source (host_of c.args.site.now) one.now) _ _ _
    c.find.ensures.ran
    (YieldsList-from_copied (YieldsList-at c.copied.ensures.source (YieldsList-from_slice c.args.nodes.now c.iter.ensures.rest)))
    (λ x b q k. search (rules, tests)))
