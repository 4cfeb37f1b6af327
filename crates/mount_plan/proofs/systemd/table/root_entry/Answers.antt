use Rattle.std.proofs.Common.{rules, tests}
use Rattle.std.proofs.lemmas.Iterator.Search.{find_from_yields_List}
use Rattle.std.proofs.lemmas.Iterator.{YieldsList-from_slice}
use Rattle.std.proofs.lemmas.Iterator.Consumers.{YieldsList-at, YieldsList-from_copied}
use Rattle.path_settings.specs.abs_path.Paths.{is_root}
use Rattle.mount_plan.proofs.Keeping.{found_lent}
use Rattle.mount_plan.proofs.systemd.table.root_entry.Goals as goal

pub returns : goal.returns
returns c =
    found_lent (λ one. is_root one.path) c.args.made.now c.find.result
    (find_from_yields_List (λ one. is_root one.now.path) _ _ _ c.find.ensures.ran
    (YieldsList-from_copied (YieldsList-at c.copied.ensures.source (YieldsList-from_slice c.args.made.now c.iter.ensures.rest)))
    (λ x b q k. search (rules, tests)))
