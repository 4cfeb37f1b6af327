use Rattle.std.proofs.Common.{Ok, sym, ap, ◌∙◌}
use Rattle.cap_sets.specs.Sets.{has}
use Rattle.kern_creds.specs.RootChange.{with_uids}
use Rattle.kern_creds.specs.Setresuid.{set_all_ids}
use Rattle.kern_creds.proofs.MadeIds.{ids_made}
use Rattle.kern_creds.proofs.creds.Creds.setresuid.Goals as goal

pub returns : goal.returns
returns c =
    let old = c.args.self.now in
    record {
      by_the_rule =
          ids_made (with_uids old) (has old.effective 7) old.uids c.args.real c.args.effective c.args.saved c.in_ok-uids.uids
          (c.in_ok-uids.ensures ∙ ap (λ b. set_all_ids (λ i. i) b old.uids c.args.real c.args.effective c.args.saved)
          c.contains-privileged.ensures.has)
          ∙ ap Ok (sym c.take_uids.ensures);
    }
