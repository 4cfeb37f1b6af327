use Rattle.std.proofs.Common.{sym, ap, ◌∙◌, subst, arith, length}
use Rattle.exposure_score.specs.service_facts.Facts.{AreTests}
use Rattle.exposure_score.proofs.Gathered.{counted}
use Rattle.exposure_score.proofs.service_facts.listing.facts.Goals as goal

pub returns : goal.returns
returns c =
    let written = c.list.ensures.all_in_order ∙ c.in_ok-paths.ensures.in_order_of_assignments in
    let long = ap length written in
    record {
      facts = record {
        uid = c.with_settings.ensures.users;
        bounding = c.with_settings.ensures.bounding_set;
        ambient = c.with_settings.ensures.ambient_set;
        no_new_privs = c.with_settings.ensures.privileges;
        writable_paths = c.with_settings.ensures.paths ∙ c.count_writable-writable.ensures.count ∙ counted _ c.args.unit.now written;
        few_writable_paths = omega arith;
        tests = subst (AreTests _ c.args.calls.now) (sym c.with_settings.ensures.facts)
            (subst (λ sandbox. AreTests sandbox c.args.calls.now c.in_ok-tests.tests) c.in_ok-sandbox.ensures.of_the_unit
            c.in_ok-tests.ensures);
      };
    }
