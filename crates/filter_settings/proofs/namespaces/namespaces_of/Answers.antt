use Rattle.std.proofs.Common.{ap, sym, ◌∙◌, take}
use Rattle.std.specs.Prelude.{filter}
use Rattle.filter_settings.specs.Namespaces.{counts, is_begun}
use Rattle.filter_settings.specs.Steps.{types_behind, begun_behind}
use Rattle.filter_settings.proofs.Permitting.{namespaces_next, begun_next}
use Rattle.filter_settings.proofs.namespaces.namespaces_of.Goals as goal

pub loop-one-preserved : goal.loop-one-preserved
loop-one-preserved c =
    let i = c.loop-one.one-index in
    let systemd = c.args.systemd in
    let all = c.args.all.now in
    let one = c.one-item.result in
    let below = c.loop-one-test.true in
    let begun = c.loop-one.invariant.begun in
    record {
      means =
          c.types_behind-types.ensures
          ∙ ap (λ had. types_behind systemd had one c.loop-one.types) begun
          ∙ ap (λ types. types_behind systemd (is_begun systemd (filter (counts systemd) (take i all))) one types) c.loop-one.invariant.means
          ∙ sym (namespaces_next systemd all i one below c.one-item.is);
      begun = c.begun_behind-is_begun.ensures ∙ ap (λ had. begun_behind systemd had one) begun
          ∙ sym (begun_next systemd all i one below c.one-item.is);
    }
