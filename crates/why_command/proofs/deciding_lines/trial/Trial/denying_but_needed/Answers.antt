use Rattle.std.proofs.Common.{List, Ok, ap, subst, sym, ◌∙◌}
use Rattle.asked_service.specs.dropin_merge.declared.unit_values.value.Place.{Place}
use Rattle.asked_service.specs.launching.Starting.{StartsAs}
use Rattle.why_command.specs.deciding_lines.Least.{IsPartOf}
use Rattle.why_command.specs.deciding_lines.Tried.{inputs_without, tried_of}
use Rattle.why_command.specs.deciding_lines.unit_lines.Without.{all_but}
use Rattle.why_command.proofs.Needed.{launched_with_all, reason_but_needed}
use Rattle.why_command.proofs.deciding_lines.trial.Trial.denying_but_needed.Goals as goal

pub least-requires : goal.least-requires
least-requires c = record {
  can_try = tt;
  serves = launched_with_all (tried_of c.args.self.now) c.args.lines.now c.in_ok-all.all.items c.args.whole
      c.in_ok-all.ensures.items c.requires.starts;
}

pub denying-requires-clause-starts : goal.denying-requires-clause-starts
denying-requires-clause-starts c =
    subst (λ (gone : List Place). StartsAs (inputs_without (tried_of c.args.self.now).inputs gone) (Ok c.in_ok-kept.kept.found))
    (sym (c.in_ok-gone.ensures.the_others ∙ ap (λ (kept : List Place). all_but kept c.args.lines.now) c.deref.ensures.value))
    c.in_ok-kept.ensures.serves

pub returns : goal.returns
returns c = reason_but_needed (tried_of c.args.self.now) c.args.lines.now c.args.line c.requires.refused c.in_ok-kept.kept.things.items
    (record {
      of_them = subst (λ (all : List Place). IsPartOf c.in_ok-kept.kept.things.items all) c.in_ok-all.ensures.items
          c.in_ok-kept.ensures.some_in_their_order;
      service = c.in_ok-kept.kept.found;
      launched = c.in_ok-kept.ensures.serves;
      each_is_needed = c.in_ok-kept.ensures.each_is_needed;
    })
    c.in_ok-gone.gone.items
    (c.in_ok-gone.ensures.the_others ∙ ap (λ (kept : List Place). all_but kept c.args.lines.now) c.deref.ensures.value) c.denying.result
    c.denying.ensures
