use Rattle.std.proofs.Common.{◌≡◌, ap, sym, ◌∙◌}
use Rattle.cap_sets.specs.Names.{in_lower_case, name_of}
use Rattle.abs_path.proofs.Prefixes.{same_part, part_itself}
use Rattle.std.proofs.lemmas.Bool.{false≢true}
use Rattle.site_table.proofs.CapNames.{no_cap, the_cap}
use Rattle.site_table.proofs.caps.cap_of.Goals as goal

pub returns-in_err-number-clause-number : goal.returns-in_err-number-clause-number
returns-in_err-number-clause-number c =
    c.from_residual.ensures
    ∙ no_cap c.args.name.now (λ k small e. let found = (c.in_err-number.ensures.named k small).1 (ap in_lower_case e) in cc)

pub returns-then-eq-clause-number : goal.returns-then-eq-clause-number
returns-then-eq-clause-number c =
    the_cap c.args.name.now c.in_ok-number.number c.in_ok-number.ensures.in_range
    (sym c.name.ensures.its_name ∙ same_part c.name.result.now c.args.name.now (sym c.eq.ensures ∙ c.if-eq.true))

pub returns-else-eq-clause-number : goal.returns-else-eq-clause-number
returns-else-eq-clause-number c =
    no_cap c.args.name.now (λ k small e.
    let found = (c.in_ok-number.ensures.named k small).1 (ap in_lower_case e) in
    let same : c.in_ok-number.number ≡ k = cc in
    false≢true (sym c.if-eq.false ∙ c.eq.ensures ∙ part_itself c.name.result.now c.args.name.now
    (c.name.ensures.its_name ∙ ap name_of same ∙ e)))
