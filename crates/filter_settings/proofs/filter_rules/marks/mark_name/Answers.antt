use Rattle.std.proofs.Common.{ℕ, Option, None, false, get_or, ap, ◌∙◌}
use Rattle.std.specs.Prelude.{◌==◌}
use Rattle.std.specs.Option.{option_map_or}
use Rattle.filter_settings.specs.filter_rules.Marks.{with_said}
use Rattle.filter_settings.proofs.filter_rules.marks.mark_name.Goals as goal

pub returns-in-Some : goal.returns-in-Some
returns-in-Some c = λ at lt.
    c.mark_place.ensures at lt ∙ ap (λ (o : Option ℕ). with_said (option_map_or (λ place. place == at) o false) c.args.what
    (get_or c.args.marks.now at None)) c.in-Some.ensures.by_name

pub returns-in-None : goal.returns-in-None
returns-in-None c = λ at lt.
    ap (λ (o : Option ℕ). with_said (option_map_or (λ place. place == at) o false) c.args.what
    (get_or c.args.marks.now at None)) c.in-None.ensures.by_name
