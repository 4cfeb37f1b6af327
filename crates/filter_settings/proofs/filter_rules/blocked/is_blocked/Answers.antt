use Rattle.std.proofs.Common.{sym, ◌∙◌}
use Rattle.filter_settings.specs.filter_rules.Covers.{covers}
use Rattle.filter_settings.proofs.Mapped.{list_any-map}
use Rattle.filter_settings.proofs.filter_rules.blocked.is_blocked.Goals as goal

pub returns : goal.returns
returns c = c.some_covers.ensures
    ∙ sym (list_any-map (λ word. covers c.args.table.now word c.args.name.now) (λ word. word.now) c.args.words.now)
