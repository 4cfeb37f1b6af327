use Rattle.std.proofs.Common.{codes, sym, subst, ap, ◌++◌, ◌∙◌}
use Rattle.filter_settings.specs.filter_rules.Known.{HasKnownFamilies}
use Rattle.filter_settings.specs.filter_rules.Refusing.{AreRefusing}
use Rattle.filter_settings.specs.Settings.{filter_notes}
use Rattle.filter_settings.proofs.KnownOnes.{unit_families_known}
use Rattle.filter_settings.proofs.Refusals.{settings_refuse}
use Rattle.filter_settings.proofs.settings.filter_settings.Goals as goal

pub returns-clause-noted : goal.returns-clause-noted
returns-clause-noted c = c.in_ok-what.ensures.noted ∙ ap (λ notes. notes ++ filter_notes c.args.unit.now c.args.table.now)
    c.new-notes.ensures.items

pub returns-clause-families_are_known : goal.returns-clause-families_are_known
returns-clause-families_are_known c =
    subst (HasKnownFamilies c.args.table.now) (sym c.in_ok-what.ensures.means)
    (unit_families_known c.args.unit.now c.args.table.now (codes "RestrictAddressFamilies"))

pub returns-clause-refusals : goal.returns-clause-refusals
returns-clause-refusals c = subst AreRefusing (sym c.in_ok-what.ensures.means) (settings_refuse c.args.unit.now c.args.table.now)
