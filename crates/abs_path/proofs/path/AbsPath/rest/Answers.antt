use Rattle.std.proofs.Common.{◌≡◌, true, ◌∙◌, ap, subst}
use Rattle.abs_path.specs.Paths.{Path, is_normal}
use Rattle.abs_path.specs.Prefix.{behind_text}
use Rattle.abs_path.proofs.Reading.{rest_is, rest_form, rest_parts}
use Rattle.abs_path.proofs.path.AbsPath.rest.Goals as goal

pub returns-clause-behind : goal.returns-clause-behind
returns-clause-behind c = c.behind.ensures ∙ ap (λ l. behind_text l c.as_str-2.result.now) c.as_str.ensures
    ∙ ap (behind_text _) c.as_str-2.ensures
    ∙ rest_is _ _ _ _ c.self.invariant c.of.invariant c.self.view_is c.of.view_is

pub returns-clause-may_be_joined : goal.returns-clause-may_be_joined
returns-clause-may_be_joined c =
    rest_form c.args.self.now c.args.of.now c.behind.result (subst (λ (p : Path). is_normal p ≡ true) c.of.view_is c.of.invariant.normal)
    (returns-clause-behind c)

pub returns-clause-further_parts : goal.returns-clause-further_parts
returns-clause-further_parts c =
    rest_parts c.args.self.now c.args.of.now c.behind.result (subst (λ (p : Path). is_normal p ≡ true) c.of.view_is c.of.invariant.normal)
    (returns-clause-behind c)
