use Rattle.std.proofs.Common.{◌++◌, ◌∙◌, ap, sym, subst, arith}
use Rattle.abs_path.specs.Paths.{parts_of, IsTail}
use Rattle.abs_path.proofs.Reading.{joined_length, joined_is, joined_parts}
use Rattle.abs_path.proofs.path.AbsPath.with_rest.Goals as goal

pub invariant_of-result : goal.invariant_of-result
invariant_of-result c =
    let text = c.in_ok-tail.ensures in
    subst IsTail (sym text) (joined_is c.self.inside.tail c.args.rest.now c.self.invariant c.requires.is_rest (omega (arith, joined_length c.self.inside.tail c.args.rest.now _ c.self.invariant c.requires.is_rest c.self.view_is, c.requires.short)))

pub returns : goal.returns
returns c =
    let text = c.in_ok-tail.ensures in
    ap parts_of text ∙ joined_parts c.self.inside.tail c.args.rest.now c.self.invariant c.requires.is_rest
    ∙ ap (λ p. p ++ parts_of c.args.rest.now) c.self.view_is
