use Rattle.std.proofs.Common.{◌∙◌, ap}
use Rattle.std.specs.Prelude.{nat_eq}
use Rattle.std.specs.Cmp.Lexicographic.{pointwise}
use Rattle.abs_path.proofs.Reading.{same_is}
use Rattle.abs_path.proofs.path.AbsPathPartialEq.eq.Goals as goal

pub returns : goal.returns
returns c =
    c.eq.ensures ∙ ap (λ text. pointwise nat_eq text c.as_str-2.result.now) c.as_str.ensures
    ∙ ap (pointwise nat_eq c.self.inside.tail) c.as_str-2.ensures
    ∙ same_is _ _ _ _ c.self.invariant c.other.invariant c.self.view_is c.other.view_is
