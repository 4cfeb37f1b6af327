use Rattle.std.proofs.Common.{◌^◌, inl, inr, refl, ap, ◌∙◌, arith}
use Rattle.seccomp_compile.specs.Runs.{floor_of, filled, fills}
use Rattle.seccomp_compile.proofs.runs.fill.Goals as goal

pub returns-then-from : goal.returns-then-from
returns-then-from c = filled c.args.runs.now.items c.args.runs.now.items c.args.from c.args.rest (inl (omega arith)) refl

pub returns-then-floor-from : goal.returns-then-floor-from
returns-then-floor-from c =
    let low = c.floor.ensures ∙ ap (floor_of (2 ^ 32)) c.deref.ensures.value in
    filled c.args.runs.now.items c.args.runs.now.items c.args.from c.args.rest (inr (omega (arith, low, c.if-floor-from.true))) refl

pub returns : goal.returns
returns c = fills c.args.runs.now.items c.add_run.new.runs.items c.args.from c.args.rest _ refl refl c.in_ok-add_run.ensures
