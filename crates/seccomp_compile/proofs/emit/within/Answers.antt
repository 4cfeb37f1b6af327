use Rattle.std.proofs.Common.{◌-◌, ap, ◌∙◌, ◌∷◌, arith}
use Rattle.seccomp_compile.proofs.Places.{reached_there, reached_by_jump}
use Rattle.seccomp_compile.proofs.emit.within.Goals as goal

pub returns-then-skip-limit-clause-reached : goal.returns-then-skip-limit-clause-reached
returns-then-skip-limit-clause-reached c =
    reached_there c.args.place c.args.limit (c.len.result - c.args.place) c.args.code.now.items
    (omega (arith, c.len.ensures, c.args.code.now.ok.0))
    (omega (arith, c.if-skip-limit.true)) c.requires.some c.requires.inside c.requires.sound

pub returns-clause-reached : goal.returns-clause-reached
returns-clause-reached c =
    reached_by_jump c.args.place c.args.limit (c.len.result - c.args.place) c.len-2.result c.args.code.now.items _
    (omega (arith, c.len.ensures, c.args.code.now.ok.0)) (omega (arith, c.if-skip-limit.false))
    (c.in_ok-push_front.ensures.items ∙ ap (λ insn. insn ∷ c.args.code.now.items) c.jump.ensures.is)
    (omega (arith, c.len-2.ensures, c.push_front.new.self.ok.0)) c.requires.some c.requires.inside c.requires.sound
