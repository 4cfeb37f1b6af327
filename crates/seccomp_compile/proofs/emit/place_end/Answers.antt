use Rattle.std.proofs.Common.{◌∙◌, ◌∷◌, ap, arith}
use Rattle.seccomp_compile.proofs.Places.{end_found, end_added}
use Rattle.seccomp_compile.proofs.emit.place_end.Goals as goal

pub returns-in-Some-clause-placed : goal.returns-in-Some-clause-placed
returns-in-Some-clause-placed c =
    end_found c.args.action c.in-Some.skip _ c.args.code.now.items c.in-Some.ensures
    (omega (arith, c.len.ensures, c.args.code.now.ok.0)) c.requires.sound

pub returns-in_ok-push_front-in-None-clause-placed : goal.returns-in_ok-push_front-in-None-clause-placed
returns-in_ok-push_front-in-None-clause-placed c =
    end_added c.args.action _ c.args.code.now.items _ (c.in_ok-push_front-in-None.ensures.items ∙ ap (λ insn. insn ∷ c.args.code.now.items) c.answer.ensures.is)
    (omega (arith, c.len-in-None.ensures, c.push_front.new.self.ok.0)) c.requires.sound
