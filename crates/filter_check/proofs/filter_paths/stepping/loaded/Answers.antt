use Rattle.std.proofs.Common.{refl, arith}
use Rattle.filter_check.proofs.Steps.{load_inside, load_leads}
use Rattle.filter_check.proofs.filter_paths.stepping.loaded.Goals as goal

pub invariant_of-result : goal.invariant_of-result
invariant_of-result c = let lt = load_inside c.args.insns.now c.requires.program c.args.state c.args.insn c.requires.found c.requires.code in record { inside = omega (arith, lt) }

pub returns : goal.returns
returns c = load_leads c.args.insns.now c.requires.program c.args.state c.args.insn c.requires.found _ c.requires.code refl refl refl refl
