use Rattle.std.proofs.Common.{refl}
use Rattle.std.proofs.lemmas.Option.{slice_get-get_or}
use Rattle.filter_check.proofs.Steps.{end_at}
use Rattle.filter_check.proofs.filter_paths.stepping.next.Goals as goal

pub returns-then-insn-eq-RET_K : goal.returns-then-insn-eq-RET_K
returns-then-insn-eq-RET_K c = record { steps = (refl, (c.least.ensures.fits, c.least.ensures.is_one, c.least.ensures.is_least), end_at c.args.insns.now c.requires.program c.args.state _ (slice_get-get_or c.args.insns.now c.args.state.at _ c.requires.inside) c.if-insn-eq-RET_K.true) }

pub loaded-requires-clause-found : goal.loaded-requires-clause-found
loaded-requires-clause-found c = slice_get-get_or c.args.insns.now c.args.state.at _ c.requires.inside

pub masked-requires-clause-found : goal.masked-requires-clause-found
masked-requires-clause-found c = slice_get-get_or c.args.insns.now c.args.state.at _ c.requires.inside

pub jumped-requires-clause-found : goal.jumped-requires-clause-found
jumped-requires-clause-found c = slice_get-get_or c.args.insns.now c.args.state.at _ c.requires.inside

pub compared-requires-clause-found : goal.compared-requires-clause-found
compared-requires-clause-found c = slice_get-get_or c.args.insns.now c.args.state.at _ c.requires.inside
