use Rattle.std.proofs.Common.{rules}
use Rattle.kernel_model.proofs.Apart.{user_entered}
use Rattle.kernel_model.proofs.state.State.enter.Goals as goal

pub returns : goal.returns
returns c = user_entered _ c.args.self.now c.self.view_is c.args.place c.index_mut-process.result.now c.enter.new.self _
    c.index_mut-process.ensures.value c.enter.ensures.entered (search rules)
