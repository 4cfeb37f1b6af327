use Rattle.std.proofs.Common.{◌∙◌, ◌+◌, ◌∷◌, [], ◌++◌, false, take, drop, get_or, refl, ap}
use Rattle.kern_mounts.specs.Mounts.{Mounts}
use Rattle.kern_mounts.specs.Pushed.{HasBound, HasCopies}
use Rattle.kern_mounts.proofs.Binding.{Binds, shown, source_leads}
use Rattle.kern_mounts.proofs.Pushing.{front_of_all, bound_and_copies, all_pushed}
use Rattle.kern_mounts.proofs.table.bind.push_bound.Goals as goal

pub bound_mount-requires-clause-leads : goal.bound_mount-requires-clause-leads
bound_mount-requires-clause-leads c =
    let binds : Binds c.args.mounts.now.items [] c.args.source.now false c.args.at c.index.result.now =
    record { belongs = c.requires.belongs; entry_is = c.index.ensures ∙ ap (λ (items : Mounts). get_or items c.args.at c.index.result.now) c.in_ok-reserve.ensures.items; later_is = refl } in
    source_leads _ _ c.args.source.now false c.args.at c.index.result.now binds

pub bound_mount-requires-clause-can_show : goal.bound_mount-requires-clause-can_show
bound_mount-requires-clause-can_show c =
    let binds : Binds c.args.mounts.now.items [] c.args.source.now false c.args.at c.index.result.now =
    record { belongs = c.requires.belongs; entry_is = c.index.ensures ∙ ap (λ (items : Mounts). get_or items c.args.at c.index.result.now) c.in_ok-reserve.ensures.items; later_is = refl } in
    shown _ _ c.args.source.now false c.args.at c.index.result.now binds c.requires.can_bind

pub returns-clause-front_stays : goal.returns-clause-front_stays
returns-clause-front_stays c =
    front_of_all c.args.mounts.now.items c.push.new.self.items c.push_copies.new.mounts.items c.in_ok-bound.bound
    (c.in_ok-push.ensures.items ∙ ap (λ (items : Mounts). items ++ c.in_ok-bound.bound ∷ []) c.in_ok-reserve.ensures.items)
    c.push_copies.ensures.front_stays

pub returns-clause-pushed : goal.returns-clause-pushed
returns-clause-pushed c =
    all_pushed (HasCopies c.push.new.self.items c.push_copies.new.mounts.items
    (drop (c.args.at + 1) (take c.args.end c.push.new.self.items)) c.args.source.now c.args.target.now)
    (HasBound c.args.mounts.now.items c.push_copies.new.mounts.items c.args.at
    (drop (c.args.at + 1) (take c.args.end c.args.mounts.now.items)) c.args.source.now c.args.target.now) c.push_copies.result
    (bound_and_copies c.args.mounts.now.items c.push.new.self.items c.push_copies.new.mounts.items c.args.at c.args.end c.args.source.now
    c.args.target.now c.index.result.now c.in_ok-bound.bound c.requires.belongs c.requires.in_range
    (c.index.ensures ∙ ap (λ (items : Mounts). get_or items c.args.at c.index.result.now) c.in_ok-reserve.ensures.items)
    c.in_ok-bound.ensures
    (c.in_ok-push.ensures.items ∙ ap (λ (items : Mounts). items ++ c.in_ok-bound.bound ∷ []) c.in_ok-reserve.ensures.items))
    c.push_copies.ensures.pushed
