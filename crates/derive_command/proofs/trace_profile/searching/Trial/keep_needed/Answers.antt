use Rattle.std.proofs.Common.{ℕ, List, [], refl, sym, subst, arith}
use Rattle.derive_command.specs.trace_profile.Searching.{AreKept, tried_of}
use Rattle.derive_command.proofs.Kept.{kept_more, kept_none}
use Rattle.derive_command.proofs.trace_profile.searching.Trial.keep_needed.Goals as goal

pub loop-name-init : goal.loop-name-init
loop-name-init c =
    subst (λ (kept : List ℕ). AreKept (tried_of c.args.self.now) c.args.names.now [] kept)
    (sym (c.in_ok-kept.ensures.items_if_clones_equal (λ x y same. same)))
    (kept_none (tried_of c.args.self.now) c.args.names.now c.requires.serving)

pub leave_out-requires-clause-are_names : goal.leave_out-requires-clause-are_names
leave_out-requires-clause-are_names c = c.loop-name.invariant.serving.are_names

pub loop-name-preserved : goal.loop-name-preserved
loop-name-preserved c =
    kept_more (tried_of c.args.self.now) c.args.names.now c.loop-name.name-index 0 _
    (omega arith) refl c.loop-name.kept.items c.loop-name.invariant c.in_ok-left.left.items c.in_ok-left.ensures
