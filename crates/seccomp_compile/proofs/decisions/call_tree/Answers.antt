use Rattle.std.proofs.Common.{◌≡◌}
use Rattle.seccomp_compile.specs.Decisions.{decision_of}
use Rattle.seccomp_compile.specs.Rules.{past_wide, DecidesCall}
use Rattle.seccomp_compile.proofs.Rising.{if_ok}
use Rattle.seccomp_compile.proofs.Wide.{call_wide}
use Rattle.seccomp_compile.proofs.decisions.call_tree.Goals as goal

pub returns-in-Some : goal.returns-in-Some
returns-in-Some c =
    let narrow = decision_of c.in_ok-narrow.narrow in
    if_ok (λ tree. decision_of tree ≡ past_wide c.in-Some.wide narrow) (λ tree. DecidesCall c.args.call.now (decision_of tree))
    c.unless_wide.result
    (λ tree e. call_wide c.args.call.now c.in-Some.wide narrow (decision_of tree) c.unless_wide.ensures.there c.in-Some.is
    c.in_ok-narrow.ensures e)
    c.unless_wide.ensures.looks
