use Rattle.std.proofs.Common.{ap, ◌∙◌, subst}
use Rattle.seccomp_compile.specs.declared.tree.Comparison.TheVariants.{Equal}
use Rattle.seccomp_compile.specs.Code.{whole_word}
use Rattle.seccomp_compile.specs.Decisions.{decision_of, ends, looks, splits}
use Rattle.seccomp_compile.specs.Rules.{DecidesNumbers}
use Rattle.seccomp_compile.proofs.Rising.{if_ok}
use Rattle.seccomp_compile.specs.Rules.{DecidesRules}
use Rattle.seccomp_compile.proofs.Calls.{rules_decided}
use Rattle.seccomp_compile.proofs.decisions.rules_tree.Goals as goal

pub returns : goal.returns
returns c =
    record {
      decides_the_rules =
          if_ok _ (λ tree. DecidesRules c.args.rules.now (decision_of tree)) c.look_at-2.result
          (λ tree e. rules_decided c.args.rules.now (decision_of c.in_ok-numbers.numbers) (decision_of tree) c.requires
          (subst (λ calls. DecidesNumbers calls c.args.rules.now.rest (decision_of c.in_ok-numbers.numbers)) c.list.ensures.all_in_order
          c.in_ok-numbers.ensures)
          (e
          ∙ ap (λ compared. looks 4 whole_word compared) c.in_ok-compared.ensures
          ∙ ap (λ looked. looks 4 whole_word (splits Equal c.args.rules.now.arch (ends c.args.rules.now.other) looked))
          c.in_ok-by_number.ensures))
          c.look_at-2.ensures;
    }
