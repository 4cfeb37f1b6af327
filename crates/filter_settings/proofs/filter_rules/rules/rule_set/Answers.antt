use Rattle.std.proofs.Common.{map, sym, ap, ◌∙◌, subst}
use Rattle.std.specs.List.Sorted.{IsStrictlyIncreasing}
use Rattle.filter_settings.specs.filter_rules.Rules.{choice_of, AreRulesOf}
use Rattle.filter_settings.specs.filter_rules.Wanted.{unnamed_action, other_action}
use Rattle.call_table.specs.Table.{arch_of}
use Rattle.filter_settings.proofs.Walked.{rule_numbers, ascending}
use Rattle.filter_settings.proofs.RulesOf.{are_rules}
use Rattle.filter_settings.proofs.filter_rules.rules.rule_set.Goals as goal

pub new-requires : goal.new-requires
new-requires c =
    subst IsStrictlyIncreasing (sym (ap rule_numbers c.in_ok-rules.ensures))
    (ascending (choice_of c.args.filter c.args.settings.now c.args.table.now)
    (map (λ call. call.now) c.args.calls.now) c.requires.ascends.ascending)

pub returns : goal.returns
returns c =
    record {
      of_the_settings =
          let filter = c.args.filter in
          let settings = c.args.settings.now in
          let table = c.args.table.now in
          let abi = c.args.abi in
          let are = are_rules settings table abi (map (λ call. call.now) c.args.calls.now) c.requires.ascends c.calls_in.ensures.names_and_numbers_once filter c.families.ensures.names_and_numbers_once c.requires.known_families in
          subst (λ arch. AreRulesOf filter settings table abi
          (record { arch = arch; calls = c.new.result; rest = c.unnamed_action.result; other = c.other_action.result }))
          (sym c.arch_of.ensures.by_position)
          (subst (λ rest. AreRulesOf filter settings table abi
          (record { arch = arch_of table abi; calls = c.new.result; rest = rest; other = c.other_action.result }))
          (sym c.unnamed_action.ensures)
          (subst (λ other. AreRulesOf filter settings table abi
          (record { arch = arch_of table abi; calls = c.new.result; rest = unnamed_action filter settings; other = other }))
          (sym c.other_action.ensures)
          (subst (λ calls. AreRulesOf filter settings table abi (record { arch = arch_of table abi; calls = calls; rest = unnamed_action filter settings; other = other_action table.second })) (sym (c.new.ensures.holds_them ∙ c.in_ok-rules.ensures)) are)));
    }
