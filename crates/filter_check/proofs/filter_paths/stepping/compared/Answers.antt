use Rattle.std.proofs.Common.{◌≡◌, ℕ, ◌+◌, ◌<◌, ◌^◌, ◌&&◌, Bool, List, length, true, false, refl, sym, ap, ◌∙◌, arith, subst, set, Some, None}
use Rattle.std.specs.Prelude.{Option, ◌==◌}
use Rattle.filter_check.specs.declared.word_sets.condition.Condition.{Condition}
use Rattle.filter_check.specs.declared.word_sets.set.WordSet.{WordSet}
use Rattle.filter_check.specs.word_sets.Conditions.{meets, meets_all}
use Rattle.filter_check.specs.word_sets.Words.{is_in_some}
use Rattle.filter_check.proofs.Steps.{both_lead, hit_cut, miss_cut, empty_leads, cut_leads, cut_either}
use Rattle.filter_check.proofs.filter_paths.stepping.compared.Goals as goal

-- an equal set has the same words
left : (some other : Option WordSet) (old : List Condition) (condition : Condition) → some ≡ other
    → ((word : ℕ) → word < 2 ^ 32 → is_in_some some word ≡ (meets_all old word && meets condition word))
    → (word : ℕ) → word < 2 ^ 32 → is_in_some other word ≡ (meets_all old word && meets condition word)
left some other old condition e h word lt = ap (λ one. is_in_some one word) (sym e) ∙ h word lt

pub returns-then-hit_at-miss_at : goal.returns-then-hit_at-miss_at
returns-then-hit_at-miss_at c = both_lead c.args.insns.now c.requires.program c.args.state c.args.insn c.requires.found c.requires.code _
    (omega (arith, c.if-hit_at-miss_at.true)) refl refl refl

pub returns-in-None : goal.returns-in-None
returns-in-None c =
    let miss = miss_cut c.args.insns.now c.requires.program c.args.state c.args.insn c.requires.found c.condition_of-condition.result c.failing.result (λ word. false) c.word.result.now.conditions.items c.condition_of-condition.ensures.by_the_masked_word c.failing.ensures.opposite c.word.ensures.is (left _ None c.word.result.now.conditions.items c.failing.result c.in-None.is c.in_ok-narrow.ensures.those_that_meet) in
    empty_leads c.args.insns.now c.requires.program c.args.state c.args.insn c.requires.found c.requires.code _ true miss refl refl refl

pub returns-in-None-2 : goal.returns-in-None-2
returns-in-None-2 c =
    let hit = hit_cut c.args.insns.now c.requires.program c.args.state c.args.insn c.requires.found c.condition_of-condition.result (λ word. false) c.word-in-Some.result.now.conditions.items c.condition_of-condition.ensures.by_the_masked_word c.word-in-Some.ensures.is (left _ None c.word-in-Some.result.now.conditions.items c.condition_of-condition.result c.in-None-2.is c.in_ok-narrow-in-Some.ensures.those_that_meet) in
    empty_leads c.args.insns.now c.requires.program c.args.state c.args.insn c.requires.found c.requires.code _ false hit refl refl refl

pub returns-in_ok-copy-in-Some-2 : goal.returns-in_ok-copy-in-Some-2
returns-in_ok-copy-in-Some-2 c =
    let hit = hit_cut c.args.insns.now c.requires.program c.args.state c.args.insn c.requires.found c.condition_of-condition.result (meets_all c.in-Some-2.hit.conditions.items) c.word-in-Some.result.now.conditions.items c.condition_of-condition.ensures.by_the_masked_word c.word-in-Some.ensures.is (left _ (Some c.in-Some-2.hit) c.word-in-Some.result.now.conditions.items c.condition_of-condition.result c.in-Some-2.is c.in_ok-narrow-in-Some.ensures.those_that_meet) in
    let miss = miss_cut c.args.insns.now c.requires.program c.args.state c.args.insn c.requires.found c.condition_of-condition.result c.failing.result (meets_all c.in-Some.miss.conditions.items) c.word.result.now.conditions.items c.condition_of-condition.ensures.by_the_masked_word c.failing.ensures.opposite c.word.ensures.is (left _ (Some c.in-Some.miss) c.word.result.now.conditions.items c.failing.result c.in-Some.is c.in_ok-narrow.ensures.those_that_meet) in
    let first = c.with_word-other.ensures.sets_the_word ∙ ap (λ sets. set sets c.args.state.held.word c.in-Some-2.hit.conditions.items) c.in_ok-copy-in-Some-2.ensures.same in
    let second = c.with_word.ensures.sets_the_word in (
      cut_leads c.args.insns.now c.requires.program c.args.state c.args.insn c.requires.found c.requires.code _ true
          c.in-Some-2.hit.conditions.items hit first refl refl,
      cut_leads c.args.insns.now c.requires.program c.args.state c.args.insn c.requires.found c.requires.code _ false
          c.in-Some.miss.conditions.items miss second refl refl,
      c.if-hit_at-miss_at.false,
      λ input comes. cut_either c.args.insns.now c.requires.program c.args.state c.args.insn c.requires.found
          (record { at = c.args.state.at + 1 + c.args.insn.jt; held = c.args.state.held; region = c.with_word-other.result })
          (record { at = c.args.state.at + 1 + c.args.insn.jf; held = c.args.state.held; region = c.with_word.result })
          c.in-Some-2.hit.conditions.items c.in-Some.miss.conditions.items input hit miss first second comes,
    )
