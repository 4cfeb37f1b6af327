use Rattle.std.proofs.Common.{◌≡◌, ℕ, ◌+◌, ◌<◌, ◌≤◌, ◌++◌, [], ◌∷◌, List, length, map, take, get_or, refl, sym, ap, ◌∙◌, subst, arith}
use Rattle.std.proofs.lemmas.List.{take_more, take_all, map-append, get_or_default}
use Rattle.std.proofs.lemmas.List.Elements.{All-get_or}
use Rattle.call_table.specs.declared.listed.CallLine.{CallLine}
use Rattle.call_table.specs.declared.by_number.Numbered.{Numbered}
use Rattle.call_table.specs.ByNumber.{AscendsByNumber}
use Rattle.call_table.specs.Table.{calls_in}
use Rattle.filter_settings.specs.filter_rules.Order.{Ascends}
use Rattle.filter_settings.proofs.Ordered.{line_at, no_line, within, ascends}
use Rattle.filter_settings.proofs.filter_rules.order.ascending.Goals as goal

-- the position at an index is within the calls
below : (calls lines : List CallLine) (order : List Numbered) (i : ℕ) → lines ≡ calls → AscendsByNumber calls order → i < length order
    → (get_or order i (record { number = 0; position = 0 })).position < length lines
below calls lines order i e h lt = subst (λ ls. (get_or order i (record { number = 0; position = 0 })).position < length ls) (sym e)
    (All-get_or (λ numbered. numbered.position < length calls) order i (record { number = 0; position = 0 }) lt (within calls order h))

pub bounds-calls-numbered : goal.bounds-calls-numbered
bounds-calls-numbered c = below (calls_in c.args.table.now c.args.abi) c.calls_in-calls.result.now
    c.by_number_in-numbered-items.result.now c.loop-numbered.numbered-index c.calls_in-calls.ensures.lists
    c.by_number_in-numbered-items.ensures.ascends c.loop-numbered-test.true

pub offset_bounds-calls-numbered : goal.offset_bounds-calls-numbered
offset_bounds-calls-numbered c =
    let few = c.calls_in-calls.ensures.names_and_numbers_once.few in
    let in_calls = below (calls_in c.args.table.now c.args.abi) (calls_in c.args.table.now c.args.abi) c.by_number_in-numbered-items.result.now c.loop-numbered.numbered-index refl c.by_number_in-numbered-items.ensures.ascends c.loop-numbered-test.true in
    omega arith

-- one more call
more : (calls done : List CallLine) (call : CallLine) (order : List Numbered) (i : ℕ) →
    i < length order → (get_or order i (record { number = 0; position = 0 })).position < length calls →
    call ≡ get_or calls (get_or order i (record { number = 0; position = 0 })).position call →
    done ≡ map (line_at calls) (take i order) → done ++ call ∷ [] ≡ map (line_at calls) (take (i + 1) order)
more calls done call order i lt in_calls is h =
    let numbered : Numbered = get_or order i (record { number = 0; position = 0 }) in
    let same : call ≡ line_at calls numbered = is ∙ get_or_default calls numbered.position call (no_line numbered.number) in_calls in
    ap (λ ls. ls ++ call ∷ []) h
    ∙ ap (λ l. map (line_at calls) (take i order) ++ l ∷ []) same
    ∙ sym (ap (map (line_at calls)) (take_more order i (record { number = 0; position = 0 }) lt)
    ∙ map-append (line_at calls) (take i order) (numbered ∷ []))

pub loop-numbered-preserved : goal.loop-numbered-preserved
loop-numbered-preserved c =
    let order = c.by_number_in-numbered-items.result.now in
    let i = c.loop-numbered.numbered-index in
    ap (map (λ call. call.now)) c.in_ok-push.ensures.items
    ∙ map-append (λ call. call.now) c.loop-numbered.ordered.items _
    ∙ more c.calls_in-calls.result.now _ c.index-calls-numbered.result order i c.loop-numbered-test.true
    (below (calls_in c.args.table.now c.args.abi) c.calls_in-calls.result.now order i c.calls_in-calls.ensures.lists
    c.by_number_in-numbered-items.ensures.ascends c.loop-numbered-test.true)
    c.index-calls-numbered.is c.loop-numbered.invariant

-- all of them
whole : (calls lines done : List CallLine) (order : List Numbered) (i : ℕ) → lines ≡ calls → AscendsByNumber calls order
    → length order ≤ i → done ≡ map (line_at lines) (take i order) → Ascends calls done
whole calls lines done order i e h ge is =
    subst (Ascends calls) (sym (is ∙ ap (λ ls. map (line_at ls) (take i order)) e ∙ ap (map (line_at calls)) (take_all i order ge)))
    (ascends calls order h)

pub returns : goal.returns
returns c = record {
  ascending = whole (calls_in c.args.table.now c.args.abi) c.calls_in-calls.result.now _
      c.by_number_in-numbered-items.result.now c.loop-numbered.numbered-index c.calls_in-calls.ensures.lists
      c.by_number_in-numbered-items.ensures.ascends c.loop-numbered-test.false c.loop-numbered.invariant;
}
