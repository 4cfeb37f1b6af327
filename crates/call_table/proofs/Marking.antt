-- Calls have marks, and some positions are marked.
use Rattle.std.proofs.Common.{◌≡◌, ℕ, ◌+◌, ◌<◌, Bool, true, false, cond, List, [], ◌∷◌, length, map, filter, get_or, Option, Some, refl}
use Rattle.std.proofs.Common.{sym, ap, ◌∙◌, arith}
use Rattle.std.specs.Prelude.{◌||◌, ◌==◌, slice_set}
use Rattle.std.specs.List.{enumerate_from}
use Rattle.std.specs.Option.{option_map_or}
use Rattle.std.proofs.lemmas.List.{length-map, get_or-map, same_lists, get_or_default}
use Rattle.std.proofs.lemmas.Grind.{common_steps}
use Rattle.std.proofs.Math.ListN.{length-set}
use Rattle.std.proofs.lemmas.List.FromFn.{length-enumerate_from, get_or-enumerate_from}
use Rattle.call_table.specs.declared.listed.CallLine.{CallLine}
use Rattle.call_table.specs.declared.listed.GroupLine.{GroupLine}
use Rattle.call_table.specs.Lookups.{place_named}
use Rattle.call_table.specs.Members.{is_first, is_member, members_of}
use Rattle.call_table.specs.Marks.{Marks}

pub marks_call : (calls : List CallLine) (word : List ℕ) (place : ℕ) (old : List Bool) → length old ≡ length calls
    → place_named word calls ≡ Some place
    → (call : ℕ × CallLine → Bool) → ((c : ℕ × CallLine) → call c ≡ is_first calls word c.0)
    → Marks calls call old (slice_set old place true)
marks_call calls word place old many found call same = record {
  as_many = length-set old place true ∙ many;
  each = λ at d lt. written at d lt ∙ ap (λ b. get_or old at false || b)
      (sym (same (at, get_or calls at d) ∙ ap (λ (o : Option ℕ). option_map_or (λ p. p == at) o false) found));
}
  where
    written : (at : ℕ) (d : CallLine) → at < length calls → get_or (slice_set old place true) at false
        ≡ (get_or old at false || (place == at))
    written at d lt = let low : at < length old = omega arith in grind (arith, common_steps)

-- marks that begin empty are the test of each call
marks_are : (calls : List CallLine) (test : ℕ × CallLine → Bool) (old new : List Bool) → ((at : ℕ) → get_or old at false ≡ false)
    → Marks calls test old new → new ≡ map test (enumerate_from 0 calls)
marks_are [] test old new none h = empty new h.as_many
  where
    empty : (xs : List Bool) → length xs ≡ 0 → xs ≡ []
    empty [] e = refl
    empty (x ∷ xs) e = absurd (omega arith)
marks_are (first ∷ rest) test old new none h =
    let calls : List CallLine = first ∷ rest in
    same_lists new (map test (enumerate_from 0 calls)) (h.as_many
    ∙ sym (length-map (enumerate_from 0 calls) test ∙ length-enumerate_from 0 calls))
    (λ k d lt.
    let low : k < length calls = omega (arith, h.as_many) in
    let long = length-enumerate_from 0 calls in
    get_or_default new k d false lt ∙ h.each k first low ∙ ap (λ b. b || test (k, get_or calls k first)) (none k)
    ∙ sym (get_or-map test (enumerate_from 0 calls) k (0, first) d (omega arith)
    ∙ ap test (get_or-enumerate_from 0 calls k (0, first) low) ∙ ap (λ n. test (n, get_or calls k first)) (omega arith)))

picked : (n : ℕ) (calls : List CallLine) (test : ℕ × CallLine → Bool)
    → map (λ (mark : ℕ × Bool). mark.0) (filter (λ mark. mark.1) (enumerate_from n (map test (enumerate_from n calls))))
    ≡ map (λ (call : ℕ × CallLine). call.0) (filter test (enumerate_from n calls))
picked n [] test = refl
picked n (call ∷ calls) test = by (test (n, call)) (picked (n + 1) calls test)
  where
    by : (b : Bool) → map (λ (mark : ℕ × Bool). mark.0)
        (filter (λ mark. mark.1) (enumerate_from (n + 1) (map test (enumerate_from (n + 1) calls))))
        ≡ map (λ (c : ℕ × CallLine). c.0) (filter test (enumerate_from (n + 1) calls))
        → map (λ (mark : ℕ × Bool). mark.0)
        (cond b ((n, b) ∷ filter (λ mark. mark.1) (enumerate_from (n + 1) (map test (enumerate_from (n + 1) calls))))
        (filter (λ mark. mark.1) (enumerate_from (n + 1) (map test (enumerate_from (n + 1) calls)))))
        ≡ map (λ (c : ℕ × CallLine). c.0)
        (cond b ((n, call) ∷ filter test (enumerate_from (n + 1) calls)) (filter test (enumerate_from (n + 1) calls)))
    by true e = ap (λ ns. n ∷ ns) e
    by false e = e

pub marked_members : (calls : List CallLine) (groups : List GroupLine) (words : List (List ℕ)) (old new : List Bool)
    → ((at : ℕ) → get_or old at false ≡ false) → Marks calls (is_member calls groups words) old new
    → map (λ (mark : ℕ × Bool). mark.0) (filter (λ mark. mark.1) (enumerate_from 0 new)) ≡ members_of calls groups words
marked_members calls groups words old new none h =
    ap (λ marks. map (λ (mark : ℕ × Bool). mark.0) (filter (λ mark. mark.1) (enumerate_from 0 marks)))
    (marks_are calls (is_member calls groups words) old new none h) ∙ picked 0 calls (is_member calls groups words)
