use Rattle.std.proofs.Common.{◌≡◌, ◌++◌, ◌∷◌, [], sym, ◌∙◌, ap, subst, false, map, length, List, ℕ}
use Rattle.std.specs.List.{list_any, insert}
use Rattle.std.specs.Str.{bytes_eq}
use Rattle.std.proofs.lemmas.List.{length-map}
use Rattle.name_table.specs.Places.{ArePlaces}
use Rattle.name_table.proofs.Filing.{filed_more, not_among, names_more}
use Rattle.name_table.proofs.NameTable.push.Goals as goal

-- the names before
abbrev names : (g : _) → goal.In_ok-push g → List (List ℕ)
names g c = map g.L.Named.name_of c.deref.result.now

-- the names with the new one
longer : (g : _) (c : goal.In_ok-push g) → map g.L.Named.name_of c.push.new.self.items ≡ names g c ++ c.name.result.now ∷ []
longer g c =
    ap (map g.L.Named.name_of) c.in_ok-push.ensures.items
    ∙ ap (λ lines. map g.L.Named.name_of (lines ++ c.args.line ∷ [])) (c.reserve.ensures.items ∙ sym c.deref.ensures.value)
    ∙ names_more g.L.Named.name_of c.deref.result.now c.args.line
    ∙ ap (λ name. names g c ++ name ∷ []) (sym c.name.ensures)

-- the new place is the number of the names
next : (g : _) (c : goal.In_ok-push g) → c.len-place.result ≡ length (names g c)
next g c =
    c.len-place.ensures ∙ c.self.inside.lines.ok.0 ∙ ap length (sym c.deref.ensures.value)
    ∙ sym (length-map c.deref.result.now g.L.Named.name_of)

-- the places with the new one
filed : (g : _) (c : goal.In_ok-push g)
    → c.insert.new.self.items ≡ insert c.deref-2.result.now c.rank_of-rank.result (length (names g c))
filed g c = c.in_ok-insert.ensures.items ∙ (λ j. insert (sym c.deref-2.ensures.value j) c.rank_of-rank.result (next g c j))

-- no line has the name yet
absent : (g : _) (c : goal.In_ok-push g)
    → list_any (λ line. bytes_eq c.name.result.now (g.L.Named.name_of line)) c.deref.result.now ≡ false
absent g c =
    let lines = c.deref.ensures.value ∙ c.self.view_is in
    (λ j. list_any (λ line. bytes_eq (c.name.ensures j) (g.L.Named.name_of line)) (lines j)) ∙ c.requires.new_name

-- the places before
before : (g : _) (c : goal.In_ok-push g) → ArePlaces (names g c) c.deref-2.result.now
before g c =
    subst (λ lines. ArePlaces (map g.L.Named.name_of lines) c.deref-2.result.now) (sym c.deref.ensures.value)
    (subst (ArePlaces (map g.L.Named.name_of c.self.inside.lines.items)) (sym c.deref-2.ensures.value) c.self.invariant)

pub invariant_of-self-2 : goal.invariant_of-self-2
invariant_of-self-2 g c =
    let is_new = not_among g.L.Named.name_of c.name.result.now c.deref.result.now (absent g c) in
    let more =
    filed_more (names g c) c.deref-2.result.now (before g c) c.name.result.now c.rank_of-rank.result
    c.rank_of-rank.ensures.rank is_new in
    subst (λ names. ArePlaces names c.insert.new.self.items) (sym (longer g c))
    (subst (ArePlaces (names g c ++ c.name.result.now ∷ [])) (sym (filed g c)) more)
