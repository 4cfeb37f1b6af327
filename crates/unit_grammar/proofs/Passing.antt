-- A line of the file moves the reader on.
use Rattle.std.proofs.Common.{◌≡◌, ℕ, ◌+◌, false, cond, Option, Some, None, Result, Ok, Err, List, [], ◌∷◌, ◌++◌, refl, sym, ap, ◌∙◌, subst}
use Rattle.std.proofs.Common.{append-nil, append_assoc}
use Rattle.unit_grammar.specs.declared.joined.Line.{Line}
use Rattle.unit_grammar.specs.declared.unit.Assignment.{Assignment}
use Rattle.unit_grammar.specs.declared.notes.Note.{Note}
use Rattle.unit_grammar.specs.declared.unit.UnitError.{UnitError}
use Rattle.unit_grammar.specs.Spaces.{continues}
use Rattle.unit_grammar.specs.Joining.{opened, attached, joined, with_open, extended}
use Rattle.unit_grammar.specs.Progress.{HasRead, Takes, StandsBefore, Passes}
use Rattle.unit_grammar.proofs.Steps.{stops}

with_open-whole : (begun : Option Line) (part : Line) (lines : List Line) → with_open begun (part ∷ lines) ≡ extended begun part ∷ lines
with_open-whole None part lines = refl
with_open-whole (Some front) part lines = refl

joined_whole : (part : Line) (parts : List Line) → continues part.text ≡ false → joined (part ∷ parts) ≡ part ∷ joined parts
joined_whole part parts e = ap (λ b. cond b (attached (opened part) (joined parts)) (part ∷ joined parts)) e

-- a part ends a joined line
line_ends : (lines : List Line) (begun : Option Line) (part : Line) (parts : List Line) (section : Option (List ℕ))
    (assignments : List Assignment) (notes : List Note) → continues part.text ≡ false
    → (s : StandsBefore lines begun (part ∷ parts) section assignments notes) → lines ≡ s.front ++ extended begun part ∷ joined parts
line_ends lines begun part parts section assignments notes e s =
    s.whole ∙ ap (λ ls. s.front ++ with_open begun ls) (joined_whole part parts e)
    ∙ ap (λ ls. s.front ++ ls) (with_open-whole begun part (joined parts))

passes_none : (lines : List Line) (begun : Option Line) (part line : Line) (parts : List Line) (section section' : Option (List ℕ))
    (assignments assignments' : List Assignment) (notes notes' : List Note) (result : Result (Unit {0}) UnitError)
    → continues part.text ≡ false → line ≡ extended begun part → (s : StandsBefore lines begun (part ∷ parts) section assignments notes)
    → Takes s.front line result section' assignments' notes' → Passes lines parts result None section' assignments' notes'
passes_none lines begun part line parts section section' assignments assignments' notes notes' (Ok done) e same s t = record {
  front = s.front ++ line ∷ [];
  read = t;
  whole = line_ends lines begun part parts section assignments notes e s ∙ ap (λ l. s.front ++ l ∷ joined parts) (sym same)
      ∙ sym (append_assoc s.front (line ∷ []) (joined parts));
}
passes_none lines begun part line parts section section' assignments assignments' notes notes' (Err error) e same s t =
    stops lines s.front line (joined parts) section section' assignments assignments' notes notes' error
    (line_ends lines begun part parts section assignments notes e s ∙ ap (λ l. s.front ++ l ∷ joined parts) (sym same)) s.read t

pub passes_whole : (lines : List Line) (begun begun' : Option Line) (part line : Line) (parts : List Line)
    (section section' : Option (List ℕ)) (assignments assignments' : List Assignment) (notes notes' : List Note)
    (result : Result (Unit {0}) UnitError) → continues part.text ≡ false → line ≡ extended begun part → begun' ≡ None
    → (s : StandsBefore lines begun (part ∷ parts) section assignments notes) → Takes s.front line result section' assignments' notes'
    → Passes lines parts result begun' section' assignments' notes'
passes_whole lines begun begun' part line parts section section' assignments assignments' notes notes' result e same none s t =
    subst (λ b. Passes lines parts result b section' assignments' notes') (sym none)
    (passes_none lines begun part line parts section section' assignments assignments' notes notes' result e same s t)

-- a line has begun when the file ends
ends_none : (lines : List Line) (begun : Option Line) (line : Line) (section section' : Option (List ℕ))
    (assignments assignments' : List Assignment) (notes notes' : List Note) (result : Result (Unit {0}) UnitError) → begun ≡ Some line
    → (s : StandsBefore lines begun [] section assignments notes) → Takes s.front line result section' assignments' notes'
    → Passes lines [] result None section' assignments' notes'
ends_none lines begun line section section' assignments assignments' notes notes' (Ok done) e s t = record {
  front = s.front ++ line ∷ [];
  read = t;
  whole = s.whole ∙ ap (λ b. s.front ++ with_open b []) e ∙ sym (append-nil (s.front ++ line ∷ []));
}
ends_none lines begun line section section' assignments assignments' notes notes' (Err error) e s t =
    stops lines s.front line [] section section' assignments assignments' notes notes' error
    (s.whole ∙ ap (λ b. s.front ++ with_open b []) e) s.read t

pub passes_begun : (lines : List Line) (begun begun' : Option Line) (line : Line) (section section' : Option (List ℕ))
    (assignments assignments' : List Assignment) (notes notes' : List Note) (result : Result (Unit {0}) UnitError) → begun ≡ Some line
    → begun' ≡ None → (s : StandsBefore lines begun [] section assignments notes) → Takes s.front line result section' assignments' notes'
    → Passes lines [] result begun' section' assignments' notes'
passes_begun lines begun begun' line section section' assignments assignments' notes notes' result e none s t =
    subst (λ b. Passes lines [] result b section' assignments' notes') (sym none)
    (ends_none lines begun line section section' assignments assignments' notes notes' result e s t)

pub nothing_left : (lines : List Line) (begun : Option Line) (section : Option (List ℕ)) (assignments : List Assignment)
    (notes : List Note) → begun ≡ None → StandsBefore lines begun [] section assignments notes → HasRead lines section assignments notes
nothing_left lines begun section assignments notes none s =
    subst (λ ls. HasRead ls section assignments notes) (sym (s.whole ∙ ap (λ b. s.front ++ with_open b []) none ∙ append-nil s.front))
    s.read
