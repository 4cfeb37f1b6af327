-- The lines of `effect`.
use Rattle.std.specs.Prelude.{ℕ, Bool, true, false, List, [], ◌∷◌, ◌++◌, codes, count_by, flat_map, map}
use Rattle.std.specs.Fmt.{decimal}
use Rattle.asked_service.specs.abs_path.Paths.{Path, text_of}
use Rattle.asked_service.specs.call_table.Table as calls
use Rattle.asked_service.specs.site_table.Table.{Site}
use Rattle.asked_service.specs.text_forms.Escaped.{escaped_word}
use Rattle.asked_service.specs.kernel_model.declared.kernel_calls.call.Call.{Call}
use Rattle.asked_service.specs.kernel_laws.declared.question_types.question.Question.{Question}
use Rattle.asked_service.specs.report_text.Answers.{call_line, question_line}
use Rattle.asked_service.specs.verdict_changes.Changes.{Change, Closed, Hidden, Opened, Shown}
use Rattle.effect_command.specs.declared.kinds.Kind.{Kind}
use Rattle.effect_command.specs.declared.kinds.Kind.TheVariants as kind

-- a refusal of the unit with the drop-in
abbrev pub with_line : List ℕ → List ℕ
with_line line = codes "with " ++ line

-- a word and a folder
abbrev pub folder_line : List ℕ → Path → List ℕ
folder_line word folder = word ++ (codes " " ++ (escaped_word (text_of folder) ++ 10 ∷ []))

-- a change. The calls that reach a newly open question follow it, as in a report
abbrev pub change_lines : calls.Table → Site → Change → List ℕ
change_lines table site (Closed question) = question_line (codes "closed") table site question
change_lines table site (Opened question list) = question_line (codes "opened") table site question ++ flat_map (call_line table) list
change_lines table site (Hidden folder) = folder_line (codes "hidden") folder
change_lines table site (Shown folder) = folder_line (codes "shown") folder

abbrev pub kind_of : Change → Kind
kind_of (Closed question) = kind.Closed
kind_of (Opened question list) = kind.Opened
kind_of (Hidden folder) = kind.Hidden
kind_of (Shown folder) = kind.Shown

abbrev pub is_same : Kind → Kind → Bool
is_same kind.Closed kind.Closed = true
is_same kind.Opened kind.Opened = true
is_same kind.Hidden kind.Hidden = true
is_same kind.Shown kind.Shown = true
is_same _ _ = false

-- how many changes are of a kind
abbrev pub count_of : Kind → List Kind → ℕ
count_of wanted kinds = count_by (is_same wanted) kinds

-- how many there are of each kind
abbrev pub counts_line : List Kind → List ℕ
counts_line kinds =
    codes "effect closed " ++ (decimal (count_of kind.Closed kinds) ++ (codes " opened " ++ (decimal (count_of kind.Opened kinds)
    ++ (codes " hidden " ++ (decimal (count_of kind.Hidden kinds) ++
    (codes " shown " ++ (decimal (count_of kind.Shown kinds) ++ 10 ∷ [])))))))

-- the changes in their order, and their counts
abbrev pub effect_text : calls.Table → Site → List Change → List ℕ
effect_text table site changes = flat_map (change_lines table site) changes ++ counts_line (map kind_of changes)
