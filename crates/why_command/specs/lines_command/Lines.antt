-- The lines of `why` and a unit alone.
use Rattle.std.specs.Prelude.{ℕ, ◌==◌, Bool, false, List, [], ◌∷◌, ◌++◌, Contains, codes, count_by, flat_map, length}
use Rattle.std.specs.Fmt.{decimal}
use Rattle.std.specs.List.{All}
use Rattle.asked_service.specs.call_table.Table as calls
use Rattle.asked_service.specs.dropin_merge.declared.resolved.UnitFile.{UnitFile}
use Rattle.asked_service.specs.report_text.Answers.{question_line}
use Rattle.asked_service.specs.kernel_laws.Questions.{questions}
use Rattle.why_command.specs.declared.opening_lines.alone.Alone.{Alone}
use Rattle.why_command.specs.declared.opening_lines.alone.Alone.TheVariants.{Opens, Needed}
use Rattle.why_command.specs.declared.opening_lines.each.LineAlone.{LineAlone}
use Rattle.asked_service.specs.site_table.Table.{Site}
use Rattle.why_command.specs.Lines.{place_words}

-- how many questions a line opens; or that it is needed
abbrev pub alone_words : Alone → List ℕ
alone_words (Opens opened) = codes " opens " ++ (decimal (length opened.items) ++ 10 ∷ [])
alone_words Needed = codes " needed" ++ 10 ∷ []

-- those questions, as `effect` prints a newly open question
abbrev pub opened_lines : calls.Table → Site → Alone → List ℕ
opened_lines table site (Opens opened) = flat_map (question_line (codes "opened") table site) opened.items
opened_lines table site Needed = []

-- an assignment in force, and below it what it opens
abbrev pub line_told : calls.Table → Site → List UnitFile → LineAlone → List ℕ
line_told table site files one =
    codes "line " ++ (place_words files one.line.now ++ (alone_words one.alone ++ opened_lines table site one.alone))

-- it opens nothing by itself
abbrev pub is_idle : Alone → Bool
is_idle (Opens opened) = length opened.items == 0
is_idle Needed = false

-- how many there are, and how many of them open nothing by themselves
abbrev pub counts_text : ℕ → ℕ → List ℕ
counts_text all idle = codes "lines " ++ (decimal all ++ (codes " idle " ++ (decimal idle ++ 10 ∷ [])))

abbrev pub counts_line : List LineAlone → List ℕ
counts_line told = counts_text (length told) (count_by (λ one. is_idle one.alone) told)

-- all of them, and their counts
abbrev pub lines_text : calls.Table → Site → List UnitFile → List LineAlone → List ℕ
lines_text table site files told = flat_map (line_told table site files) told ++ counts_line told

-- what a line opens is among the questions of the tables
abbrev pub IsListed : calls.Table → Site → Alone → Type 0
IsListed table site (Opens opened) = All (Contains (questions table site)) opened.items
IsListed table site Needed = Unit {0}
