-- The text of the changes is what is told of each question and of each row.
use Rattle.std.proofs.Common.{◌≡◌, ◌∙◌, ℕ, List, [], ◌∷◌, ◌++◌, append-nil, ap, ap₂, refl, sym}
use Rattle.std.specs.Prelude.{flat_map, map}
use Rattle.std.proofs.lemmas.List.Concat.{flat_map-append}
use Rattle.std.proofs.lemmas.List.{map-append}
use Rattle.asked_service.specs.Asking.{launch_in, world_in}
use Rattle.asked_service.specs.declared.asking.Asked.{Asked}
use Rattle.asked_service.specs.kernel_laws.declared.question_types.question.Question.{Question}
use Rattle.asked_service.specs.site_table.declared.row.Row.{Row}
use Rattle.asked_service.specs.abs_path.Paths.{Path}
use Rattle.asked_service.specs.call_table.Table.{Table}
use Rattle.asked_service.specs.site_table.Table.{Site}
use Rattle.asked_service.specs.verdict_changes.Found.{change_of, turn_of}
use Rattle.asked_service.specs.declared.verdict_changes.asking.VerdictChange.{VerdictChange}
use Rattle.asked_service.specs.declared.verdict_changes.asking.VerdictChange.TheVariants as verdict
use Rattle.asked_service.specs.declared.verdict_changes.looking.FolderChange.{FolderChange}
use Rattle.asked_service.specs.declared.verdict_changes.looking.FolderChange.TheVariants as folder
use Rattle.asked_service.specs.verdict_changes.ByRule.{changes_by, question_change, row_change}
use Rattle.asked_service.specs.verdict_changes.Changes.{Change}
use Rattle.effect_command.specs.Lines.{change_lines, counts_line, effect_text, kind_of}
use Rattle.effect_command.specs.Told.{changes_at, folder_kinds, folder_lines, lines_in, told_text, turns_at, verdict_kinds, verdict_lines}

module _ {X Y Z : Type 0} where
  flattened : (f : Y → List Z) (g : X → List Y) (xs : List X) → flat_map (λ x. flat_map f (g x)) xs ≡ flat_map f (flat_map g xs)
  flattened f g [] = refl
  flattened f g (x ∷ xs) = ap (λ rest. flat_map f (g x) ++ rest) (flattened f g xs) ∙ sym (flat_map-append f (g x) (flat_map g xs))

  mapped : (f : Y → Z) (g : X → List Y) (xs : List X) → flat_map (λ x. map f (g x)) xs ≡ map f (flat_map g xs)
  mapped f g [] = refl
  mapped f g (x ∷ xs) = ap (λ rest. map f (g x) ++ rest) (mapped f g xs) ∙ sym (map-append f (g x) (flat_map g xs))

module _ (before after : Asked) (list : List Question) (rows : List Row) where
  abbrev ruled : List Change
  ruled = flat_map (question_change (launch_in before) (launch_in after) after.bounded.service.program) list

  abbrev seen : List Change
  seen = flat_map (row_change (launch_in before) (launch_in after)) rows

  same_asked : flat_map (changes_at before after) list ≡ ruled
  same_asked = refl

  asked_lines : flat_map (λ question. lines_in after (changes_at before after question)) list ≡ lines_in after ruled
  asked_lines = flattened (change_lines (world_in after).calls (world_in after).site) (changes_at before after) list
      ∙ ap (lines_in after) same_asked

  asked_kinds : flat_map (λ question. map kind_of (changes_at before after question)) list ≡ map kind_of ruled
  asked_kinds = mapped kind_of (changes_at before after) list ∙ ap (map kind_of) same_asked

  seen_lines : flat_map (λ row. lines_in after (turns_at before after row)) rows ≡ lines_in after seen
  seen_lines = flattened (change_lines (world_in after).calls (world_in after).site) (turns_at before after) rows

  seen_kinds : flat_map (λ row. map kind_of (turns_at before after row)) rows ≡ map kind_of seen
  seen_kinds = mapped kind_of (turns_at before after) rows

  all_told :
      (flat_map (λ question. lines_in after (changes_at before after question)) list ++ flat_map
      (λ row. lines_in after (turns_at before after row)) rows)
      ++ counts_line (flat_map (λ question. map kind_of (changes_at before after question)) list ++ flat_map
      (λ row. map kind_of (turns_at before after row)) rows)
      ≡ effect_text (world_in after).calls (world_in after).site
      (changes_by (launch_in before) (launch_in after) after.bounded.service.program list rows)
  all_told =
      ap₂ (λ lines kinds. lines ++ counts_line kinds)
      (ap₂ (λ one other. one ++ other) asked_lines seen_lines
      ∙ sym (flat_map-append (change_lines (world_in after).calls (world_in after).site) ruled seen))
      (ap₂ (λ one other. one ++ other) asked_kinds seen_kinds ∙ sym (map-append kind_of ruled seen))

-- what is told of what is found is what is told of the change
pub verdict_told : (after : Asked) (table : Table) (site : Site) (question : Question) (found : VerdictChange) (changes : List Change)
    → table ≡ (world_in after).calls → site ≡ (world_in after).site → change_of question found ≡ changes
    → verdict_lines table site question found ≡ lines_in after changes
verdict_told after table site question found changes tables sites is =
    by found ∙ ap₂ (λ (t : Table) (s : Site). flat_map (change_lines t s) (change_of question found)) tables sites ∙ ap (lines_in after) is
  where
    by : (found : VerdictChange) → verdict_lines table site question found ≡ flat_map (change_lines table site) (change_of question found)
    by verdict.Same = refl
    by verdict.Closed = sym (append-nil _)
    by (verdict.Opened list) = sym (append-nil _)

pub verdict_counted : (question : Question) (found : VerdictChange) (changes : List Change) → change_of question found ≡ changes
    → verdict_kinds found ≡ map kind_of changes
verdict_counted question found changes is = by found ∙ ap (map kind_of) is where
  by : (found : VerdictChange) → verdict_kinds found ≡ map kind_of (change_of question found)
  by verdict.Same = refl
  by verdict.Closed = refl
  by (verdict.Opened list) = refl

pub folder_told : (after : Asked) (path : Path) (found : FolderChange) (changes : List Change) → turn_of path found ≡ changes
    → folder_lines path found ≡ lines_in after changes
folder_told after path found changes is = by found ∙ ap (lines_in after) is where
  by : (found : FolderChange) → folder_lines path found ≡ lines_in after (turn_of path found)
  by folder.Same = refl
  by folder.Hidden = sym (append-nil _)
  by folder.Shown = sym (append-nil _)

pub folder_counted : (path : Path) (found : FolderChange) (changes : List Change) → turn_of path found ≡ changes
    → folder_kinds found ≡ map kind_of changes
folder_counted path found changes is = by found ∙ ap (map kind_of) is where
  by : (found : FolderChange) → folder_kinds found ≡ map kind_of (turn_of path found)
  by folder.Same = refl
  by folder.Hidden = refl
  by folder.Shown = refl

-- piece behind piece
pub told_is : (before after : Asked) (list : List Question) (rows : List Row) (first second last : List ℕ) (text : List ℕ)
    → list ≡ after.questions.items → rows ≡ (world_in after).site.rows
    → first ≡ flat_map (λ question. lines_in after (changes_at before after question)) list
    → second ≡ first ++ flat_map (λ row. lines_in after (turns_at before after row)) rows
    → last ≡ counts_line (flat_map (λ question. map kind_of (changes_at before after question)) list ++ flat_map
    (λ row. map kind_of (turns_at before after row)) rows)
    → text ≡ second ++ last → text ≡ told_text before after
told_is before after list rows first second last text listed all one two three is =
    is ∙ ap₂ (λ these line. these ++ line)
    (two ∙ ap (λ these. these ++ flat_map (λ row. lines_in after (turns_at before after row)) rows) one) three
    ∙ all_told before after list rows
    ∙ ap₂ (λ own these. effect_text (world_in after).calls (world_in after).site
    (changes_by (launch_in before) (launch_in after) after.bounded.service.program own these)) listed all
