-- The changes by the rules are those that are.
use Rattle.std.proofs.Common.{◌≡◌, Bool, true, false, List, [], ◌∷◌, ◌++◌, ap₂, refl, subst}
use Rattle.std.specs.Prelude.{◌&&◌, flat_map, map, if◌then◌else◌}
use Rattle.std.specs.List.{AllByRecursion}
use Rattle.judge.specs.abs_path.ByteOrder.{AreAscending, is_before}
use Rattle.judge.specs.abs_path.Paths.{Path}
use Rattle.open_calls.specs.chosen_calls.Chosen.{calls_for}
use Rattle.asked_service.specs.Answers.{Denied, Open, IsTrueAnswer}
use Rattle.asked_service.specs.ByRule.{AnswersAreTrue, answer_of}
use Rattle.judge.specs.kernel_laws.Blind.{IsFolder, is_blind}
use Rattle.judge.specs.kernel_laws.Bound.{is_open}
use Rattle.judge.specs.kernel_laws.Launched.{launch_of}
use Rattle.judge.specs.kernel_laws.declared.question_types.question.Question.{Question}
use Rattle.judge.specs.kernel_laws.Questions.{questions}
use Rattle.judge.specs.kernel_model.World.{World}
use Rattle.judge.specs.kernel_ways.Blindness.{BlindIsExact}
use Rattle.judge.specs.kernel_ways.Laws.{IsServedWorld}
use Rattle.judge.specs.site_table.Kinds.{is_dir}
use Rattle.judge.specs.site_table.Table.{IsRowOf, Site}
use Rattle.judge.specs.site_table.declared.row.Row.{Row}
use Rattle.asked_service.specs.verdict_changes.ByRule.{ChangesAreTrue, blind_change, question_change, row_change, verdict_change}
use Rattle.asked_service.specs.verdict_changes.Changes.{Change, ChangesFolders, ChangesVerdicts, both_blind, both_denied}
use Rattle.asked_service.specs.verdict_changes.Changes.{both_open, both_seen, closed, folder_in, hidden, no_folder, no_question, no_row}
use Rattle.asked_service.specs.verdict_changes.Changes.{opened, shown}

-- what holds of the paths of all rows holds of the folders that change
folders_hold : {before after : World} {rows : List Row} {changes : List Change} (P : Path → Type 0)
    → ChangesFolders before after rows changes → AllByRecursion P (map (λ row. row.path) rows)
    → AllByRecursion P (flat_map folder_in changes)
folders_hold P no_row all = tt
folders_hold P (no_folder row rest changes other more) all = folders_hold P more all.1
folders_hold P (both_blind row rest changes was is more) all = folders_hold P more all.1
folders_hold P (both_seen row rest changes was is more) all = folders_hold P more all.1
folders_hold P (hidden row rest changes dir was is more) all = (all.0, folders_hold P more all.1)
folders_hold P (shown row rest changes dir was is more) all = (all.0, folders_hold P more all.1)

folders_ascend : {before after : World} {rows : List Row} {changes : List Change} → ChangesFolders before after rows changes
    → AreAscending (map (λ row. row.path) rows) → AreAscending (flat_map folder_in changes)
folders_ascend no_row ascend = tt
folders_ascend (no_folder row rest changes other more) ascend = folders_ascend more ascend.1
folders_ascend (both_blind row rest changes was is more) ascend = folders_ascend more ascend.1
folders_ascend (both_seen row rest changes was is more) ascend = folders_ascend more ascend.1
folders_ascend (hidden row rest changes dir was is more) ascend =
    (folders_hold (λ later. is_before row.path later ≡ true) more ascend.0, folders_ascend more ascend.1)
folders_ascend (shown row rest changes dir was is more) ascend =
    (folders_hold (λ later. is_before row.path later ≡ true) more ascend.0, folders_ascend more ascend.1)

module _ (before after : World) (first program : Path) where
  verdicts_change : (list : List Question) → AllByRecursion (IsTrueAnswer before) (map (answer_of (launch_of before) first) list)
      → AllByRecursion (IsTrueAnswer after) (map (answer_of (launch_of after) program) list)
      → ChangesVerdicts before after list (flat_map (question_change (launch_of before) (launch_of after) program) list)
  verdicts_change [] one other = no_question
  verdicts_change (question ∷ list) one other = by (is_open (launch_of before) question)
      (is_open (launch_of after) question) one.0 other.0 (verdicts_change list one.1 other.1)
    where
      by : (was is : Bool) → IsTrueAnswer before
          (if was then Open question (calls_for (launch_of before) first question) else Denied question)
          → IsTrueAnswer after (if is then Open question (calls_for (launch_of after) program question) else Denied question)
          → ChangesVerdicts before after list (flat_map (question_change (launch_of before) (launch_of after) program) list)
          → ChangesVerdicts before after (question ∷ list)
          (verdict_change was is question (calls_for (launch_of after) program question) ++ flat_map
          (question_change (launch_of before) (launch_of after) program) list)
      by true true one other more = both_open question list _ (calls_for (launch_of before) first question, one)
          (calls_for (launch_of after) program question, other) more
      by true false one other more = closed question list _ (calls_for (launch_of before) first question, one) other more
      by false true one other more = opened question (calls_for (launch_of after) program question) list _ one other more
      by false false one other more = both_denied question list _ one other more

  module _ (exact : BlindIsExact) (served_before : IsServedWorld before) (served : IsServedWorld after) where
    folder : (all : List Row) (row : Row) → IsRowOf all row → IsFolder row.path
    folder all row is = record { normal = is.normal; short = is.short }

    folders_change : (all rows : List Row) → AllByRecursion (IsRowOf all) rows
        → ChangesFolders before after rows (flat_map (row_change (launch_of before) (launch_of after)) rows)
    folders_change all [] are = no_row
    folders_change all (row ∷ rows) are =
        by (is_dir row.kind) refl (is_blind (launch_of before) row.path) refl (is_blind (launch_of after) row.path) refl
        (folders_change all rows are.1)
      where
        by : (dir : Bool) → is_dir row.kind ≡ dir → (was : Bool) → is_blind (launch_of before) row.path ≡ was → (is : Bool)
            → is_blind (launch_of after) row.path ≡ is
            → ChangesFolders before after rows (flat_map (row_change (launch_of before) (launch_of after)) rows)
            → ChangesFolders before after (row ∷ rows)
            (blind_change (dir && was) (dir && is) row.path ++ flat_map (row_change (launch_of before) (launch_of after)) rows)
        by false e was f is g more = no_folder row rows _ e more
        by true e true f true g more = both_blind row rows _ ((exact before row.path served_before (folder all row are.0)).hides f)
            ((exact after row.path served (folder all row are.0)).hides g) more
        by true e true f false g more = shown row rows _ e ((exact before row.path served_before (folder all row are.0)).hides f)
            ((exact after row.path served (folder all row are.0)).exposes g) more
        by true e false f true g more = hidden row rows _ e ((exact before row.path served_before (folder all row are.0)).exposes f)
            ((exact after row.path served (folder all row are.0)).hides g) more
        by true e false f false g more = both_seen row rows _ ((exact before row.path served_before (folder all row are.0)).exposes f)
            ((exact after row.path served (folder all row are.0)).exposes g) more

pub changes_are_true : AnswersAreTrue → BlindIsExact → ChangesAreTrue
changes_are_true answers exact table site before after first program served_before runs_before served runs calls_before site_before
    calls_after site_after =
    let folders = folders_change before after first program exact served_before served site.rows site.rows (subst (λ (own : Site). AllByRecursion (IsRowOf own.rows) own.rows) site_after served.offers.site.each_row) in
    record {
      verdicts = flat_map (question_change (launch_of before) (launch_of after) program) (questions table site);
      folders = flat_map (row_change (launch_of before) (launch_of after)) site.rows;
      each_question = verdicts_change before after first program (questions table site)
          (subst (λ list. AllByRecursion (IsTrueAnswer before) (map (answer_of (launch_of before) first) list))
          (ap₂ questions calls_before site_before) (answers before first served_before runs_before).each_is_true)
          (subst (λ list. AllByRecursion (IsTrueAnswer after) (map (answer_of (launch_of after) program) list))
          (ap₂ questions calls_after site_after) (answers after program served runs).each_is_true);
      each_folder = folders;
      in_byte_order = folders_ascend folders
          (subst (λ (own : Site). AreAscending (map (λ row. row.path) own.rows)) site_after served.offers.site.ascending);
      one_behind_the_other = refl;
    }
