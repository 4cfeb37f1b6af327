-- Each question of the list is put to what it is about.
use Rattle.std.proofs.Common.{◌≡◌, ℕ, Bool, true, false, List, [], ◌∷◌, ◌++◌, Option, Some, None, refl, ap, ◌∙◌, sym, subst, cond, eqb}
use Rattle.std.proofs.Common.{append_assoc, length, length-append, ◌≤◌, arith}
use Rattle.std.specs.Prelude.{map, not, slice_get, nat_lt, ◌+◌, IfSome, ◌&&◌}
use Rattle.std.specs.List.{AllByRecursion}
use Rattle.std.proofs.lemmas.Bool.{not-true}
use Rattle.launcher.specs.call_table.declared.listed.CallLine.{CallLine}
use Rattle.launcher.specs.call_table.Table as calls
use Rattle.launcher.specs.call_table.Members.{is_first}
use Rattle.launcher.specs.site_table.declared.row.Row.{Row}
use Rattle.launcher.specs.site_table.declared.accounts.User.{User}
use Rattle.launcher.specs.site_table.declared.accounts.Group.{Group}
use Rattle.launcher.specs.site_table.Table.{Site, IsSite, IsRowOf, IsUser, IsGroup}
use Rattle.launcher.specs.kernel_model.kernel_calls.Rules.{rule_of}
use Rattle.launcher.specs.site_table.Kinds.{is_dir, is_exe}
use Rattle.launcher.proofs.OfKernelModel.Lists.{each-append}
use Rattle.launcher.specs.kernel_laws.declared.question_types.question.Question.{Question}
use Rattle.launcher.specs.kernel_laws.declared.question_types.question.Question.TheVariants.{Path as ByPath, Call, Cap, Uid, Gid}
use Rattle.launcher.specs.kernel_laws.declared.question_types.wish.Wish.TheVariants.{Write as ToWrite, Exec as ToExec}
use Rattle.launcher.specs.kernel_laws.Questions.{is_plain, if_so, of_row, of_rows, of_calls, of_families, count_from, placed, ascending}
use Rattle.launcher.specs.kernel_laws.Questions.{some_ids, joined, uids_of, gids_of, other_questions, questions}
use Rattle.kernel_ways.specs.Laws.{IsFit, ListedAreFit}

abbrev AreSmall : List ℕ → Type 0
AreSmall ids = AllByRecursion (λ (id : ℕ). id ≤ 4294967294) ids

small_append : (a b : List ℕ) → AreSmall a → AreSmall b → AreSmall (a ++ b)
small_append [] b h g = g
small_append (id ∷ a) b h g = (h.0, small_append a b h.1 g)

small_placed : (id : ℕ) (ids : List ℕ) → id ≤ 4294967294 → AreSmall ids → AreSmall (placed id ids)
small_placed id [] h g = (h, tt)
small_placed id (other ∷ ids) h g = by (nat_lt id other) (eqb id other) (small_placed id ids h g.1)
  where
    by : (a b : Bool) → AreSmall (placed id ids) → AreSmall (cond a (id ∷ other ∷ ids) (cond b (other ∷ ids) (other ∷ placed id ids)))
    by true b more = (h, g)
    by false true more = g
    by false false more = (g.0, more)

small_ascending : (ids : List ℕ) → AreSmall ids → AreSmall (ascending ids)
small_ascending [] h = tt
small_ascending (id ∷ ids) h = small_placed id (ascending ids) h.0 (small_ascending ids h.1)

module _ (table : calls.Table) (site : Site) (ids : IsSite site) where
  abbrev AllFit : List Question → Type 0
  AllFit list = AllByRecursion (IsFit site) list

  fit_if : (b : Bool) (q : Question) → (b ≡ true → IsFit site q) → AllFit (if_so b q)
  fit_if true q h = (h refl, tt)
  fit_if false q h = tt

  get_at : (front : List Row) (row : Row) (rows : List Row) → slice_get (front ++ row ∷ rows) (length front) ≡ Some row
  get_at [] row rows = refl
  get_at (first ∷ front) row rows = get_at front row rows

  rows_fit : (front rows : List Row) → site.rows ≡ front ++ rows → AllFit (of_rows (length front) rows)
  rows_fit front [] whole = tt
  rows_fit front (row ∷ rows) whole =
      let at = length front in
      let next : site.rows ≡ (front ++ row ∷ []) ++ rows = whole ∙ sym (append_assoc front (row ∷ []) rows) in
      let count : length (front ++ row ∷ []) ≡ at + 1 = length-append front (row ∷ []) in
      let P : ℕ → Type 0 = λ n. AllFit (of_rows n rows) in
      let here : slice_get site.rows at ≡ Some row = ap (λ (l : List Row). slice_get l at) whole ∙ get_at front row rows in
      each-append (IsFit site) (of_row at row) (of_rows (at + 1) rows) (
        tt,
        (
          tt,
          each-append (IsFit site) (if_so (not (is_dir row.kind)) (ByPath ToWrite at)) (if_so (is_exe row.kind) (ByPath ToExec at))
              (fit_if (not (is_dir row.kind)) (ByPath ToWrite at) (λ e own listed. let same : row ≡ own = cc in ap (λ (r : Row). is_dir r.kind) (sym same) ∙ not-true (is_dir row.kind) e))
              (fit_if (is_exe row.kind) (ByPath ToExec at) (λ e own listed. let same : row ≡ own = cc in ap (λ (r : Row). is_exe r.kind) (sym same) ∙ e)),
        ),
      )
      (subst P count (rows_fit (front ++ row ∷ []) rows next))

  calls_fit : (every : List CallLine) (at : ℕ) (lines : List CallLine) → AllFit (of_calls every at lines)
  calls_fit every at [] = tt
  calls_fit every at (line ∷ lines) =
      let asked = is_plain (rule_of line) && is_first every line.name at in
      each-append (IsFit site) (if_so asked (Call at)) (of_calls every (at + 1) lines) (fit_if asked (Call at) (λ e. tt))
      (calls_fit every (at + 1) lines)

  families_fit : (at : ℕ) (lines : List CallLine) → AllFit (of_families at lines)
  families_fit at [] = tt
  families_fit at (line ∷ lines) = (tt, families_fit (at + 1) lines)

  caps_fit : (numbers : List ℕ) → AllFit (map Cap numbers)
  caps_fit [] = tt
  caps_fit (n ∷ numbers) = (tt, caps_fit numbers)

  uids_fit : (numbers : List ℕ) → AreSmall numbers → AllFit (map Uid numbers)
  uids_fit [] h = tt
  uids_fit (n ∷ numbers) h = (h.0, uids_fit numbers h.1)

  gids_fit : (numbers : List ℕ) → AreSmall numbers → AllFit (map Gid numbers)
  gids_fit [] h = tt
  gids_fit (n ∷ numbers) h = (h.0, gids_fit numbers h.1)

  others_fit : AllFit other_questions
  others_fit = (tt, (tt, (tt, (tt, (tt, (tt, (tt, (tt, (tt, (tt, (tt, (tt, (tt, tt)))))))))))))

  user_uids : (users : List User) → AllByRecursion IsUser users → AreSmall (map (λ user. user.uid) users)
  user_uids [] h = tt
  user_uids (user ∷ users) h = (h.0.uid, user_uids users h.1)

  user_gids : (users : List User) → AllByRecursion IsUser users → AreSmall (map (λ user. user.gid) users)
  user_gids [] h = tt
  user_gids (user ∷ users) h = (h.0.gid, user_gids users h.1)

  user_groups : (users : List User) → AllByRecursion IsUser users → AreSmall (joined (map (λ user. user.groups) users))
  user_groups [] h = tt
  user_groups (user ∷ users) h = small_append user.groups (joined (map (λ user. user.groups) users)) h.0.groups (user_groups users h.1)

  group_gids : (groups : List Group) → AllByRecursion IsGroup groups → AreSmall (map (λ group. group.gid) groups)
  group_gids [] h = tt
  group_gids (group ∷ groups) h = (h.0.gid, group_gids groups h.1)

  some_small : (o : Option ℕ) (ids : List (Option ℕ)) → IfSome o (λ id. id ≤ 4294967294) → AreSmall (some_ids ids)
      → AreSmall (some_ids (o ∷ ids))
  some_small None ids h g = g
  some_small (Some id) ids h g = (h, g)

  owner_uids : (rows : List Row) → AllByRecursion (IsRowOf site.rows) rows → AreSmall (some_ids (map (λ row. row.setuid) rows))
  owner_uids [] h = tt
  owner_uids (row ∷ rows) h = some_small row.setuid (map (λ row. row.setuid) rows) h.0.setuid (owner_uids rows h.1)

  owner_gids : (rows : List Row) → AllByRecursion (IsRowOf site.rows) rows → AreSmall (some_ids (map (λ row. row.setgid) rows))
  owner_gids [] h = tt
  owner_gids (row ∷ rows) h = some_small row.setgid (map (λ row. row.setgid) rows) h.0.setgid (owner_gids rows h.1)

  zero_small : 0 ≤ 4294967294
  zero_small = omega arith

  uids_small : AreSmall (uids_of site)
  uids_small =
      let list : List ℕ = 0 ∷ site.dynamic_uid ∷ map (λ user. user.uid) site.users ++ some_ids (map (λ row. row.setuid) site.rows) in
      let h : AreSmall list = (zero_small, (ids.dynamic_uid, small_append (map (λ user. user.uid) site.users) (some_ids (map (λ row. row.setuid) site.rows)) (user_uids site.users ids.each_user) (owner_uids site.rows ids.each_row))) in
      small_ascending list h

  gids_small : AreSmall (gids_of site)
  gids_small =
      let one : List ℕ = map (λ group. group.gid) site.groups in
      let two : List ℕ = map (λ user. user.gid) site.users in
      let three : List ℕ = joined (map (λ user. user.groups) site.users) in
      let four : List ℕ = some_ids (map (λ row. row.setgid) site.rows) in
      let h = small_append one two (group_gids site.groups ids.each_group) (user_gids site.users ids.each_user) in
      let h = small_append (one ++ two) three h (user_groups site.users ids.each_user) in
      let h = small_append ((one ++ two) ++ three) four h (owner_gids site.rows ids.each_row) in
      let list : List ℕ = 0 ∷ site.dynamic_uid ∷ (((one ++ two) ++ three) ++ four) in
      let h : AreSmall list = (zero_small, (ids.dynamic_uid, h)) in
      small_ascending list h

  pub all_fit : AllFit (questions table site)
  all_fit =
      let one : List Question = of_rows 0 site.rows ++ of_calls (calls.every_call table) 0 (calls.every_call table) in
      let two : List Question = one ++ of_families 0 table.families in
      let three : List Question = two ++ other_questions in
      let four : List Question = three ++ map Cap (count_from 0 41) in
      let five : List Question = four ++ map Uid (uids_of site) in
      let h = each-append (IsFit site) (of_rows 0 site.rows) (of_calls (calls.every_call table) 0 (calls.every_call table)) (rows_fit [] site.rows refl) (calls_fit (calls.every_call table) 0 (calls.every_call table)) in
      let h = each-append (IsFit site) one (of_families 0 table.families) h (families_fit 0 table.families) in
      let h = each-append (IsFit site) two other_questions h others_fit in
      let h = each-append (IsFit site) three (map Cap (count_from 0 41)) h (caps_fit (count_from 0 41)) in
      let h = each-append (IsFit site) four (map Uid (uids_of site)) h (uids_fit (uids_of site) uids_small) in
      each-append (IsFit site) five (map Gid (gids_of site)) h (gids_fit (gids_of site) gids_small)

pub listed_are_fit : ListedAreFit
listed_are_fit table site ids = all_fit table site ids
