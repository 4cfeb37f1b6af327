-- Each question of the list comes before the later ones.
use Rattle.std.proofs.Common.{◌≡◌, ◌<◌, ◌≤◌, inl, inr, ℕ, zero, suc, Bool, true, false, List, [], ◌∷◌, ◌++◌, ◌+◌, ◌*◌, map, refl, ◌∙◌, sym}
use Rattle.std.proofs.Common.{arith, get_or, length}
use Rattle.std.specs.Prelude.{not, nat_lt, ◌==◌, ◌||◌, ◌&&◌}
use Rattle.std.specs.List.{AllByRecursion, list_all}
use Rattle.std.proofs.lemmas.Bool.{and_parts, or_cases, not-true, eqb-true, ltb-true, ltb-false}
use Rattle.kernel_laws.specs.call_table.declared.listed.CallLine.{CallLine}
use Rattle.kernel_laws.specs.call_table.Members.{is_first}
use Rattle.kernel_laws.specs.call_table.Table as calls
use Rattle.kernel_laws.specs.site_table.declared.row.Row.{Row}
use Rattle.kernel_laws.specs.site_table.Kinds.{is_dir, is_exe}
use Rattle.kernel_laws.specs.site_table.Table.{Site}
use Rattle.kernel_laws.specs.kernel_model.kernel_calls.Rules.{rule_of}
use Rattle.kernel_laws.specs.declared.question_types.wish.Wish.TheVariants.{See as ToSee, Read as ToRead, Write as ToWrite, Exec as ToExec}
use Rattle.kernel_laws.specs.declared.question_types.question.Question.{Question}
use Rattle.kernel_laws.specs.declared.question_types.question.Question.TheVariants.{Path as ByPath, Call, Socket, Cap, Uid, Gid}
use Rattle.kernel_laws.specs.Questions.{is_plain, if_so, of_rows, of_calls, of_families, count_from, some_ids, joined, uids_of, gids_of}
use Rattle.kernel_laws.specs.Questions.{other_questions, questions}
use Rattle.questions.specs.Listed.{kind_of, place_of, IsBefore, StandInOrder}
use Rattle.questions.proofs.Ascending.{Rises, ascending_rises}

-- ---- lists in order, by recursion
abbrev InOrder : List Question → Type 0
InOrder [] = Unit {0}
InOrder (q ∷ list) = AllByRecursion (IsBefore q) list × InOrder list

all_append : (P : Question → Type 0) (xs ys : List Question) → AllByRecursion P xs → AllByRecursion P ys → AllByRecursion P (xs ++ ys)
all_append P [] ys h g = g
all_append P (x ∷ xs) ys h g = (h.0, all_append P xs ys h.1 g)

all_more : (P Q : Question → Type 0) → ((q : Question) → P q → Q q) → (xs : List Question) → AllByRecursion P xs → AllByRecursion Q xs
all_more P Q more [] h = tt
all_more P Q more (x ∷ xs) h = (more x h.0, all_more P Q more xs h.1)

-- one list of which all comes before all of another
order_append : (xs ys : List Question) → InOrder xs → InOrder ys → AllByRecursion (λ x. AllByRecursion (IsBefore x) ys) xs
    → InOrder (xs ++ ys)
order_append [] ys h g a = g
order_append (x ∷ xs) ys h g a = (all_append (IsBefore x) xs ys h.0 a.0, order_append xs ys h.1 g a.1)

-- lists of earlier and of later kinds
abbrev Until : ℕ → List Question → Type 0
Until kind list = AllByRecursion (λ q. kind_of q < kind) list

abbrev From : ℕ → List Question → Type 0
From kind list = AllByRecursion (λ q. kind ≤ kind_of q) list

by_kinds : (kind : ℕ) (xs ys : List Question) → Until kind xs → From kind ys → AllByRecursion (λ x. AllByRecursion (IsBefore x) ys) xs
by_kinds kind [] ys h g = tt
by_kinds kind (x ∷ xs) ys h g = (all_more (λ q. kind ≤ kind_of q) (IsBefore x) (λ q low. inl (let under : kind_of x < kind = h.0 in omega (arith, under, low))) ys g, by_kinds kind xs ys h.1 g)

join : (kind : ℕ) (xs ys : List Question) → InOrder xs → InOrder ys → Until kind xs → From kind ys → InOrder (xs ++ ys)
join kind xs ys h g u f = order_append xs ys h g (by_kinds kind xs ys u f)

until_later : (kind later : ℕ) (xs : List Question) → kind ≤ later → Until kind xs → Until later xs
until_later kind later xs h u = all_more (λ q. kind_of q < kind) (λ q. kind_of q < later) (λ q low. omega (arith, h, low)) xs u

-- ---- one kind, at places from a number on
record IsOfKind (kind place : ℕ) (q : Question) : Type 0 where
  kind_is : kind_of q ≡ kind
  from : place ≤ place_of q

abbrev AreOfKind : ℕ → ℕ → List Question → Type 0
AreOfKind kind place list = AllByRecursion (IsOfKind kind place) list

lower : (kind low high : ℕ) (list : List Question) → low ≤ high → AreOfKind kind high list → AreOfKind kind low list
lower kind low high list h all = all_more (IsOfKind kind high) (IsOfKind kind low)
    (λ q is. record { kind_is = is.kind_is; from = omega (arith, h, is.from) }) list all

before_all : (kind : ℕ) (q : Question) (list : List Question) → kind_of q ≡ kind → AreOfKind kind (place_of q + 1) list
    → AllByRecursion (IsBefore q) list
before_all kind q list k all = all_more (IsOfKind kind (place_of q + 1)) (IsBefore q)
    (λ other is. inr (k ∙ sym is.kind_is, omega (arith, is.from))) list all

kinds_until : (kind place : ℕ) (list : List Question) → AreOfKind kind place list → Until (kind + 1) list
kinds_until kind place list all = all_more (IsOfKind kind place) (λ q. kind_of q < kind + 1) (λ q is. omega (arith, is.kind_is)) list all

kinds_from : (kind place : ℕ) (list : List Question) → AreOfKind kind place list → From kind list
kinds_from kind place list all = all_more (IsOfKind kind place) (λ q. kind ≤ kind_of q) (λ q is. omega (arith, is.kind_is)) list all

-- ---- rows: each has four places, of which the first two are always taken
module _ (at : ℕ) (rest : List Question) (h : InOrder rest) (kinds : AreOfKind 0 (4 * (at + 1)) rest) where
  behind : (q : Question) → kind_of q ≡ 0 → place_of q < 4 * (at + 1) → AllByRecursion (IsBefore q) rest
  behind q k low = before_all 0 q rest k (lower 0 (place_of q + 1) (4 * (at + 1)) rest (omega (arith, low)) kinds)

  abbrev see : Question
  see = ByPath ToSee at

  abbrev read : Question
  read = ByPath ToRead at

  abbrev write : Question
  write = ByPath ToWrite at

  abbrev exec : Question
  exec = ByPath ToExec at

  see_read : IsBefore see read
  see_read = inr (refl, omega arith)

  see_write : IsBefore see write
  see_write = inr (refl, omega arith)

  see_exec : IsBefore see exec
  see_exec = inr (refl, omega arith)

  read_write : IsBefore read write
  read_write = inr (refl, omega arith)

  read_exec : IsBefore read exec
  read_exec = inr (refl, omega arith)

  write_exec : IsBefore write exec
  write_exec = inr (refl, omega arith)

  row_order : (w x : Bool) → InOrder (see ∷ read ∷ ((if_so w write ++ if_so x exec) ++ rest))
  row_order true true = (
    (see_read, (see_write, (see_exec, behind see refl (omega arith)))),
    ((read_write, (read_exec, behind read refl (omega arith))), ((write_exec, behind write refl (omega arith)), (behind exec refl (omega arith), h))),
  )
  row_order true false = ((see_read, (see_write, behind see refl (omega arith))), ((read_write, behind read refl (omega arith)), (behind write refl (omega arith), h)))
  row_order false true = ((see_read, (see_exec, behind see refl (omega arith))), ((read_exec, behind read refl (omega arith)), (behind exec refl (omega arith), h)))
  row_order false false = ((see_read, behind see refl (omega arith)), (behind read refl (omega arith), h))

  kept : AreOfKind 0 (4 * at) rest
  kept = lower 0 (4 * at) (4 * (at + 1)) rest (omega arith) kinds

  is_see : IsOfKind 0 (4 * at) see
  is_see = record { kind_is = refl; from = omega arith }

  is_read : IsOfKind 0 (4 * at) read
  is_read = record { kind_is = refl; from = omega arith }

  is_write : IsOfKind 0 (4 * at) write
  is_write = record { kind_is = refl; from = omega arith }

  is_exec : IsOfKind 0 (4 * at) exec
  is_exec = record { kind_is = refl; from = omega arith }

  row_kind : (w x : Bool) → AreOfKind 0 (4 * at) (see ∷ read ∷ ((if_so w write ++ if_so x exec) ++ rest))
  row_kind true true = (is_see, (is_read, (is_write, (is_exec, kept))))
  row_kind true false = (is_see, (is_read, (is_write, kept)))
  row_kind false true = (is_see, (is_read, (is_exec, kept)))
  row_kind false false = (is_see, (is_read, kept))

record InPlaces (kind place : ℕ) (list : List Question) : Type 0 where
  order : InOrder list
  kinds : AreOfKind kind place list

rows_in : (at : ℕ) (rows : List Row) → InPlaces 0 (4 * at) (of_rows at rows)
rows_in at [] = record { order = tt; kinds = tt }
rows_in at (row ∷ rows) =
    let more = rows_in (at + 1) rows in
    record {
      order = row_order at (of_rows (at + 1) rows) more.order more.kinds (not (is_dir row.kind)) (is_exe row.kind);
      kinds = row_kind at (of_rows (at + 1) rows) more.order more.kinds (not (is_dir row.kind)) (is_exe row.kind);
    }

-- ---- one question a place
-- a question, if so, before those of its kind at later places
if_first : (b : Bool) (q : Question) (kind place : ℕ) (list : List Question) → kind_of q ≡ kind → place_of q ≡ place
    → InPlaces kind (place + 1) list → InPlaces kind place (if_so b q ++ list)
if_first b q kind place list k p more = by b
  where
    kept : AreOfKind kind place list
    kept = lower kind place (place + 1) list (omega arith) more.kinds

    by : (b : Bool) → InPlaces kind place (if_so b q ++ list)
    by true = record { order = (before_all kind q list k (lower kind (place_of q + 1) (place + 1) list (omega (arith, p)) more.kinds), more.order); kinds = (record { kind_is = k; from = omega (arith, p) }, kept) }
    by false = record { order = more.order; kinds = kept }

calls_in : (every : List CallLine) (at : ℕ) (lines : List CallLine) → InPlaces 1 at (of_calls every at lines)
calls_in every at [] = record { order = tt; kinds = tt }
calls_in every at (line ∷ lines) = if_first (is_plain (rule_of line) && is_first every line.name at) (Call at) 1 at
    (of_calls every (at + 1) lines) refl refl (calls_in every (at + 1) lines)

families_in : (at : ℕ) (lines : List CallLine) → InPlaces 2 at (of_families at lines)
families_in at [] = record { order = tt; kinds = tt }
families_in at (line ∷ lines) = if_first true (Socket at) 2 at (of_families (at + 1) lines) refl refl (families_in (at + 1) lines)

caps_in : (from count : ℕ) → InPlaces 10 from (map Cap (count_from from count))
caps_in from zero = record { order = tt; kinds = tt }
caps_in from (suc count) = if_first true (Cap from) 10 from (map Cap (count_from (from + 1) count)) refl refl (caps_in (from + 1) count)

-- ids that rise, each question of them at its own
module _ (make : ℕ → Question) (kind : ℕ) (kind_is : (id : ℕ) → kind_of (make id) ≡ kind) (place_is : (id : ℕ) → place_of (make id) ≡ id) where
  ids_before : (low : ℕ) (ids : List ℕ) → AllByRecursion (λ y. low < y) ids → AllByRecursion (IsBefore (make low)) (map make ids)
  ids_before low [] h = tt
  ids_before low (id ∷ ids) h =
      (inr (kind_is low ∙ sym (kind_is id), omega (arith, place_is low, place_is id, h.0)), ids_before low ids h.1)

  ids_kind : (ids : List ℕ) → AreOfKind kind 0 (map make ids)
  ids_kind [] = tt
  ids_kind (id ∷ ids) = (record { kind_is = kind_is id; from = omega arith }, ids_kind ids)

  ids_order : (ids : List ℕ) → Rises ids → InOrder (map make ids)
  ids_order [] h = tt
  ids_order (id ∷ ids) h = (ids_before id ids h.0, ids_order ids h.1)

-- ---- the questions of no table, by a test that computes
abbrev before_test : Question → Question → Bool
before_test one other = nat_lt (kind_of one) (kind_of other) || (kind_of one == kind_of other && nat_lt (place_of one) (place_of other))

abbrev order_test : List Question → Bool
order_test [] = true
order_test (q ∷ list) = list_all (before_test q) list && order_test list

before_by : (one other : Question) → before_test one other ≡ true → IsBefore one other
before_by one other e = elim
    (or_cases (nat_lt (kind_of one) (kind_of other)) (kind_of one == kind_of other && nat_lt (place_of one) (place_of other)) e) [
      | inl less ↦ inl (ltb-true (kind_of one) (kind_of other) less)
      | inr both ↦ (let b = and_parts (kind_of one == kind_of other) (nat_lt (place_of one) (place_of other)) both in inr (eqb-true (kind_of one) (kind_of other) b.0, ltb-true (place_of one) (place_of other) b.1))
    ]

all_by : (q : Question) (list : List Question) → list_all (before_test q) list ≡ true → AllByRecursion (IsBefore q) list
all_by q [] e = tt
all_by q (other ∷ list) e = let b = and_parts (before_test q other) (list_all (before_test q) list) e in (before_by q other b.0, all_by q list b.1)

order_by : (list : List Question) → order_test list ≡ true → InOrder list
order_by [] e = tt
order_by (q ∷ list) e = let b = and_parts (list_all (before_test q) list) (order_test list) e in (all_by q list b.0, order_by list b.1)

others_order : InOrder other_questions
others_order = order_by other_questions refl

kinds_test : (low high : ℕ) (list : List Question) → list_all (λ q. not (nat_lt (kind_of q) low) && nat_lt (kind_of q) high) list ≡ true
    → From low list × Until high list
kinds_test low high [] e = (tt, tt)
kinds_test low high (q ∷ list) e =
    let b = and_parts (not (nat_lt (kind_of q) low) && nat_lt (kind_of q) high) (list_all (λ q. not (nat_lt (kind_of q) low) && nat_lt (kind_of q) high) list) e in
    let own = and_parts (not (nat_lt (kind_of q) low)) (nat_lt (kind_of q) high) b.0 in
    let more = kinds_test low high list b.1 in
    let down : low ≤ kind_of q = ltb-false (kind_of q) low (not-true (nat_lt (kind_of q) low) own.0) in
    ((down, more.0), (ltb-true (kind_of q) high own.1, more.1))

-- ---- the whole list
until_append : (kind : ℕ) (xs ys : List Question) → Until kind xs → Until kind ys → Until kind (xs ++ ys)
until_append kind xs ys h g = all_append (λ q. kind_of q < kind) xs ys h g

record Ready (kind : ℕ) (list : List Question) : Type 0 where
  order : InOrder list
  until : Until kind list

-- one part more, of later kinds
with_part : (kind next : ℕ) (list part : List Question) → kind ≤ next → Ready kind list → InOrder part → From kind part → Until next part
    → Ready next (list ++ part)
with_part kind next list part h r order from until = record {
  order = join kind list part r.order order r.until from;
  until = until_append next list part (until_later kind next list h r.until) until;
}

whole : (table : calls.Table) (site : Site) → InOrder (questions table site)
whole table site =
    let rows = rows_in 0 site.rows in
    let every = calls.every_call table in
    let calls = calls_in every 0 every in
    let families = families_in 0 table.families in
    let others = kinds_test 3 10 other_questions refl in
    let caps = caps_in 0 41 in
    let uids = ids_order Uid 11 (λ id. refl) (λ id. refl) (uids_of site) (uids_rise site) in
    let gids = ids_order Gid 12 (λ id. refl) (λ id. refl) (gids_of site) (gids_rise site) in
    let one : Ready 1 (of_rows 0 site.rows) = record { order = rows.order; until = kinds_until 0 (4 * 0) (of_rows 0 site.rows) rows.kinds } in
    let two : Ready 2 (of_rows 0 site.rows ++ of_calls every 0 every) =
    with_part 1 2 (of_rows 0 site.rows) (of_calls every 0 every) (omega arith) one calls.order (kinds_from 1 0 (of_calls every 0 every) calls.kinds) (kinds_until 1 0 (of_calls every 0 every) calls.kinds) in
    let three : Ready 3 (of_rows 0 site.rows ++ of_calls every 0 every ++ of_families 0 table.families) =
    with_part 2 3 (of_rows 0 site.rows ++ of_calls every 0 every) (of_families 0 table.families) (omega arith) two families.order
    (kinds_from 2 0 (of_families 0 table.families) families.kinds) (kinds_until 2 0 (of_families 0 table.families) families.kinds) in
    let four = with_part 3 10 (of_rows 0 site.rows ++ of_calls every 0 every ++ of_families 0 table.families) other_questions (omega arith) three others_order others.0 others.1 in
    let five = with_part 10 11 (of_rows 0 site.rows ++ of_calls every 0 every ++ of_families 0 table.families ++ other_questions) (map Cap (count_from 0 41)) (omega arith) four caps.order
    (kinds_from 10 0 (map Cap (count_from 0 41)) caps.kinds) (kinds_until 10 0 (map Cap (count_from 0 41)) caps.kinds) in
    let uid_kinds = ids_kind Uid 11 (λ id. refl) (λ id. refl) (uids_of site) in
    let gid_kinds = ids_kind Gid 12 (λ id. refl) (λ id. refl) (gids_of site) in
    let six = with_part 11 12 (of_rows 0 site.rows ++ of_calls every 0 every ++ of_families 0 table.families ++ other_questions ++ map Cap (count_from 0 41)) (map Uid (uids_of site)) (omega arith) five uids
    (kinds_from 11 0 (map Uid (uids_of site)) uid_kinds) (kinds_until 11 0 (map Uid (uids_of site)) uid_kinds) in
    let seven = with_part 12 13 (of_rows 0 site.rows ++ of_calls every 0 every ++ of_families 0 table.families ++ other_questions ++ map Cap (count_from 0 41) ++ map Uid (uids_of site)) (map Gid (gids_of site)) (omega arith) six gids
    (kinds_from 12 0 (map Gid (gids_of site)) gid_kinds) (kinds_until 12 0 (map Gid (gids_of site)) gid_kinds) in
    seven.order
  where
    uids_rise : (site : Site) → Rises (uids_of site)
    uids_rise site = ascending_rises
        (0 ∷ site.dynamic_uid ∷ map (λ user. user.uid) site.users ++ some_ids (map (λ row. row.setuid) site.rows))

    gids_rise : (site : Site) → Rises (gids_of site)
    gids_rise site = ascending_rises
        (0 ∷ site.dynamic_uid ∷ map (λ group. group.gid) site.groups ++ map (λ user. user.gid) site.users ++ joined
        (map (λ user. user.groups) site.users) ++ some_ids (map (λ row. row.setgid) site.rows))

-- ---- by indices
at_place : (P : Question → Type 0) (list : List Question) → AllByRecursion P list → (j : ℕ) (d : Question) → j < length list
    → P (get_or list j d)
at_place P [] h j d b = absurd (omega arith)
at_place P (q ∷ list) h zero d b = h.0
at_place P (q ∷ list) h (suc j) d b = at_place P list h.1 j d (omega arith)

all_pairs : (list : List Question) → InOrder list → (i j : ℕ) (d : Question) → i < j → j < length list
    → IsBefore (get_or list i d) (get_or list j d)
all_pairs [] h i j d a b = absurd (omega arith)
all_pairs (q ∷ list) h i zero d a b = absurd (omega arith)
all_pairs (q ∷ list) h zero (suc j) d a b = at_place (IsBefore q) list h.0 j d (omega arith)
all_pairs (q ∷ list) h (suc i) (suc j) d a b = all_pairs list h.1 i j d (omega arith) (omega arith)

pub stand_in_order : StandInOrder
stand_in_order table site = all_pairs (questions table site) (whole table site)
