-- Which questions the list has: each of which there is a thing to be asked of, and no other.
use Rattle.std.proofs.Common.{◌≡◌, ◌<◌, ◌≤◌, ◌⊎◌, inl, inr, ℕ, zero, suc, Bool, true, false, List, [], ◌∷◌, ◌++◌, ◌+◌, Option, Some, None}
use Rattle.std.proofs.Common.{length, map, refl, ap, ◌∙◌, sym, subst, arith}
use Rattle.std.specs.Prelude.{slice_get, not, ◌==◌, ◌&&◌, Contains}
use Rattle.std.specs.List.{AllByRecursion}
use Rattle.std.specs.Option.{option_map_or}
use Rattle.std.proofs.lemmas.Bool.{and_from, and_parts, eqb-true, eq-eqb}
use Rattle.std.proofs.lemmas.Bool.Decides.{nat_tests}
use Rattle.kernel_laws.specs.call_table.declared.listed.CallLine.{CallLine}
use Rattle.kernel_laws.specs.call_table.Lookups.{place_named}
use Rattle.kernel_laws.specs.call_table.Members.{is_first}
use Rattle.kernel_laws.specs.call_table.Table as calls
use Rattle.kernel_laws.specs.site_table.declared.row.Row.{Row}
use Rattle.kernel_laws.specs.site_table.declared.accounts.User.{User}
use Rattle.kernel_laws.specs.site_table.declared.accounts.Group.{Group}
use Rattle.kernel_laws.specs.site_table.Kinds.{is_dir, is_exe}
use Rattle.kernel_laws.specs.site_table.Table.{Site}
use Rattle.kernel_laws.specs.kernel_model.kernel_calls.Rules.{rule_of}
use Rattle.kernel_laws.specs.declared.question_types.wish.Wish.{Wish}
use Rattle.kernel_laws.specs.declared.question_types.wish.Wish.TheVariants.{See as ToSee, Read as ToRead, Write as ToWrite, Exec as ToExec}
use Rattle.kernel_laws.specs.linux_numbers.declared.namespaces.NamespaceType.{NamespaceType}
use Rattle.kernel_laws.specs.linux_numbers.declared.namespaces.NamespaceType.TheVariants.{Cgroup, Ipc, Net, Mnt, Pid}
use Rattle.kernel_laws.specs.linux_numbers.declared.namespaces.NamespaceType.TheVariants.{User as UserSpace, Uts}
use Rattle.kernel_laws.specs.declared.question_types.question.Question.{Question}
use Rattle.kernel_laws.specs.declared.question_types.question.Question.TheVariants.{Path as ByPath, Call, Socket, Namespace as Ns, MapWx}
use Rattle.kernel_laws.specs.declared.question_types.question.Question.TheVariants.{ProtectX, ShmX, Realtime, Personality, SuidBit, Cap}
use Rattle.kernel_laws.specs.declared.question_types.question.Question.TheVariants.{Uid, Gid}
use Rattle.kernel_laws.specs.Questions.{is_plain, if_so, of_row, of_rows, of_calls, of_families, count_from, some_ids, joined, uids_of}
use Rattle.kernel_laws.specs.Questions.{gids_of, other_questions, questions}
use Rattle.questions.specs.Listed.{is_asked_of, IsUidOf, of_root, of_dynamic_user, of_user, of_owner, IsGidOf, of_root_group}
use Rattle.questions.specs.Listed.{of_dynamic_group, of_group, of_group_of_user, of_further_group, of_group_of_row, IsAskedOf}
use Rattle.questions.specs.Listed.{ListsWhatIsAsked}
use Rattle.questions.proofs.Among.{Has, has_contained, contains_had, has_append, has_left, has_right, all_had, Some_one, some_any, any_some}
use Rattle.questions.proofs.Among.{has_mapped, mapped_has}
use Rattle.questions.proofs.Ascending.{has_ascending, ascending_has}

-- ---- rows
if_had : (b : Bool) (own q : Question) → Has (if_so b own) q → (b ≡ true) × (own ≡ q)
if_had true own q h = elim h [ inl e ↦ (refl, e) | inr none ↦ absurd none ]
if_had false own q h = absurd h

had_if : (b : Bool) (own : Question) → b ≡ true → Has (if_so b own) own
had_if true own e = inl refl
had_if false own e = cc

record AskedOfRow (at : ℕ) (row : Row) (q : Question) : Type 0 where
  wish : Wish
  is : ByPath wish at ≡ q
  asked : is_asked_of wish row.kind ≡ true

row_asked : (at : ℕ) (row : Row) (q : Question) → Has (of_row at row) q → AskedOfRow at row q
row_asked at row q h =
    elim h [
      | inl see ↦ record { wish = ToSee; is = see; asked = refl }
      | inr more ↦ elim more [
        | inl read ↦ record { wish = ToRead; is = read; asked = refl }
        | inr last ↦ elim (has_append (if_so (not (is_dir row.kind)) (ByPath ToWrite at))
            (if_so (is_exe row.kind) (ByPath ToExec at)) q last) [
              | inl write ↦ (let w = if_had (not (is_dir row.kind)) (ByPath ToWrite at) q write in record { wish = ToWrite; is = w.1; asked = w.0 })
              | inr exec ↦ (let x = if_had (is_exe row.kind) (ByPath ToExec at) q exec in record { wish = ToExec; is = x.1; asked = x.0 })
            ]
      ]
    ]

asked_row : (at : ℕ) (row : Row) (wish : Wish) → is_asked_of wish row.kind ≡ true → Has (of_row at row) (ByPath wish at)
asked_row at row ToSee e = inl refl
asked_row at row ToRead e = inr (inl refl)
asked_row at row ToWrite e =
    inr (inr (has_left (if_so (not (is_dir row.kind)) (ByPath ToWrite at)) (if_so (is_exe row.kind) (ByPath ToExec at))
    (ByPath ToWrite at) (had_if (not (is_dir row.kind)) (ByPath ToWrite at) e)))
asked_row at row ToExec e =
    inr (inr (has_right (if_so (not (is_dir row.kind)) (ByPath ToWrite at)) (if_so (is_exe row.kind) (ByPath ToExec at))
    (ByPath ToExec at) (had_if (is_exe row.kind) (ByPath ToExec at) e)))

record AskedOfRows (from : ℕ) (rows : List Row) (q : Question) : Type 0 where
  at : ℕ
  row : Row
  listed : slice_get rows at ≡ Some row
  asked : AskedOfRow (from + at) row q

rows_asked : (from : ℕ) (rows : List Row) (q : Question) → Has (of_rows from rows) q → AskedOfRows from rows q
rows_asked from [] q h = absurd h
rows_asked from (row ∷ rows) q h = elim (has_append (of_row from row) (of_rows (from + 1) rows) q h) [
  | inl here ↦ (let n : from ≡ from + 0 = omega arith in record { at = 0; row = row; listed = refl; asked = subst (λ k. AskedOfRow k row q) n (row_asked from row q here) })
  | inr more ↦ (let m = rows_asked (from + 1) rows q more in let n : from + 1 + m.at ≡ from + suc m.at = omega arith in record { at = suc m.at; row = m.row; listed = m.listed; asked = subst (λ k. AskedOfRow k m.row q) n m.asked })
]

asked_rows : (from : ℕ) (rows : List Row) (at : ℕ) (row : Row) (wish : Wish) → slice_get rows at ≡ Some row
    → is_asked_of wish row.kind ≡ true → Has (of_rows from rows) (ByPath wish (from + at))
asked_rows from [] at row wish e a = cc
asked_rows from (first ∷ rows) zero row wish e a =
    let same : first ≡ row = cc in
    let here : Has (of_row from first) (ByPath wish from) = asked_row from first wish (ap (λ (r : Row). is_asked_of wish r.kind) same ∙ a) in
    let n : from ≡ from + 0 = omega arith in
    has_left (of_row from first) (of_rows (from + 1) rows) (ByPath wish (from + 0))
    (subst (λ k. Has (of_row from first) (ByPath wish k)) n here)
asked_rows from (first ∷ rows) (suc at) row wish e a =
    let n : from + 1 + at ≡ from + suc at = omega arith in
    has_right (of_row from first) (of_rows (from + 1) rows) (ByPath wish (from + suc at))
    (subst (λ k. Has (of_rows (from + 1) rows) (ByPath wish k)) n (asked_rows (from + 1) rows at row wish e a))

-- ---- calls and families
record AskedOfCalls (every : List CallLine) (from : ℕ) (lines : List CallLine) (q : Question) : Type 0 where
  at : ℕ
  line : CallLine
  listed : slice_get lines at ≡ Some line
  plain : is_plain (rule_of line) ≡ true
  first : is_first every line.name (from + at) ≡ true
  is : Call (from + at) ≡ q

abbrev asks_at : List CallLine → ℕ → CallLine → Bool
asks_at every at line = is_plain (rule_of line) && is_first every line.name at

calls_asked : (every : List CallLine) (from : ℕ) (lines : List CallLine) (q : Question) → Has (of_calls every from lines) q
    → AskedOfCalls every from lines q
calls_asked every from [] q h = absurd h
calls_asked every from (line ∷ lines) q h =
    elim (has_append (if_so (asks_at every from line) (Call from)) (of_calls every (from + 1) lines) q h) [
      | inl here ↦ (
          let p = if_had (asks_at every from line) (Call from) q here in
          let both = and_parts (is_plain (rule_of line)) (is_first every line.name from) p.0 in
          let n : from + 0 ≡ from = omega arith in
          record { at = 0; line = line; listed = refl; plain = both.0; first = ap (is_first every line.name) n ∙ both.1; is = ap Call n ∙ p.1 })
      | inr more ↦ (
          let m = calls_asked every (from + 1) lines q more in
          let n : from + suc m.at ≡ from + 1 + m.at = omega arith in
          record { at = suc m.at; line = m.line; listed = m.listed; plain = m.plain; first = ap (is_first every m.line.name) n ∙ m.first; is = ap Call n ∙ m.is })
    ]

asked_calls : (every : List CallLine) (from : ℕ) (lines : List CallLine) (at : ℕ) (line : CallLine) → slice_get lines at ≡ Some line
    → is_plain (rule_of line) ≡ true → is_first every line.name (from + at) ≡ true → Has (of_calls every from lines) (Call (from + at))
asked_calls every from [] at line e p f = cc
asked_calls every from (first ∷ lines) zero line e p f =
    let same : line ≡ first = cc in
    let n : from + 0 ≡ from = omega arith in
    let own : asks_at every from first ≡ true =
    and_from (is_plain (rule_of first)) (is_first every first.name from) (ap (λ (l : CallLine). is_plain (rule_of l)) (sym same) ∙ p) (ap (λ (l : CallLine). is_first every l.name from) (sym same) ∙ ap (is_first every line.name) (sym n) ∙ f) in
    has_left (if_so (asks_at every from first) (Call from)) (of_calls every (from + 1) lines) (Call (from + 0))
    (subst (λ k. Has (if_so (asks_at every from first) (Call from)) (Call k)) (sym n)
    (had_if (asks_at every from first) (Call from) own))
asked_calls every from (first ∷ lines) (suc at) line e p f =
    let n : from + 1 + at ≡ from + suc at = omega arith in
    has_right (if_so (asks_at every from first) (Call from)) (of_calls every (from + 1) lines) (Call (from + suc at))
    (subst (λ k. Has (of_calls every (from + 1) lines) (Call k)) n
    (asked_calls every (from + 1) lines at line e p (ap (is_first every line.name) n ∙ f)))

-- the first of all lines of a name
first_is : (every : List CallLine) (name : List ℕ) (at : ℕ) → is_first every name at ≡ true → place_named name every ≡ Some at
first_is every name at h = by (place_named name every) h
  where
    by : (o : Option ℕ) → option_map_or (λ place. place == at) o false ≡ true → o ≡ Some at
    by None h = cc
    by (Some place) h = ap Some (eqb-true place at h)

is_the_first : (every : List CallLine) (name : List ℕ) (at : ℕ) → place_named name every ≡ Some at → is_first every name at ≡ true
is_the_first every name at h = ap (λ o. option_map_or (λ place. place == at) o false) h ∙ eq-eqb at at refl

families_asked : (from : ℕ) (lines : List CallLine) (q : Question) → Has (of_families from lines) q
    → (at : ℕ) × (at < length lines) × (Socket (from + at) ≡ q)
families_asked from [] q h = absurd h
families_asked from (line ∷ lines) q h = elim h [
  | inl e ↦ (let n : from + 0 ≡ from = omega arith in (0, (omega arith), ap Socket n ∙ e))
  | inr more ↦ (let m = families_asked (from + 1) lines q more in let n : from + suc m.0 ≡ from + 1 + m.0 = omega arith in (suc m.0, (omega (arith, m.1)), ap Socket n ∙ m.2))
]

asked_families : (from : ℕ) (lines : List CallLine) (at : ℕ) → at < length lines → Has (of_families from lines) (Socket (from + at))
asked_families from [] at h = absurd (omega arith)
asked_families from (line ∷ lines) zero h = let n : from ≡ from + 0 = omega arith in inl (ap Socket n)
asked_families from (line ∷ lines) (suc at) h =
    let n : from + 1 + at ≡ from + suc at = omega arith in
    inr (subst (λ k. Has (of_families (from + 1) lines) (Socket k)) n (asked_families (from + 1) lines at (omega arith)))

-- ---- numbers
counted : (make : ℕ → Question) (from count : ℕ) (q : Question) → Has (map make (count_from from count)) q
    → (n : ℕ) × (from ≤ n) × (n < from + count) × (make n ≡ q)
counted make from zero q h = absurd h
counted make from (suc count) q h = elim h [
  | inl e ↦ (from, (omega arith), (omega arith), e)
  | inr more ↦ (let m = counted make (from + 1) count q more in (m.0, (omega (arith, m.1)), (omega (arith, m.2)), m.3))
]

later : (from n : ℕ) → from ≤ n → (n == from) ≡ false → from + 1 ≤ n
later from n low e = grind (arith, nat_tests, e, low)

has_counted : (make : ℕ → Question) (from count n : ℕ) → from ≤ n → n < from + count → Has (map make (count_from from count)) (make n)
has_counted make from zero n low high = absurd (omega arith)
has_counted make from (suc count) n low high = by (n == from) refl
    (λ above. has_counted make (from + 1) count n above (omega (arith, high)))
  where
    by : (b : Bool) → (n == from) ≡ b → (from + 1 ≤ n → Has (map make (count_from (from + 1) count)) (make n))
        → (make from ≡ make n) ⊎ Has (map make (count_from (from + 1) count)) (make n)
    by true e more = inl (ap make (sym (eqb-true n from e)))
    by false e more = inr (more (later from n low e))

made_of : (make : ℕ → Question) (ids : List ℕ) (q : Question) → Has (map make ids) q → (id : ℕ) × Has ids id × (make id ≡ q)
made_of make [] q h = absurd h
made_of make (id ∷ ids) q h = elim h [ inl e ↦ (id, inl refl, e) | inr more ↦ (let m = made_of make ids q more in (m.0, inr m.1, m.2)) ]

of_made : (make : ℕ → Question) (ids : List ℕ) (id : ℕ) → Has ids id → Has (map make ids) (make id)
of_made make [] id h = absurd h
of_made make (first ∷ ids) id h = elim h [ inl e ↦ inl (ap make e) | inr more ↦ inr (of_made make ids id more) ]

-- ---- ids
some_had : {X : Type 0} (f : X → Option ℕ) (xs : List X) (id : ℕ) → Has (some_ids (map f xs)) id → Some_one (λ x. f x ≡ Some id) xs
some_had f [] id h = h
some_had f (x ∷ xs) id h = by (f x) refl h (some_had f xs id)
  where
    by : (o : Option ℕ) → f x ≡ o → Has (some_ids (o ∷ map f xs)) id → (Has (some_ids (map f xs)) id → Some_one (λ y. f y ≡ Some id) xs)
        → Some_one (λ y. f y ≡ Some id) (x ∷ xs)
    by None e h deep = inr (deep h)
    by (Some own) e h deep = elim h [ inl is ↦ inl (e ∙ ap (λ n. Some n) is) | inr more ↦ inr (deep more) ]

had_some : {X : Type 0} (f : X → Option ℕ) (xs : List X) (id : ℕ) → Some_one (λ x. f x ≡ Some id) xs → Has (some_ids (map f xs)) id
had_some f [] id h = h
had_some f (x ∷ xs) id h = by (f x) refl h (had_some f xs id)
  where
    by : (o : Option ℕ) → f x ≡ o → (f x ≡ Some id) ⊎ Some_one (λ y. f y ≡ Some id) xs
        → (Some_one (λ y. f y ≡ Some id) xs → Has (some_ids (map f xs)) id) → Has (some_ids (o ∷ map f xs)) id
    by None e h deep = elim h [ inl is ↦ absurd (let clash : None ≡ Some id = sym e ∙ is in cc) | inr more ↦ deep more ]
    by (Some own) e h deep = elim h [ inl is ↦ (let both : Some own ≡ Some id = sym e ∙ is in let same : own ≡ id = cc in inl same) | inr more ↦ inr (deep more) ]

joined_had : {X : Type 0} (f : X → List ℕ) (xs : List X) (id : ℕ) → Has (joined (map f xs)) id → Some_one (λ x. Contains (f x) id) xs
joined_had f [] id h = h
joined_had f (x ∷ xs) id h = elim (has_append (f x) (joined (map f xs)) id h)
    [ inl here ↦ inl (contains_had (f x) id here) | inr more ↦ inr (joined_had f xs id more) ]

had_joined : {X : Type 0} (f : X → List ℕ) (xs : List X) (id : ℕ) → Some_one (λ x. Contains (f x) id) xs → Has (joined (map f xs)) id
had_joined f [] id h = h
had_joined f (x ∷ xs) id h =
    elim h [
      | inl here ↦ has_left (f x) (joined (map f xs)) id (has_contained (f x) id here)
      | inr more ↦ has_right (f x)
          (joined (map f xs)) id (had_joined f xs id more)
    ]

module _ (site : Site) where
  abbrev uids_given : List ℕ
  uids_given = 0 ∷ site.dynamic_uid ∷ map (λ user. user.uid) site.users ++ some_ids (map (λ row. row.setuid) site.rows)

  uid_known : (id : ℕ) → Has (uids_of site) id → IsUidOf site id
  uid_known id h = elim (has_ascending uids_given id h) [
    | inl root ↦ of_root (sym root)
    | inr more ↦ elim more [
      | inl dynamic ↦ of_dynamic_user (sym dynamic)
      | inr last ↦ elim (has_append (map (λ (user : User). user.uid) site.users)
          (some_ids (map (λ (row : Row). row.setuid) site.rows)) id last) [
            | inl user ↦ of_user (any_some (λ (user : User). user.uid ≡ id) site.users
                (has_mapped (λ (user : User). user.uid) site.users id user))
            | inr owner ↦ of_owner (any_some (λ (row : Row). row.setuid ≡ Some id) site.rows
                (some_had (λ (row : Row). row.setuid) site.rows id owner))
          ]
    ]
  ]

  known_uid : (id : ℕ) → IsUidOf site id → Has (uids_of site) id
  known_uid id h = ascending_has uids_given id (given h)
    where
      given : IsUidOf site id → Has uids_given id
      given (of_root e) = inl (sym e)
      given (of_dynamic_user e) = inr (inl (sym e))
      given (of_user any) = inr
          (inr (has_left (map (λ (user : User). user.uid) site.users) (some_ids (map (λ (row : Row). row.setuid) site.rows)) id
          (mapped_has (λ (user : User). user.uid) site.users id (some_any (λ (user : User). user.uid ≡ id) site.users any))))
      given (of_owner any) = inr
          (inr (has_right (map (λ (user : User). user.uid) site.users) (some_ids (map (λ (row : Row). row.setuid) site.rows)) id
          (had_some (λ (row : Row). row.setuid) site.rows id (some_any (λ (row : Row). row.setuid ≡ Some id) site.rows any))))

  abbrev groups_of : List ℕ
  groups_of = map (λ (group : Group). group.gid) site.groups

  abbrev users_of : List ℕ
  users_of = map (λ (user : User). user.gid) site.users

  abbrev further_of : List ℕ
  further_of = joined (map (λ (user : User). user.groups) site.users)

  abbrev rows_of : List ℕ
  rows_of = some_ids (map (λ (row : Row). row.setgid) site.rows)

  abbrev gids_given : List ℕ
  gids_given = 0 ∷ site.dynamic_uid ∷ groups_of ++ users_of ++ further_of ++ rows_of

  gid_known : (id : ℕ) → Has (gids_of site) id → IsGidOf site id
  gid_known id h = elim (has_ascending gids_given id h) [
    | inl root ↦ of_root_group
        (sym root)
    | inr more ↦ elim more [ inl dynamic ↦ of_dynamic_group (sym dynamic) | inr last ↦ by last ]
  ]
    where
      by : Has (groups_of ++ users_of ++ further_of ++ rows_of) id → IsGidOf site id
      by h = elim (has_append (groups_of ++ users_of ++ further_of) rows_of id h) [
        | inr row ↦ of_group_of_row
            (any_some (λ (row : Row). row.setgid ≡ Some id) site.rows (some_had (λ (row : Row). row.setgid) site.rows id row))
        | inl three ↦ elim (has_append (groups_of ++ users_of) further_of id three) [
          | inr further ↦ of_further_group
              (any_some (λ (user : User). Contains user.groups id) site.users
              (joined_had (λ (user : User). user.groups) site.users id further))
          | inl two ↦ elim (has_append groups_of users_of id two) [
            | inl group ↦ of_group (any_some (λ (group : Group). group.gid ≡ id) site.groups
                (has_mapped (λ (group : Group). group.gid) site.groups id group))
            | inr user ↦ of_group_of_user
                (any_some (λ (user : User). user.gid ≡ id) site.users (has_mapped (λ (user : User). user.gid) site.users id user))
          ]
        ]
      ]

  known_gid : (id : ℕ) → IsGidOf site id → Has (gids_of site) id
  known_gid id h = ascending_has gids_given id (given h)
    where
      given : IsGidOf site id → Has gids_given id
      given (of_root_group e) = inl (sym e)
      given (of_dynamic_group e) = inr (inl (sym e))
      given (of_group any) = inr
          (inr (has_left (groups_of ++ users_of ++ further_of) rows_of id
          (has_left (groups_of ++ users_of) further_of id (has_left groups_of users_of id
          (mapped_has (λ (group : Group). group.gid) site.groups id (some_any (λ (group : Group). group.gid ≡ id) site.groups any))))))
      given (of_group_of_user any) =
          inr (inr (has_left (groups_of ++ users_of ++ further_of) rows_of id
          (has_left (groups_of ++ users_of) further_of id (has_right groups_of users_of id
          (mapped_has (λ (user : User). user.gid) site.users id (some_any (λ (user : User). user.gid ≡ id) site.users any))))))
      given (of_further_group any) =
          inr (inr (has_left (groups_of ++ users_of ++ further_of) rows_of id (has_right (groups_of ++ users_of) further_of id
          (had_joined (λ (user : User). user.groups) site.users id (some_any (λ (user : User). Contains user.groups id) site.users any)))))
      given (of_group_of_row any) = inr (inr (has_right (groups_of ++ users_of ++ further_of) rows_of id
          (had_some (λ (row : Row). row.setgid) site.rows id (some_any (λ (row : Row). row.setgid ≡ Some id) site.rows any))))

-- ---- the whole list
module _ (table : calls.Table) (site : Site) where
  abbrev Asked : Question → Type 0
  Asked q = IsAskedOf table site q

  abbrev every : List CallLine
  every = calls.every_call table

  abbrev calls_of : List Question
  calls_of = of_calls every 0 every

  abbrev one : List Question
  one = of_rows 0 site.rows

  abbrev two : List Question
  two = one ++ calls_of

  abbrev three : List Question
  three = two ++ of_families 0 table.families

  abbrev four : List Question
  four = three ++ other_questions

  abbrev five : List Question
  five = four ++ map Cap (count_from 0 41)

  abbrev six : List Question
  six = five ++ map Uid (uids_of site)

  by_row : (q : Question) → Has one q → Asked q
  by_row q h =
      let m = rows_asked 0 site.rows q h in
      let n : m.at ≡ 0 + m.at = omega arith in
      let own : Asked (ByPath m.asked.wish (0 + m.at)) = (m.row, ap (slice_get site.rows) (sym n) ∙ m.listed, m.asked.asked) in
      subst Asked m.asked.is own

  by_call : (q : Question) → Has calls_of q → Asked q
  by_call q h =
      let m = calls_asked every 0 every q h in
      let n : m.at ≡ 0 + m.at = omega arith in
      let own : Asked (Call (0 + m.at)) = (m.line, ap (slice_get every) (sym n) ∙ m.listed, m.plain, first_is every m.line.name (0 + m.at) m.first) in
      subst Asked m.is own

  by_family : (q : Question) → Has (of_families 0 table.families) q → Asked q
  by_family q h =
      let m = families_asked 0 table.families q h in
      let own : Asked (Socket (0 + m.0)) = omega (arith, m.1) in
      subst Asked m.2 own

  by_other : (q : Question) → Has other_questions q → Asked q
  by_other q h = other other_questions (tt, (tt, (tt, (tt, (tt, (tt, (tt, (tt, (tt, (tt, (tt, (tt, (tt, tt))))))))))))) h
    where
      other : (list : List Question) → AllByRecursion Asked list → Has list q → Asked q
      other list all h = all_had Asked list q all h

  by_cap : (q : Question) → Has (map Cap (count_from 0 41)) q → Asked q
  by_cap q h =
      let m = counted Cap 0 41 q h in
      let own : Asked (Cap m.0) = omega (arith, m.2) in
      subst Asked m.3 own

  by_uid : (q : Question) → Has (map Uid (uids_of site)) q → Asked q
  by_uid q h = let m = made_of Uid (uids_of site) q h in let own : Asked (Uid m.0) = uid_known site m.0 m.1 in subst Asked m.2 own

  by_gid : (q : Question) → Has (map Gid (gids_of site)) q → Asked q
  by_gid q h = let m = made_of Gid (gids_of site) q h in let own : Asked (Gid m.0) = gid_known site m.0 m.1 in subst Asked m.2 own

  asked : (q : Question) → Has (questions table site) q → Asked q
  asked q h = elim (has_append six (map Gid (gids_of site)) q h) [
    | inr gid ↦ by_gid q gid
    | inl h ↦ elim (has_append five (map Uid (uids_of site)) q h) [
      | inr uid ↦ by_uid q uid
      | inl h ↦ elim (has_append four (map Cap (count_from 0 41)) q h) [
        | inr cap ↦ by_cap q cap
        | inl h ↦ elim (has_append three other_questions q h) [
          | inr other ↦ by_other q other
          | inl h ↦ elim (has_append two (of_families 0 table.families) q h) [
            | inr family ↦ by_family q family
            | inl h ↦ elim (has_append one calls_of q h) [ inl row ↦ by_row q row | inr call ↦ by_call q call ]
          ]
        ]
      ]
    ]
  ]

  -- from a part into the whole
  from_six : (q : Question) → Has six q → Has (questions table site) q
  from_six q h = has_left six (map Gid (gids_of site)) q h

  from_five : (q : Question) → Has five q → Has (questions table site) q
  from_five q h = from_six q (has_left five (map Uid (uids_of site)) q h)

  from_four : (q : Question) → Has four q → Has (questions table site) q
  from_four q h = from_five q (has_left four (map Cap (count_from 0 41)) q h)

  from_three : (q : Question) → Has three q → Has (questions table site) q
  from_three q h = from_four q (has_left three other_questions q h)

  from_two : (q : Question) → Has two q → Has (questions table site) q
  from_two q h = from_three q (has_left two (of_families 0 table.families) q h)

  from_other : (q : Question) → Has other_questions q → Has (questions table site) q
  from_other q h = from_four q (has_right three other_questions q h)

  spaces : (space : NamespaceType) → Has other_questions (Ns space)
  spaces Cgroup = inl refl
  spaces Ipc = inr (inl refl)
  spaces Net = inr (inr (inl refl))
  spaces Mnt = inr (inr (inr (inl refl)))
  spaces Pid = inr (inr (inr (inr (inl refl))))
  spaces UserSpace = inr (inr (inr (inr (inr (inl refl)))))
  spaces Uts = inr (inr (inr (inr (inr (inr (inl refl))))))

  listed : (q : Question) → Asked q → Has (questions table site) q
  listed (ByPath wish at) a =
      let n : 0 + at ≡ at = omega arith in
      from_two (ByPath wish at)
      (has_left one calls_of (ByPath wish at) (subst (λ k. Has one (ByPath wish k)) n (asked_rows 0 site.rows at a.0 wish a.1 a.2)))
  listed (Call at) a =
      let n : 0 + at ≡ at = omega arith in
      from_two (Call at) (has_right one calls_of (Call at)
      (subst (λ k. Has calls_of (Call k)) n
      (asked_calls every 0 every at a.0 a.1 a.2 (ap (is_first every a.0.name) n ∙ is_the_first every a.0.name at a.3))))
  listed (Socket at) a =
      let n : 0 + at ≡ at = omega arith in
      from_three (Socket at) (has_right two (of_families 0 table.families) (Socket at)
      (subst (λ k. Has (of_families 0 table.families) (Socket k)) n (asked_families 0 table.families at a)))
  listed (Ns space) a = from_other (Ns space) (spaces space)
  listed MapWx a = from_other MapWx (inr (inr (inr (inr (inr (inr (inr (inl refl))))))))
  listed ProtectX a = from_other ProtectX (inr (inr (inr (inr (inr (inr (inr (inr (inl refl)))))))))
  listed ShmX a = from_other ShmX (inr (inr (inr (inr (inr (inr (inr (inr (inr (inl refl))))))))))
  listed Realtime a = from_other Realtime (inr (inr (inr (inr (inr (inr (inr (inr (inr (inr (inl refl)))))))))))
  listed Personality a = from_other Personality (inr (inr (inr (inr (inr (inr (inr (inr (inr (inr (inr (inl refl))))))))))))
  listed SuidBit a = from_other SuidBit (inr (inr (inr (inr (inr (inr (inr (inr (inr (inr (inr (inr (inl refl)))))))))))))
  listed (Cap number) a = from_five (Cap number)
      (has_right four (map Cap (count_from 0 41)) (Cap number) (has_counted Cap 0 41 number (omega arith) (omega (arith, a))))
  listed (Uid id) a = from_six (Uid id)
      (has_right five (map Uid (uids_of site)) (Uid id) (of_made Uid (uids_of site) id (known_uid site id a)))
  listed (Gid id) a = has_right six (map Gid (gids_of site)) (Gid id) (of_made Gid (gids_of site) id (known_gid site id a))

pub what_is_asked : ListsWhatIsAsked
what_is_asked table site q = ((λ h. asked table site q (has_contained (questions table site) q h)), (λ a. contains_had (questions table site) q (listed table site q a)))
