-- The result of the values so far, and of more values.
use Rattle.std.proofs.Common.{◌≡◌, ℕ, suc, Bool, true, false, cond, Option, Some, None, List, [], ◌∷◌, ◌++◌, length, refl, sym, ap, ◌∙◌}
use Rattle.std.proofs.Common.{arith, append_assoc, append-nil}
use Rattle.std.specs.Prelude.{◌==◌, ◌&&◌, ◌||◌, not, filter, unwrap_or}
use Rattle.std.specs.List.{filter_map, cons_option}
use Rattle.std.proofs.lemmas.Bool.{eqb-true}
use Rattle.std.proofs.lemmas.List.Elements.{filter-append, filter_agree}
use Rattle.path_settings.specs.declared.dialect.Dialect.{Dialect}
use Rattle.path_settings.specs.declared.keys.PathKey.{PathKey}
use Rattle.path_settings.specs.declared.mentions.Mention.{Mention}
use Rattle.dropin_merge.specs.unit_values.Words.{split}
use Rattle.mount_settings.specs.declared.written.WrittenPath.{WrittenPath}
use Rattle.mount_settings.specs.Assigned.{Assigned, is_key}
use Rattle.mount_settings.specs.Written.{gives, is_reset_by, mentions_in_word, of_its_key, paths_in, word_paths, written}
use Rattle.mount_settings.specs.Steps.{without_key, with_value, after}

-- one more value, which may be missing
step_some : (dialect : Dialect) (o : Option Assigned) (now next : List WrittenPath) (rest : List Assigned)
    → next ≡ after dialect now (cons_option o []) → after dialect now (cons_option o rest) ≡ after dialect next rest
step_some dialect None now next rest step = ap (λ paths. after dialect paths rest) (sym step)
step_some dialect (Some one) now next rest step = ap (λ paths. after dialect paths rest) (sym step)

-- the result of all is the result of the rest from the present state: the same holds after one more value
pub after_more : (dialect : Dialect) {X : Type 0} (f : X → Option Assigned) (left more : List X) (x : X) (all now next : List WrittenPath)
    → left ≡ x ∷ more → all ≡ after dialect now (filter_map f left) → next ≡ after dialect now (cons_option (f x) [])
    → all ≡ after dialect next (filter_map f more)
after_more dialect f left more x all now next first before step =
    before ∙ ap (λ xs. after dialect now (filter_map f xs)) first ∙ step_some dialect (f x) now next (filter_map f more) step

filter_none : {X : Type 0} (xs : List X) → filter (λ x. not false) xs ≡ xs
filter_none [] = refl
filter_none (x ∷ xs) = ap (λ ys. x ∷ ys) (filter_none xs)

-- a filter on a filter
filter_two : {X : Type 0} (p q : X → Bool) (xs : List X) → filter (λ x. not (q x)) (filter (λ x. not (p x)) xs)
    ≡ filter (λ x. not (p x || q x)) xs
filter_two p q [] = refl
filter_two p q (x ∷ xs) =
    elim (p x) as (λ v. filter (λ y. not (q y)) (cond (not v) (x ∷ filter (λ y. not (p y)) xs) (filter (λ y. not (p y)) xs))
    ≡ cond (not (v || q x)) (x ∷ filter (λ y. not (p y || q y)) xs) (filter (λ y. not (p y || q y)) xs)) [
      | true ↦ filter_two p q xs
      | false ↦ elim (q x) as (λ v. cond (not v) (x ∷ filter (λ y. not (q y)) (filter (λ y. not (p y)) xs))
          (filter (λ y. not (q y)) (filter (λ y. not (p y)) xs))
          ≡ cond (not v) (x ∷ filter (λ y. not (p y || q y)) xs) (filter (λ y. not (p y || q y)) xs)) [
            | true ↦ filter_two p q xs
            | false ↦ ap (λ ys. x ∷ ys) (filter_two p q xs)
          ]
    ]

-- the paths of one value have its key
keyed : (b : PathKey → Bool) (key : PathKey) (mentions : List Mention) (rest : List WrittenPath)
    → filter (λ path. not (b path.key)) (of_its_key key mentions ++ rest)
    ≡ cond (b key) (filter (λ path. not (b path.key)) rest) (of_its_key key mentions ++ filter (λ path. not (b path.key)) rest)
keyed b key [] rest = elim (b key) as (λ v. filter (λ path. not (b path.key)) rest
    ≡ cond v (filter (λ path. not (b path.key)) rest) (filter (λ path. not (b path.key)) rest)) [ true ↦ refl | false ↦ refl ]
keyed b key (m ∷ mentions) rest =
    let F : List WrittenPath = filter (λ path. not (b path.key)) rest in
    ap (λ (ys : List WrittenPath). cond (not (b key)) (record { key = key; mention = m } ∷ ys) ys) (keyed b key mentions rest)
    ∙ elim (b key) as (λ v. cond (not v) (record { key = key; mention = m } ∷ cond v F (of_its_key key mentions ++ F))
    (cond v F (of_its_key key mentions ++ F)) ≡ cond v F (record { key = key; mention = m } ∷ of_its_key key mentions ++ F))
    [ true ↦ refl | false ↦ refl ]

blank : (b : Bool) → cond {A = List WrittenPath} b [] [] ≡ []
blank true = refl
blank false = refl

pub filter_given : (dialect : Dialect) (b : PathKey → Bool) (key : PathKey) (words : List (List ℕ))
    → filter (λ path. not (b path.key)) (paths_in dialect key words) ≡ cond (b key) [] (paths_in dialect key words)
filter_given dialect b key [] = sym (blank (b key))
filter_given dialect b key (word ∷ words) =
    let own : List WrittenPath = word_paths dialect key word in
    keyed b key (mentions_in_word dialect key word) (paths_in dialect key words)
    ∙ ap (λ ys. cond (b key) ys (own ++ ys)) (filter_given dialect b key words)
    ∙ elim (b key) as (λ v. cond v (cond v [] (paths_in dialect key words)) (own ++ cond v [] (paths_in dialect key words))
    ≡ cond v [] (own ++ paths_in dialect key words)) [ true ↦ refl | false ↦ refl ]

and_true : (a b : Bool) → not (a || b) ≡ not (a && true || b)
and_true true b = refl
and_true false b = refl

and_false : (a b : Bool) → not b ≡ not (a && false || b)
and_false true b = refl
and_false false b = refl

-- the rest of the step of one value
step_by : (empty : Bool) (b : PathKey → Bool) (key : PathKey) (paths given : List WrittenPath)
    → filter (λ path. not (b path.key)) given ≡ cond (b key) [] given → (empty ≡ true → given ≡ [])
    → filter (λ path. not (b path.key)) (cond empty (without_key key paths) (paths ++ given))
    ≡ filter (λ path. not (is_key path.key key && empty || b path.key)) paths ++ cond (b key) [] given
step_by true b key paths given kept none =
    filter_two (λ path. is_key path.key key) (λ path. b path.key) paths
    ∙ filter_agree (λ path. not (is_key path.key key || b path.key)) (λ path. not (is_key path.key key && true || b path.key))
    (λ path. and_true (is_key path.key key) (b path.key)) paths
    ∙ sym (append-nil (filter (λ path. not (is_key path.key key && true || b path.key)) paths))
    ∙ ap (λ ys. filter (λ path. not (is_key path.key key && true || b path.key)) paths ++ ys)
    (sym (ap (λ ys. cond (b key) [] ys) (none refl) ∙ blank (b key)))
step_by false b key paths given kept none =
    filter-append (λ path. not (b path.key)) paths given
    ∙ ap (λ ys. ys ++ filter (λ path. not (b path.key)) given)
    (filter_agree (λ path. not (b path.key)) (λ path. not (is_key path.key key && false || b path.key))
    (λ path. and_false (is_key path.key key) (b path.key)) paths)
    ∙ ap (λ ys. filter (λ path. not (is_key path.key key && false || b path.key)) paths ++ ys) kept

not_none : (n : ℕ) → (suc n == 0) ≡ true → ⊥
not_none n e = let same : suc n ≡ 0 = eqb-true (suc n) 0 e in omega arith

-- an empty value gives nothing
none_given : (dialect : Dialect) (key : PathKey) (text : List ℕ) → (length text == 0) ≡ true
    → paths_in dialect key (unwrap_or (split text) []) ≡ []
none_given dialect key [] e = refl
none_given dialect key (byte ∷ text) e = absurd (not_none (length text) e)

-- the paths that are not reset, and then the written ones
pub after_is_written : (dialect : Dialect) (paths : List WrittenPath) (values : List Assigned)
    → after dialect paths values ≡ filter (λ path. not (is_reset_by values path.key)) paths ++ written dialect values
after_is_written dialect paths [] = sym (append-nil (filter (λ path. not false) paths) ∙ filter_none paths)
after_is_written dialect paths (one ∷ later) =
    after_is_written dialect (with_value dialect paths one) later
    ∙ ap (λ ps. ps ++ written dialect later)
    (step_by (length one.value.text == 0) (is_reset_by later) one.key paths (gives dialect one)
    (filter_given dialect (is_reset_by later) one.key (unwrap_or (split one.value.text) []))
    (none_given dialect one.key one.value.text))
    ∙ append_assoc (filter (λ path. not (is_reset_by (one ∷ later) path.key)) paths)
    (cond (is_reset_by later one.key) [] (gives dialect one)) (written dialect later)

pub written_is : (dialect : Dialect) (values : List Assigned) → after dialect [] values ≡ written dialect values
written_is dialect values = after_is_written dialect [] values
