-- The answer about a key is folded over the assignments of a walk.
use Rattle.std.proofs.Common.{◌≡◌, ℕ, Bool, true, false, cond, Option, Some, None, List, [], ◌∷◌, ◌++◌, length, refl, sym, ap, ◌∙◌}
use Rattle.std.proofs.Common.{append_assoc, append-nil}
use Rattle.std.specs.Prelude.{◌==◌, flat_map, fold, option_and_then, unwrap_or}
use Rattle.std.specs.List.{cons_option, filter_map}
use Rattle.std.specs.Option.{option_map}
use Rattle.std.proofs.lemmas.List.Concat.{flat_map-append}
use Rattle.unit_grammar.specs.Before.{last_of}
use Rattle.dropin_merge.specs.declared.unit_values.value.Value.{Value}
use Rattle.dropin_merge.specs.unit_values.Values.{in_force}
use Rattle.dropin_merge.specs.unit_values.Notes.{notes_at}
use Rattle.dropin_merge.specs.unit_values.Lasting.{last_read, unless_read, unread_notes}
use Rattle.dropin_merge.specs.unit_values.Words.{split, words_in, words_behind}
use Rattle.dropin_merge.proofs.OneMore.{after_last-push}

-- ---- one more assignment, which may give a value

-- each value adds to a list
pub adds_more : {X V Y : Type 0} (F : List V → List Y)
    → ((o : Option V) (rest : List V) → F (cons_option o rest) ≡ F (cons_option o []) ++ F rest) →
    (f : X → Option V) (left more : List X) (x : X) (o : Option V) (all now new : List Y) → left ≡ x ∷ more → o ≡ f x
    → all ≡ now ++ F (filter_map f left) → new ≡ now ++ F (cons_option o []) →
    all ≡ new ++ F (filter_map f more)
adds_more F parts f left more x o all now new first given before after =
    before
    ∙ ap (λ xs. now ++ F (filter_map f xs)) first
    ∙ ap (λ p. now ++ F (cons_option p (filter_map f more))) (sym given)
    ∙ ap (λ ys. now ++ ys) (parts o (filter_map f more))
    ∙ sym (append_assoc now (F (cons_option o [])) (F (filter_map f more)))
    ∙ ap (λ ys. ys ++ F (filter_map f more)) (sym after)

-- each value may change an answer
pub folds_more : {X V A : Type 0} (F : A → List V → A) (next : A → Option V → A)
    → ((a : A) (o : Option V) (rest : List V) → F a (cons_option o rest) ≡ F (next a o) rest) →
    (f : X → Option V) (left more : List X) (x : X) (o : Option V) (all now new : A) → left ≡ x ∷ more → o ≡ f x
    → all ≡ F now (filter_map f left) → new ≡ next now o → all ≡ F new (filter_map f more)
folds_more F next steps f left more x o all now new first given before after =
    before
    ∙ ap (λ xs. F now (filter_map f xs)) first
    ∙ ap (λ p. F now (cons_option p (filter_map f more))) (sym given)
    ∙ steps now o (filter_map f more)
    ∙ ap (λ a. F a (filter_map f more)) (sym after)

-- ---- the additions and changes of the kinds of keys

pub unread_parts : {A : Type 0} (read : List ℕ → Option A) (o : Option Value) (rest : List Value)
    → unread_notes read (cons_option o rest) ≡ unread_notes read (cons_option o []) ++ unread_notes read rest
unread_parts read None rest = refl
unread_parts read (Some value) rest = ap (λ ns. ns ++ unread_notes read rest)
    (sym (append-nil (notes_at value (unless_read (read value.text)))))

pub some_parts : {V Y : Type 0} (f : V → Option Y) (o : Option V) (rest : List V)
    → filter_map f (cons_option o rest) ≡ filter_map f (cons_option o []) ++ filter_map f rest
some_parts f None rest = refl
some_parts f (Some value) rest = by (f value)
  where
    by : (y : Option _) → cons_option y (filter_map f rest) ≡ cons_option y [] ++ filter_map f rest
    by None = refl
    by (Some y) = refl

any_default : {X : Type 0} (x : X) (xs : List X) (a b : X) → unwrap_or (last_of (x ∷ xs)) a ≡ unwrap_or (last_of (x ∷ xs)) b
any_default x [] a b = refl
any_default x (y ∷ xs) a b = any_default y xs a b

last_cons : {X : Type 0} (o : Option X) (xs : List X) (a : X)
    → unwrap_or (last_of (cons_option o xs)) a ≡ unwrap_or (last_of xs) (unwrap_or o a)
last_cons None xs a = refl
last_cons (Some x) [] a = refl
last_cons (Some x) (y ∷ xs) a = any_default y xs a x

pub last_steps : {A : Type 0} (read : List ℕ → Option A) (a : A) (o : Option Value) (rest : List Value)
    → last_read read a (cons_option o rest) ≡ last_read read (unwrap_or (option_and_then (λ value. read value.text) o) a) rest
last_steps read a None rest = refl
last_steps read a (Some value) rest = last_cons (read value.text) (filter_map (λ one. read one.text) rest) a

pub text_steps : (a : List ℕ) (o : Option Value) (rest : List Value)
    → last_read Some a (cons_option o rest) ≡ last_read Some (unwrap_or (option_map (λ value. value.text) o) a) rest
text_steps a None rest = refl
text_steps a (Some value) rest = last_cons (Some value.text) (filter_map (λ one. Some one.text) rest) a

pub words_steps : (a : List (List ℕ)) (o : Option Value) (rest : List Value)
    → fold words_behind a (cons_option o rest) ≡ fold words_behind (unwrap_or (option_map (words_behind a) o) a) rest
words_steps a None rest = refl
words_steps a (Some value) rest = refl

-- ---- words, value by value

words_push : (values : List Value) (value : Value) → words_in (values ++ value ∷ []) ≡ words_behind (words_in values) value
words_push values value =
    ap (flat_map (λ one. unwrap_or (split one.text) [])) (after_last-push (λ one. length one.text == 0) values value)
    ∙ by (length value.text == 0)
  where
    by : (b : Bool) → flat_map (λ one. unwrap_or (split one.text) []) (cond b [] (in_force values ++ value ∷ []))
        ≡ cond b [] (words_in values ++ unwrap_or (split value.text) [])
    by true = refl
    by false =
        flat_map-append (λ one. unwrap_or (split one.text) []) (in_force values) (value ∷ [])
        ∙ ap (λ ws. words_in values ++ ws) (append-nil (unwrap_or (split value.text) []))

words_from : (front rest : List Value) → words_in (front ++ rest) ≡ fold words_behind (words_in front) rest
words_from front [] = ap words_in (append-nil front)
words_from front (value ∷ rest) =
    ap words_in (sym (append_assoc front (value ∷ []) rest))
    ∙ words_from (front ++ value ∷ []) rest
    ∙ ap (λ words. fold words_behind words rest) (words_push front value)

pub words_folded : (values : List Value) → words_in values ≡ fold words_behind [] values
words_folded values = words_from [] values
