-- The question that is read is the one of the tables that is printed so.
use Rattle.std.proofs.Common.{◌≡◌, ◌∙◌, ℕ, zero, suc, ◌<◌, Bool, true, false, cond, List, [], ◌∷◌, Option, Some, None, length, refl, sym}
use Rattle.std.proofs.Common.{ap, subst, arith}
use Rattle.std.specs.Prelude.{Contains, find}
use Rattle.std.specs.Str.{bytes_eq}
use Rattle.std.proofs.lemmas.Slice.Eq.{bytes_eq-Decides}
use Rattle.asked_service.specs.call_table.Table as calls
use Rattle.asked_service.specs.kernel_laws.Questions as asked
use Rattle.question_text.specs.Printed.{IsPrintedSo, Reads}
use Rattle.asked_service.specs.kernel_laws.declared.question_types.question.Question.{Question}
use Rattle.asked_service.specs.report_text.Wording.{question_words}
use Rattle.asked_service.specs.site_table.Table.{Site}
use Rattle.why_command.specs.Asking.{or_refused, question_named}

module _ {X : Type 0} (p : X → Bool) where
  one_more : (x : X) (xs : List X) (y : X) → Contains xs y → Contains (x ∷ xs) y
  one_more x xs y (at, lt, is) = (suc at, (omega (arith, lt)), is)

  not_first : (x : X) (xs : List X) (y : X) → p x ≡ false → p y ≡ true → Contains (x ∷ xs) y → Contains xs y
  not_first x xs y fails holds (zero, lt, is) = (let e : false ≡ true = sym fails ∙ ap p is ∙ holds in cc)
  not_first x xs y fails holds (suc at, lt, is) = (at, (omega (arith, lt)), is)

  find_first : (first : X) (xs : List X) (found : Option X) → (p first ≡ true → Some first ≡ found)
      → (p first ≡ false → find p xs ≡ found) → (b : Bool) → p first ≡ b → find p (first ∷ xs) ≡ found
  find_first first xs found here later true e = ap (λ b. cond b (Some first) (find p xs)) e ∙ here e
  find_first first xs found here later false e = ap (λ b. cond b (Some first) (find p xs)) e ∙ later e

  pub find_only : (xs : List X) (x : X) → Contains xs x → p x ≡ true → ((y : X) → Contains xs y → p y ≡ true → y ≡ x) → find p xs ≡ Some x
  find_only [] x (at, lt, is) holds only = absurd (omega (arith, lt))
  find_only (first ∷ xs) x there holds only =
      find_first first xs (Some x) (λ e. ap Some (only first (0, (omega arith), refl) e))
      (λ e. find_only xs x (not_first first xs x e holds there) holds (λ y is. only y (one_more first xs y is))) (p first) refl

  pub find_none : (xs : List X) → ((y : X) → Contains xs y → p y ≡ true → ⊥) → find p xs ≡ None
  find_none [] none = refl
  find_none (first ∷ xs) none =
      find_first first xs None (λ e. absurd (none first (0, (omega arith), refl) e))
      (λ e. find_none xs (λ y is. none y (one_more first xs y is))) (p first) refl

module _ (table : calls.Table) (site : Site) (text : List ℕ) where
  printed_so : (question : Question) → Contains (asked.questions table site) question
      → bytes_eq (question_words table site question) text ≡ true → IsPrintedSo table site text question
  printed_so question listed same =
      record { listed = listed; printed = (bytes_eq-Decides (question_words table site question) text).0 same }

  pub named : (question : Question) → Reads table site text (Some question) → question_named table site text ≡ Some question
  named question reads =
      find_only (λ one. bytes_eq (question_words table site one) text) (asked.questions table site) question reads.0.listed
      ((bytes_eq-Decides (question_words table site question) text).1 reads.0.printed)
      (λ other listed same. reads.1 other (printed_so other listed same))

  pub unnamed : Reads table site text None → question_named table site text ≡ None
  unnamed reads = find_none (λ one. bytes_eq (question_words table site one) text) (asked.questions table site)
      (λ other listed same. reads other (printed_so other listed same))
