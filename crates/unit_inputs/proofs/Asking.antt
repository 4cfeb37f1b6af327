-- Some steps read nothing and follow steps that read.
use Rattle.std.proofs.Common.{◌≡◌, ℕ, List, [], ◌∷◌, ◌++◌, Vec, Global, Option, Some, Result, Ok, Err, refl, sym, ap, ◌∙◌, subst}
use Rattle.std.specs.Prelude.{IsErrOf}
use Rattle.std.specs.Result.{IsErrAnd}
use Rattle.std.specs.declared.alloc.AllocError.{AllocError}
use Rattle.exec_settings.specs.host_io.Agreeing.{ForFiles}
use Rattle.exec_settings.specs.host_io.Calls.{Ask, ShelfCall, call_of, course_of, Course, Whole, Faulted, Cut, AsksExactly, unless_refused}
use Rattle.exec_settings.specs.host_io.Files.{Files}
use Rattle.exec_settings.specs.host_io.declared.reading.ShelfError.{ShelfError}
use Rattle.exec_settings.proofs.OfHostIo.Calling.{one_call, agreed_behind, agreed_short, went_cut}
use Rattle.unit_inputs.specs.command_answers.Asking.{course, unless_told}
use Rattle.unit_inputs.specs.command_answers.CommandErrors.{IsAnswer, Prepares, first_refusal, error_of_line}
use Rattle.unit_inputs.specs.declared.command_answers.error.CommandError.{CommandError}
use Rattle.unit_inputs.specs.declared.command_answers.error.CommandError.TheVariants.{Refused, ReadFault, Memory}
use Rattle.unit_inputs.proofs.FileCommands.{at_stop}

-- one call has a course by the answer of the shelf
pub call_ends : {S T : Type 0} (asks : S → ShelfCall → S → Type 0) (a b : S) (ask : Ask) (result end : Result T ShelfError) → result ≡ end
    → asks a (call_of ask result) b → AsksExactly asks a b (ask ∷ []) (course_of end)
call_ends asks a b ask result end is made = subst (AsksExactly asks a b (ask ∷ [])) (ap course_of is) (one_call asks a b ask result made)

-- the course of an error is the same for every wanted value
pub course_as : (T U : Type 0) (why : CommandError) → course {T = T} (Err why) ≡ course {T = U} (Err why)
course_as T U (Refused line) = refl
course_as T U ReadFault = refl
course_as T U Memory = refl

module _ {S : Type 0} (asks : S → ShelfCall → S → Type 0) (a b : S) where
  -- a step that reads nothing leaves the calls so far
  pub went_quiet : {T : Type 0} (x : List Ask) (result : Result T CommandError) → (IsErrOf result ReadFault → ⊥) → AsksExactly asks a b x Whole
      → AsksExactly asks a b x (course result)
  went_quiet x (Ok value) quiet made = made
  went_quiet x (Err (Refused line)) quiet made = made
  went_quiet x (Err ReadFault) quiet made = absurd (quiet refl)
  went_quiet x (Err Memory) quiet made = went_cut asks a b x made

  pub agreed_quiet : {T : Type 0} (agrees : Files → Type 0) (x : Files → List Ask) (result : Result T CommandError) → (IsErrOf result ReadFault → ⊥)
      → ForFiles agrees (λ files. AsksExactly asks a b (x files) Whole) → ForFiles agrees (λ files. AsksExactly asks a b (x files) (course result))
  agreed_quiet agrees x result quiet made files agree = went_quiet (x files) result quiet (made files agree)

  -- an error is passed on with its course
  pub went_stopped : (T : Type 0) {U : Type 0} (x : List Ask) (result : Result U CommandError) (why : CommandError)
      → IsErrAnd result (λ error. error ≡ why) → AsksExactly asks a b x (course {T = T} (Err why)) → AsksExactly asks a b x (course result)
  went_stopped T {U} x result why is made = at_stop (λ (r : Result U CommandError). AsksExactly asks a b x (course r)) result why is
      (subst (AsksExactly asks a b x) (course_as T U why) made)

  pub agreed_stopped : (T : Type 0) {U : Type 0} (agrees : Files → Type 0) (x : Files → List Ask) (result : Result U CommandError) (why : CommandError)
      → IsErrAnd result (λ error. error ≡ why) → ForFiles agrees (λ files. AsksExactly asks a b (x files) (course {T = T} (Err why)))
      → ForFiles agrees (λ files. AsksExactly asks a b (x files) (course result))
  agreed_stopped T agrees x result why is made files agree = went_stopped T (x files) result why is (made files agree)

  pub agreed_quiet_stopped : (T : Type 0) {U : Type 0} (agrees : Files → Type 0) (x : Files → List Ask) (result : Result U CommandError) (why : CommandError)
      → IsErrAnd result (λ error. error ≡ why) → (IsErrOf {T = T} (Err why) ReadFault → ⊥)
      → ForFiles agrees (λ files. AsksExactly asks a b (x files) Whole) → ForFiles agrees (λ files. AsksExactly asks a b (x files) (course result))
  agreed_quiet_stopped T agrees x result why is quiet made = agreed_stopped T agrees x result why is
      (agreed_quiet {T = T} agrees x (Err why) quiet made)

  -- a reading follows another that is not refused
  pub answer_behind : {T V : Type 0} (c : S) (see : T → V) (agrees between : Files → Type 0) (x y : Files → List Ask)
      (wanted : Files → Result V (List ℕ)) (value : T) (how : Course) → ForFiles agrees between
      → ForFiles between (λ files. IsAnswer see (Ok value) (wanted files)) → ForFiles between (λ files. AsksExactly asks a b (x files) Whole)
      → ForFiles agrees (λ files. AsksExactly asks b c (y files) how)
      → ForFiles agrees (λ files. AsksExactly asks a c (x files ++ unless_refused (wanted files) (y files)) how)
  answer_behind c see agrees between x y wanted value how stays is first second =
      agreed_behind asks agrees a b c between x y (λ files. unless_refused (wanted files) (y files)) how stays first second
      (λ files agree. sym (ap (λ r. unless_refused r (y files)) (is files agree)))

  -- after a refused reading the next one is not made
  pub answer_stops : {T V : Type 0} (see : T → V) (agrees : Files → Type 0) (x y : Files → List Ask) (wanted : Files → Result V (List ℕ))
      (why : CommandError)
      → ForFiles agrees (λ files. IsAnswer see (Err why) (wanted files))
      → ForFiles agrees (λ files. AsksExactly asks a b (x files) (course {T = T} (Err why)))
      → ForFiles agrees (λ files. AsksExactly asks a b (x files ++ unless_refused (wanted files) (y files)) (course {T = T} (Err why)))
  answer_stops {T} see agrees x y wanted why is made =
      agreed_short asks agrees a b x (λ files. unless_refused (wanted files) (y files)) (course {T = T} (Err why)) made (λ files agree. by_why files why (is files agree))
    where
      by_why : (files : Files) (why : CommandError) → IsAnswer see (Err why) (wanted files) → course {T = T} (Err why) ≡ Whole
          → unless_refused (wanted files) (y files) ≡ []
      by_why files (Refused line) is whole = ap (λ r. unless_refused r (y files)) is
      by_why files ReadFault is whole = cc
      by_why files Memory is whole = cc

  -- a reading follows others of which none is refused
  pub prepared_behind : {T : Type 0} (c : S) (P : Files → T → Type 0) (agrees between : Files → Type 0) (x y : Files → List Ask)
      (refusals : Files → List (Option (List ℕ))) (value : T) (how : Course) → ForFiles agrees between
      → ForFiles between (λ files. Prepares (P files) (refusals files) (Ok value)) → ForFiles between (λ files. AsksExactly asks a b (x files) Whole)
      → ForFiles agrees (λ files. AsksExactly asks b c (y files) how)
      → ForFiles agrees (λ files. AsksExactly asks a c (x files ++ unless_told (first_refusal (refusals files)) (y files)) how)
  prepared_behind c P agrees between x y refusals value how stays is first second =
      agreed_behind asks agrees a b c between x y (λ files. unless_told (first_refusal (refusals files)) (y files)) how stays first second
      (λ files agree. sym (ap (λ r. unless_told r (y files)) (is files agree).0))

  pub prepared_stops : {T : Type 0} (P : Files → T → Type 0) (agrees : Files → Type 0) (x y : Files → List Ask)
      (refusals : Files → List (Option (List ℕ))) (why : CommandError)
      → ForFiles agrees (λ files. Prepares (P files) (refusals files) (Err why))
      → ForFiles agrees (λ files. AsksExactly asks a b (x files) (course {T = T} (Err why)))
      → ForFiles agrees (λ files. AsksExactly asks a b (x files ++ unless_told (first_refusal (refusals files)) (y files)) (course {T = T} (Err why)))
  prepared_stops {T} P agrees x y refusals why is made =
      agreed_short asks agrees a b x (λ files. unless_told (first_refusal (refusals files)) (y files)) (course {T = T} (Err why)) made
      (λ files agree. by_why files why (is files agree))
    where
      by_why : (files : Files) (why : CommandError) → Prepares (P files) (refusals files) (Err why) → course {T = T} (Err why) ≡ Whole
          → unless_told (first_refusal (refusals files)) (y files) ≡ []
      by_why files (Refused line) is whole = ap (λ r. unless_told r (y files)) is
      by_why files ReadFault is whole = cc
      by_why files Memory is whole = cc

-- a line that is printed is no fault
pub told_line : {T : Type 0} (line : Result (Vec ℕ Global) AllocError) (why : CommandError) → why ≡ error_of_line line
    → IsErrOf {T = T} (Err why) ReadFault → ⊥
told_line (Ok line) why is fault = (let same : Refused line ≡ ReadFault = (let passed : why ≡ ReadFault = cc in sym is ∙ passed) in cc)
told_line (Err error) why is fault = (let same : Memory ≡ ReadFault = (let passed : why ≡ ReadFault = cc in sym is ∙ passed) in cc)
