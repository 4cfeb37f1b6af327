-- One reader follows another: its calls follow the calls of the first.
use Rattle.std.proofs.Common.{◌≡◌, Bool, true, false, cond, List, [], ◌∷◌, ◌++◌, map, Result, Ok, Err, refl, sym, ap}
use Rattle.std.proofs.Common.{◌∙◌, subst, append_assoc, append-nil}
use Rattle.std.proofs.lemmas.List.{map-append}
use Rattle.host_io.specs.Files.{Files}
use Rattle.host_io.specs.Agreeing.{ForFiles}
use Rattle.host_io.specs.Calls.{Ask, ShelfCall, Calls, Course, Whole, Faulted, Cut, AsksExactly, answers, fails, answered, call_of, course_of}
use Rattle.host_io.specs.Calls.{up_to}
use Rattle.host_io.specs.declared.reading.ShelfError.{ShelfError}
use Rattle.host_io.specs.declared.reading.ShelfError.TheVariants.{Missing, TooLarge, Failed, Memory}

module _ {S : Type 0} (asks : S → ShelfCall → S → Type 0) where
  pub calls_behind : (a b c : S) (x y : List ShelfCall) → Calls asks a b x → Calls asks b c y → Calls asks a c (x ++ y)
  calls_behind a b c [] y same behind = subst (λ s. Calls asks s c y) same behind
  calls_behind a b c (call ∷ x) y (next, made, rest) behind = (next, made, calls_behind next b c x y rest behind)

  -- one call
  pub one_call : {T : Type 0} (a b : S) (ask : Ask) (result : Result T ShelfError) → asks a (call_of ask result) b
      → AsksExactly asks a b (ask ∷ []) (course_of result)
  one_call a b ask (Ok value) made = (b, made, refl)
  one_call a b ask (Err Missing) made = (b, made, refl)
  one_call a b ask (Err TooLarge) made = (b, made, refl)
  one_call a b ask (Err Failed) made = ([], [], ask, refl, (b, made, refl))
  one_call a b ask (Err Memory) made = (ask ∷ [], [], refl, (b, made, refl))

  -- memory may run out after the last call
  pub went_cut : (a b : S) (x : List Ask) → AsksExactly asks a b x Whole → AsksExactly asks a b x Cut
  went_cut a b x made = (x, [], append-nil x, made)

  pub went_as : (a b : S) (x y : List Ask) (course : Course) → x ≡ y → AsksExactly asks a b x course → AsksExactly asks a b y course
  went_as a b x y course same made = subst (λ wanted. AsksExactly asks a b wanted course) same made

  -- The lemma of composition: a reader follows one that read everything
  pub went_behind : (a b c : S) (x y : List Ask) (course : Course) → AsksExactly asks a b x Whole → AsksExactly asks b c y course
      → AsksExactly asks a c (x ++ y) course
  went_behind a b c x y Whole first second = subst (Calls asks a c) (sym (map-append answers x y))
      (calls_behind a b c (answered x) (answered y) first second)
  went_behind a b c x y Faulted first (front, rest, ask, is, second) = (
    x ++ front,
    rest,
    ask,
    append_assoc x front (ask ∷ rest) ∙ ap (λ l. x ++ l) is,
    subst (Calls asks a c) (sym (ap (λ l. l ++ fails ask ∷ []) (map-append answers x front)
        ∙ append_assoc (answered x) (answered front) (fails ask ∷ [])))
        (calls_behind a b c (answered x) (answered front ++ fails ask ∷ []) first second),
  )
  went_behind a b c x y Cut first (front, rest, is, second) = (
    x ++ front,
    rest,
    append_assoc x front rest ∙ ap (λ l. x ++ l) is,
    subst (Calls asks a c) (sym (map-append answers x front)) (calls_behind a b c (answered x) (answered front) first second),
  )

  -- a reader that stopped early leaves the other without a call
  pub went_short : (a b : S) (x y : List Ask) (course : Course) → (course ≡ Whole → ⊥) → AsksExactly asks a b x course
      → AsksExactly asks a b (x ++ y) course
  went_short a b x y Whole short made = absurd (short refl)
  went_short a b x y Faulted short (front, rest, ask, is, made) =
      (front, rest ++ y, ask, sym (append_assoc front (ask ∷ rest) y) ∙ ap (λ l. l ++ y) is, made)
  went_short a b x y Cut short (front, rest, is, made) = (front, rest ++ y, sym (append_assoc front rest y) ∙ ap (λ l. l ++ y) is, made)

  -- a reader has made a front of the calls that it needs, and has these left
  pub record Going (before now : S) (whole left : List Ask) : Type 0 where
    pub front : List Ask
    pub is : front ++ left ≡ whole
    pub made : Calls asks before now (answered front)

  pub going_more : (a b c : S) (whole x left : List Ask) → Going a b whole (x ++ left) → AsksExactly asks b c x Whole → Going a c whole left
  going_more a b c whole x left going made = record {
    front = going.front ++ x;
    is = append_assoc going.front x left ∙ going.is;
    made = went_behind a b c going.front x Whole going.made made;
  }

  pub going_stops : (a b c : S) (whole left : List Ask) (course : Course) → Going a b whole left → AsksExactly asks b c left course
      → AsksExactly asks a c whole course
  going_stops a b c whole left course going made = went_as a c (going.front ++ left) whole course going.is
      (went_behind a b c going.front left course going.made made)

  -- the reader takes a list up to the first element with a property
  module _ {X : Type 0} (is_last : X → Bool) (ask : X → Ask) (a b c : S) (whole : List Ask) (x : X) (xs : List X) where
    pub goes_on : is_last x ≡ false → Going a b whole (map ask (up_to is_last (x ∷ xs))) → AsksExactly asks b c (ask x ∷ []) Whole
        → Going a c whole (map ask (up_to is_last xs))
    goes_on other going made =
        going_more a b c whole (ask x ∷ []) (map ask (up_to is_last xs))
        (subst (Going a b whole) (ap (λ t. ask x ∷ map ask (cond t [] (up_to is_last xs))) other) going) made

    pub stops_there : (course : Course) → (course ≡ Whole → is_last x ≡ true) → Going a b whole (map ask (up_to is_last (x ∷ xs)))
        → AsksExactly asks b c (ask x ∷ []) course → AsksExactly asks a c whole course
    stops_there Whole last going made =
        going_stops a b c whole (ask x ∷ []) Whole
        (subst (Going a b whole) (ap (λ t. ask x ∷ map ask (cond t [] (up_to is_last xs))) (last refl)) going) made
    stops_there Faulted last going made =
        going_stops a b c whole (ask x ∷ map ask (cond (is_last x) [] (up_to is_last xs))) Faulted going
        (went_short b c (ask x ∷ []) (map ask (cond (is_last x) [] (up_to is_last xs))) Faulted (λ e. cc) made)
    stops_there Cut last going made =
        going_stops a b c whole (ask x ∷ map ask (cond (is_last x) [] (up_to is_last xs))) Cut going
        (went_short b c (ask x ∷ []) (map ask (cond (is_last x) [] (up_to is_last xs))) Cut (λ e. cc) made)

-- a property of the files that agree
pub agreed_by : (P Q : Files → Type 0) (agrees : Files → Type 0) → ((files : Files) → P files → Q files) → ForFiles agrees P → ForFiles agrees Q
agreed_by P Q agrees by h files agree = by files (h files agree)

module _ {S : Type 0} (asks : S → ShelfCall → S → Type 0) (agrees : Files → Type 0) where
  -- a reader follows one that read everything, and this is all that follows it
  pub agreed_behind : (a b c : S) (between : Files → Type 0) (x y z : Files → List Ask) (course : Course) → ForFiles agrees between
      → ForFiles between (λ files. AsksExactly asks a b (x files) Whole) → ForFiles agrees (λ files. AsksExactly asks b c (y files) course)
      → ForFiles between (λ files. y files ≡ z files) → ForFiles agrees (λ files. AsksExactly asks a c (x files ++ z files) course)
  agreed_behind a b c between x y z course stays first second tails files agree =
      went_as asks a c (x files ++ y files) (x files ++ z files) course (ap (λ l. x files ++ l) (tails files (stays files agree)))
      (went_behind asks a b c (x files) (y files) course (first files (stays files agree)) (second files agree))

  -- a reader stopped early, or nothing follows it
  pub agreed_short : (a b : S) (x z : Files → List Ask) (course : Course) → ForFiles agrees (λ files. AsksExactly asks a b (x files) course)
      → ForFiles agrees (λ files. course ≡ Whole → z files ≡ []) → ForFiles agrees (λ files. AsksExactly asks a b (x files ++ z files) course)
  agreed_short a b x z course made none files agree = by_course (x files) (z files) course (none files agree) (made files agree)
    where
      by_course : (xs zs : List Ask) (course : Course) → (course ≡ Whole → zs ≡ []) → AsksExactly asks a b xs course
          → AsksExactly asks a b (xs ++ zs) course
      by_course xs zs Whole none made = went_as asks a b xs (xs ++ zs) Whole (sym (ap (λ l. xs ++ l) (none refl) ∙ append-nil xs)) made
      by_course xs zs Faulted none made = went_short asks a b xs zs Faulted (λ e. cc) made
      by_course xs zs Cut none made = went_short asks a b xs zs Cut (λ e. cc) made

-- memory may run out after the last call
pub agreed_cut : {S : Type 0} (asks : S → ShelfCall → S → Type 0) (agrees : Files → Type 0) (a b : S) (x : Files → List Ask)
    → ForFiles agrees (λ files. AsksExactly asks a b (x files) Whole) → ForFiles agrees (λ files. AsksExactly asks a b (x files) Cut)
agreed_cut asks agrees a b x made files agree = went_cut asks a b (x files) (made files agree)
