-- A stack decides by these laws.
use Rattle.std.proofs.Common.{◌≡◌, ℕ, zero, suc, ◌+◌, ◌<◌, ◌≤◌, ◌==◌, ◌||◌, Bool, true, false, cond, List, [], ◌∷◌, ◌++◌, length, Option}
use Rattle.std.proofs.Common.{Some, None, refl, sym, ap, ◌∙◌, subst, arith, inl, inr}
use Rattle.std.specs.Prelude.{ℤ, pos, int_le, ◌≤ℤ◌, ◌<ℤ◌, ◌⊎◌, slice_get}
use Rattle.std.proofs.lemmas.Int.{ints}
use Rattle.bpf_code.specs.declared.decision.Decision.{Decision}
use Rattle.bpf_code.specs.declared.decision.Decision.TheVariants.{Pass, Errno, Kill}
use Rattle.std.proofs.lemmas.Bool.{eqb-true}
use Rattle.std.specs.Int.{cast_signed, w32}
use Rattle.std.proofs.Common.{take, get_or}
use Rattle.std.proofs.lemmas.List.{take_more, take_all, map-append}
use Rattle.std.specs.Option.{option_map_or}
use Rattle.bpf_code.specs.declared.machine.Insn.{Insn}
use Rattle.bpf_code.specs.declared.machine.CallData.{CallData}
use Rattle.bpf_code.specs.Meaning.{Answers}
use Rattle.linux_numbers.specs.Actions.{allow, log}
use Rattle.bpf_code.specs.Stack.{answer_of, answers_of, action_word, action_of, stronger, stronger_of, pushed, deciding, decision_of}
use Rattle.bpf_code.specs.Stack.{decision_by, decision_on, IsDeciding, AnswerEach, DecidedBy, Decides}
use Rattle.bpf_code.specs.Refusing.{IsFirm, IsPlain, HasFirm, ArePlain, RefusalsStand}
use Rattle.bpf_code.proofs.Endings.{run_by_answers}

order_of : (a b : ℤ) (t : Bool) → int_le a b ≡ t → cond t (a ≤ℤ b) (b <ℤ a)
order_of a b true e = grind (arith, ints)
order_of a b false e = grind (arith, ints)

≤ℤ_refl : (a : ℤ) → a ≤ℤ a
≤ℤ_refl a = omega (arith, ints)

≤ℤ_trans : (a b c : ℤ) → a ≤ℤ b → b ≤ℤ c → a ≤ℤ c
≤ℤ_trans a b c h k = omega (arith, ints)

≤<ℤ_trans : (a b c : ℤ) → a ≤ℤ b → b <ℤ c → a <ℤ c
≤<ℤ_trans a b c h k = omega (arith, ints)

<≤ℤ_trans : (a b c : ℤ) → a <ℤ b → b ≤ℤ c → a <ℤ c
<≤ℤ_trans a b c h k = omega (arith, ints)

<ℤ_weak : (a b : ℤ) → a <ℤ b → a ≤ℤ b
<ℤ_weak a b h = omega (arith, ints)

-- the stronger of two answers, and the reason
pub data Stronger (older newer : ℕ) : ℕ → Type 0 where
  newer_is : action_of newer ≤ℤ action_of older → Stronger older newer newer
  older_is : action_of older <ℤ action_of newer → Stronger older newer older

stronger_by : (older newer : ℕ) (t : Bool) → int_le (action_of newer) (action_of older) ≡ t → Stronger older newer (cond t newer older)
stronger_by older newer true e = newer_is (order_of (action_of newer) (action_of older) true e)
stronger_by older newer false e = older_is (order_of (action_of newer) (action_of older) false e)

pub stronger_is : (older newer : ℕ) → Stronger older newer (stronger older newer)
stronger_is older newer = stronger_by older newer (int_le (action_of newer) (action_of older)) refl

none_decides : (answers : List ℕ) → deciding answers ≡ None → answers ≡ []
none_decides [] e = refl
none_decides (answer ∷ answers) e = cc

pub some_same : (a b : ℕ) → Some a ≡ Some b → a ≡ b
some_same a b e = cc

same_least : (a b : ℕ) → Some a ≡ Some b → action_of a ≤ℤ action_of b
same_least a b e = subst (λ c. action_of a ≤ℤ action_of c) (some_same a b e) (≤ℤ_refl (action_of a))

alone_least : (a at other : ℕ) → slice_get (a ∷ []) at ≡ Some other → action_of a ≤ℤ action_of other
alone_least a zero other h = same_least a other h
alone_least a (suc at) other h = cc

alone_newest : (a at other : ℕ) → 0 < at → slice_get (a ∷ []) at ≡ Some other → action_of a <ℤ action_of other
alone_newest a zero other lt h = absurd (omega arith)
alone_newest a (suc at) other lt h = cc

alone : (a : ℕ) → IsDeciding (a ∷ []) a
alone a = record { place = 0; found = refl; least = alone_least a; newest = alone_newest a }

-- the oldest answer is weaker
behind_least : (older : ℕ) (newer : List ℕ) (a : ℕ) → action_of a ≤ℤ action_of older → IsDeciding newer a → (at other : ℕ)
    → slice_get (older ∷ newer) at ≡ Some other → action_of a ≤ℤ action_of other
behind_least older newer a le d zero other h = ≤ℤ_trans _ (action_of older) _ le (same_least older other h)
behind_least older newer a le d (suc at) other h = d.least at other h

behind_newest : (older : ℕ) (newer : List ℕ) (a : ℕ) (d : IsDeciding newer a) (at other : ℕ) → d.place + 1 < at
    → slice_get (older ∷ newer) at ≡ Some other → action_of a <ℤ action_of other
behind_newest older newer a d zero other lt h = absurd (omega arith)
behind_newest older newer a d (suc at) other lt h = d.newest at other (omega arith) h

behind_found : (older : ℕ) (newer : List ℕ) (a place : ℕ) → slice_get newer place ≡ Some a → slice_get (older ∷ newer) (place + 1) ≡ Some a
behind_found older newer a place h = let e : place + 1 ≡ suc place = omega arith in rw e h

behind : (older : ℕ) (newer : List ℕ) (a : ℕ) → action_of a ≤ℤ action_of older → IsDeciding newer a → IsDeciding (older ∷ newer) a
behind older newer a le d = record { place = d.place + 1; found = behind_found older newer a d.place d.found; least = behind_least older newer a le d; newest = behind_newest older newer a d }

-- the oldest answer is stronger
before_least : (older : ℕ) (newer : List ℕ) (a : ℕ) → action_of older <ℤ action_of a → IsDeciding newer a → (at other : ℕ)
    → slice_get (older ∷ newer) at ≡ Some other → action_of older ≤ℤ action_of other
before_least older newer a lt d zero other h = same_least older other h
before_least older newer a lt d (suc at) other h = ≤ℤ_trans _ (action_of a) _ (<ℤ_weak _ _ lt) (d.least at other h)

before_newest : (older : ℕ) (newer : List ℕ) (a : ℕ) → action_of older <ℤ action_of a → IsDeciding newer a → (at other : ℕ) → 0 < at
    → slice_get (older ∷ newer) at ≡ Some other → action_of older <ℤ action_of other
before_newest older newer a lt d zero other below h = absurd (omega arith)
before_newest older newer a lt d (suc at) other below h = <≤ℤ_trans _ (action_of a) _ lt (d.least at other h)

before : (older : ℕ) (newer : List ℕ) (a : ℕ) → action_of older <ℤ action_of a → IsDeciding newer a → IsDeciding (older ∷ newer) older
before older newer a lt d =
    record { place = 0; found = refl; least = before_least older newer a lt d; newest = before_newest older newer a lt d }

decides_by : (older : ℕ) (newer : List ℕ) (a s : ℕ) → IsDeciding newer a → Stronger older a s → IsDeciding (older ∷ newer) s
decides_by older newer a s d (newer_is le) = behind older newer a le d
decides_by older newer a s d (older_is lt) = before older newer a lt d

decides_next : (older : ℕ) (newer : List ℕ) (d : Option ℕ) → deciding newer ≡ d → ((a : ℕ) → d ≡ Some a → IsDeciding newer a)
    → IsDeciding (older ∷ newer) (stronger_of older d)
decides_next older newer None e next = subst (λ l. IsDeciding (older ∷ l) older) (sym (none_decides newer e)) (alone older)
decides_next older newer (Some a) e next = decides_by older newer a (stronger older a) (next a refl) (stronger_is older a)

-- the deciding answer is the least one, and the newest with that action
pub decides : (answers : List ℕ) (answer : ℕ) → deciding answers ≡ Some answer → IsDeciding answers answer
decides [] answer e = cc
decides (older ∷ newer) answer e = subst (IsDeciding (older ∷ newer)) (some_same _ _ e)
    (decides_next older newer (deciding newer) refl (λ a h. decides newer a h))

le_true : (a b : ℤ) → a ≤ℤ b → int_le a b ≡ true
le_true a b h = grind (arith, ints)

le_false : (a b : ℤ) → b <ℤ a → int_le a b ≡ false
le_false a b h = grind (arith, ints)

assoc_by : (x y z : ℕ) (s t : Bool) → int_le (action_of z) (action_of y) ≡ s → int_le (action_of y) (action_of x) ≡ t
    → stronger x (cond s z y) ≡ stronger (cond t y x) z
assoc_by x y z true true e f =
    let zy : action_of z ≤ℤ action_of y = order_of _ _ true e in
    let yx : action_of y ≤ℤ action_of x = order_of _ _ true f in
    ap (λ b. cond b z x) (le_true (action_of z) (action_of x) (≤ℤ_trans _ (action_of y) _ zy yx)) ∙ sym (ap (λ b. cond b z y) e)
assoc_by x y z true false e f = refl
assoc_by x y z false true e f = ap (λ b. cond b y x) f ∙ sym (ap (λ b. cond b z y) e)
assoc_by x y z false false e f =
    let yz : action_of y <ℤ action_of z = order_of _ _ false e in
    let xy : action_of x <ℤ action_of y = order_of _ _ false f in
    ap (λ b. cond b y x) f ∙ sym
    (ap (λ b. cond b z x) (le_false (action_of z) (action_of x) (≤<ℤ_trans _ (action_of y) _ (<ℤ_weak _ _ xy) yz)))

pub stronger-assoc : (x y z : ℕ) → stronger x (stronger y z) ≡ stronger (stronger x y) z
stronger-assoc x y z = assoc_by x y z (int_le (action_of z) (action_of y)) (int_le (action_of y) (action_of x)) refl refl

pushed_more : (older newest : ℕ) (d : Option ℕ) → stronger_of older (Some (pushed d newest)) ≡ pushed (Some (stronger_of older d)) newest
pushed_more older newest None = refl
pushed_more older newest (Some a) = stronger-assoc older a newest

pub deciding-push : (answers : List ℕ) (newest : ℕ) → deciding (answers ++ newest ∷ []) ≡ Some (pushed (deciding answers) newest)
deciding-push [] newest = refl
deciding-push (older ∷ newer) newest = ap (λ d. Some (stronger_of older d)) (deciding-push newer newest)
    ∙ ap Some (pushed_more older newest (deciding newer))

-- if the call passes, the action is ALLOW or LOG
pass_test : (t u v : Bool) (n : ℕ) → cond t Pass (cond u (Errno n) (cond v (Errno 38) Kill)) ≡ Pass → t ≡ true
pass_test true u v n e = refl
pass_test false true v n e = cc
pass_test false false true n e = cc
pass_test false false false n e = cc

pass_action : (action : ℕ) (t u : Bool) → (action == allow) ≡ t → (action == log) ≡ u → (t || u) ≡ true → (action ≡ allow) ⊎ (action ≡ log)
pass_action action true u e f h = inl (eqb-true action allow e)
pass_action action false true e f h = inr (eqb-true action log f)
pass_action action false false e f h = cc

not_firm_action : (action : ℕ) → (action ≡ allow) ⊎ (action ≡ log) → cast_signed w32 action <ℤ pos log → ⊥
not_firm_action action (inl e) h = let k : pos allow <ℤ pos log = subst (λ q. cast_signed w32 q <ℤ pos log) e h in omega (arith, ints)
not_firm_action action (inr e) h = let k : pos log <ℤ pos log = subst (λ q. cast_signed w32 q <ℤ pos log) e h in omega (arith, ints)

-- an answer below LOG does not allow the call
pub firm_refuses : (answer : ℕ) → IsFirm answer → decision_of answer ≡ Pass → ⊥
firm_refuses answer firm passes =
    not_firm_action (action_word answer)
    (pass_action (action_word answer) _ _ refl refl (pass_test (action_word answer == allow || action_word answer == log) _ _ _ passes))
    firm

-- if an answer is below LOG, the deciding answer is below LOG
pub record DecidesFirm (answers : List ℕ) : Type 0 where
  pub answer : ℕ
  pub decides : deciding answers ≡ Some answer
  pub firm : IsFirm answer

stronger_firm_by : (older a s : ℕ) → Stronger older a s → IsFirm older ⊎ IsFirm a → IsFirm s
stronger_firm_by older a s (newer_is le) (inl firm) = ≤<ℤ_trans _ (action_of older) _ le firm
stronger_firm_by older a s (newer_is le) (inr firm) = firm
stronger_firm_by older a s (older_is lt) (inl firm) = firm
stronger_firm_by older a s (older_is lt) (inr firm) = ≤<ℤ_trans _ (action_of a) _ (<ℤ_weak _ _ lt) firm

firm_older : (older : ℕ) (d : Option ℕ) → IsFirm older → IsFirm (stronger_of older d)
firm_older older None firm = firm
firm_older older (Some a) firm = stronger_firm_by older a (stronger older a) (stronger_is older a) (inl firm)

firm_newer : (older : ℕ) (newer : List ℕ) → DecidesFirm newer → DecidesFirm (older ∷ newer)
firm_newer older newer d = record { answer = stronger older d.answer; decides = ap (λ o. Some (stronger_of older o)) d.decides; firm = stronger_firm_by older d.answer (stronger older d.answer) (stronger_is older d.answer) (inr d.firm) }

pub firm_decides : (answers : List ℕ) → HasFirm answers → DecidesFirm answers
firm_decides [] h = absurd h
firm_decides (older ∷ newer) (inl firm) =
    record { answer = stronger_of older (deciding newer); decides = refl; firm = firm_older older (deciding newer) firm }
firm_decides (older ∷ newer) (inr h) = firm_newer older newer (firm_decides newer h)

-- if some answer is below LOG, the call does not pass
pub HasFirm-refused : (answers : List ℕ) → HasFirm answers → decision_by (deciding answers) ≡ Pass → ⊥
HasFirm-refused answers h passes = let d = firm_decides answers h in firm_refuses d.answer d.firm (sym (ap decision_by d.decides) ∙ passes)

pub HasFirm-append : (older newer : List ℕ) → HasFirm older → HasFirm (older ++ newer)
HasFirm-append [] newer h = absurd h
HasFirm-append (a ∷ older) newer (inl firm) = inl firm
HasFirm-append (a ∷ older) newer (inr h) = inr (HasFirm-append older newer h)

-- conversely: if all answers are plain and the call does not pass, some answer is below LOG
all_pass_by : (older : ℕ) (d : Option ℕ) → decision_of older ≡ Pass → decision_by d ≡ Pass → decision_of (stronger_of older d) ≡ Pass
all_pass_by older None p q = p
all_pass_by older (Some a) p q = elim (int_le (action_of a) (action_of older)) as
    (λ t. decision_of (cond t a older) ≡ Pass) [ true ↦ q | false ↦ p ]

plain_more : (older : ℕ) (newer : List ℕ) → IsPlain older → (decision_by (deciding newer) ≡ Pass) ⊎ HasFirm newer
    → (decision_by (deciding (older ∷ newer)) ≡ Pass) ⊎ HasFirm (older ∷ newer)
plain_more older newer (inr firm) k = inr (inl firm)
plain_more older newer (inl p) (inr k) = inr (inr k)
plain_more older newer (inl p) (inl q) = inl (all_pass_by older (deciding newer) p q)

pub plain_cases : (answers : List ℕ) → ArePlain answers → (decision_by (deciding answers) ≡ Pass) ⊎ HasFirm answers
plain_cases [] h = inl refl
plain_cases (older ∷ newer) h = plain_more older newer h.0 (plain_cases newer h.1)

-- a refusal by plain answers stays whatever newer answers follow
pub refusal_stands : (older newer : List ℕ) → ArePlain older → (decision_by (deciding older) ≡ Pass → ⊥)
    → decision_by (deciding (older ++ newer)) ≡ Pass → ⊥
refusal_stands older newer plain refused passes =
    elim (plain_cases older plain) [
      | inl p ↦ refused p
      | inr firm ↦ HasFirm-refused (older ++ newer)
          (HasFirm-append older newer firm) passes
    ]

-- without the premise the law is false: 0x7ffd0000 kills, and a newer LOG allows the call
pub odd_action : (decision_by (deciding (0x7ffd0000 ∷ [])) ≡ Kill) × (decision_by (deciding (0x7ffd0000 ∷ 0x7ffc0000 ∷ [])) ≡ Pass)
odd_action = (refl, refl)

pub answer_is : (code : List Insn) (input : CallData) (answer : ℕ) → Answers code input answer → answer_of code input ≡ answer
answer_is code input answer h = let ends = run_by_answers code input answer h in ap (λ end. option_map_or (λ end. end.0) end 0) ends.1

answers_of-push : (programs : List (List Insn)) (code : List Insn) (input : CallData)
    → deciding (answers_of (programs ++ code ∷ []) input) ≡ Some (pushed (deciding (answers_of programs input)) (answer_of code input))
answers_of-push programs code input = ap deciding (map-append (λ p. answer_of p input) programs (code ∷ []))
    ∙ deciding-push (answers_of programs input) (answer_of code input)

each-push : (programs : List (List Insn)) (code : List Insn) (input : CallData) → AnswerEach programs input (answers_of programs input)
    → Answers code input (answer_of code input) → AnswerEach (programs ++ code ∷ []) input (answers_of (programs ++ code ∷ []) input)
each-push [] code input each h = (h, tt)
each-push (program ∷ programs) code input each h = (each.0, each-push programs code input each.1 h)

-- the first so many programs have answered
pub record Asked (programs : List (List Insn)) (input : CallData) (count : ℕ) (strongest : Option ℕ) : Type 0 where
  pub strongest_is : strongest ≡ deciding (answers_of (take count programs) input)
  pub each : AnswerEach (take count programs) input (answers_of (take count programs) input)

pub asked_none : (programs : List (List Insn)) (input : CallData) → Asked programs input 0 None
asked_none programs input = record { strongest_is = refl; each = tt }

pub asked_more : (programs : List (List Insn)) (input : CallData) (i : ℕ) (code : List Insn) (strongest : Option ℕ) (answer n : ℕ)
    → i < length programs → code ≡ get_or programs i code → Asked programs input i strongest → Answers code input answer
    → n ≡ pushed strongest answer → Asked programs input (i + 1) (Some n)
asked_more programs input i code strongest answer n lt is so_far answers e =
    let more : take (i + 1) programs ≡ take i programs ++ code ∷ [] = take_more programs i code lt ∙ ap (λ p. take i programs ++ p ∷ []) (sym is) in
    let same : answer_of code input ≡ answer = answer_is code input answer answers in
    let asked : n ≡ pushed (deciding (answers_of (take i programs) input)) (answer_of code input) = e ∙ ap (λ s. pushed s answer) so_far.strongest_is ∙ ap (pushed (deciding (answers_of (take i programs) input))) (sym same) in
    record {
      strongest_is = ap Some asked ∙ sym (answers_of-push (take i programs) code input)
          ∙ sym (ap (λ ps. deciding (answers_of ps input)) more);
      each = subst (λ ps. AnswerEach ps input (answers_of ps input)) (sym more)
          (each-push (take i programs) code input so_far.each (subst (Answers code input) (sym same) answers));
    }

pub asked_all : (programs : List (List Insn)) (input : CallData) (count : ℕ) (strongest : Option ℕ) → length programs ≤ count
    → Asked programs input count strongest → AnswerEach programs input (answers_of programs input)
asked_all programs input count strongest le asked = subst (λ ps. AnswerEach ps input (answers_of ps input))
    (take_all count programs le) asked.each

decided_by : (answers : List ℕ) (d : Option ℕ) → deciding answers ≡ d → DecidedBy answers (decision_by d)
decided_by [] None e = refl
decided_by [] (Some answer) e = cc
decided_by (oldest ∷ answers) None e = cc
decided_by (oldest ∷ answers) (Some answer) e = (answer, decides (oldest ∷ answers) answer e, refl)

-- the computed decision follows the least action
pub computed_decides : (programs : List (List Insn)) (input : CallData) → AnswerEach programs input (answers_of programs input)
    → Decides programs input (decision_on programs input)
computed_decides programs input each =
    record { answers = answers_of programs input; given = each; decided = decided_by (answers_of programs input) _ refl }

answers_of-append : (older newer : List (List Insn)) (input : CallData)
    → answers_of (older ++ newer) input ≡ answers_of older input ++ answers_of newer input
answers_of-append older newer input = map-append (λ p. answer_of p input) older newer

-- the law over programs
pub refusals_stand : RefusalsStand
refusals_stand older newer input plain refused passes =
    refusal_stands (answers_of older input) (answers_of newer input) plain refused
    (sym (ap (λ answers. decision_by (deciding answers)) (answers_of-append older newer input)) ∙ passes)

pub asked_decides : (programs stack : List (List Insn)) (input : CallData) (strongest : Option ℕ) (decision : Decision) → programs ≡ stack
    → strongest ≡ deciding (answers_of programs input) → AnswerEach programs input (answers_of programs input)
    → decision ≡ decision_by strongest → Decides stack input decision
asked_decides programs stack input strongest decision same is each e =
    subst (λ ps. Decides ps input decision) same
    (subst (Decides programs input) (sym (e ∙ ap decision_by is)) (computed_decides programs input each))
