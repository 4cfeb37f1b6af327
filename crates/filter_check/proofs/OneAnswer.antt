-- A comparison has one answer.
use Rattle.std.proofs.Common.{◌≡◌, ℕ, ◌%◌, ◌/◌, ◌^◌, ◌<◌, List, [], ◌∷◌, Some, Ok, Err, true, false, ◌⊎◌, inl, inr, refl, sym, ap, ◌∙◌}
use Rattle.std.proofs.Common.{subst, arith}
use Rattle.std.specs.Prelude.{Result, flat_map, slice_get, ◌≢◌}
use Rattle.std.proofs.lemmas.Bool.{both_ways, cases_order}
use Rattle.std.proofs.lemmas.Option.{slice_get_within, get_or_from_slice_get}
use Rattle.seccomp_compile.specs.bpf_code.declared.machine.Insn.{Insn}
use Rattle.seccomp_compile.specs.bpf_code.declared.machine.CallData.{CallData}
use Rattle.seccomp_compile.specs.bpf_code.Effects.{words_of, halves}
use Rattle.seccomp_compile.specs.bpf_code.Meaning.{Answers}
use Rattle.seccomp_compile.specs.Form.{is_of_form, AreOfForm}
use Rattle.filter_check.specs.filter_paths.Form.{IsFirstForeign}
use Rattle.filter_check.specs.filter_paths.Traces.{HasMorePaths}
use Rattle.filter_check.specs.declared.outcome.Outcome.{Outcome}
use Rattle.filter_check.specs.declared.outcome.Outcome.TheVariants.{Same, Differs}
use Rattle.filter_check.specs.declared.outcome.CheckError.{CheckError}
use Rattle.filter_check.specs.declared.outcome.CheckError.TheVariants.{Form, TooManyPaths, Memory}
use Rattle.filter_check.specs.Finding as finding
use Rattle.filter_check.specs.Finding.{most_paths, AnswersAs, IsCompared, DiffersAt, IsLeastDifference, Finds, OneFinding}
use Rattle.filter_check.proofs.Sorting.{same_words}
use Rattle.filter_check.proofs.Least.{one_answer}
use Rattle.filter_check.proofs.Counting.{one_count, not_more}

first_before : (code : List Insn) (one other : ℕ) → IsFirstForeign code one → IsFirstForeign code other → one < other → ⊥
first_before code one other f g lt = both_ways (is_of_form f.insn) f.foreign (g.fine_before one f.insn lt f.found)

one_place : (code : List Insn) (one other : ℕ) → IsFirstForeign code one → IsFirstForeign code other → one ≡ other
one_place code one other f g = elim (cases_order one other) [
  | inl e ↦ e
  | inr (inl lt) ↦ absurd (first_before code one other f g lt)
  | inr (inr gt) ↦ absurd (first_before code other one g f gt)
]

not_foreign : (code : List Insn) (place : ℕ) → AreOfForm code → IsFirstForeign code place → ⊥
not_foreign code place form f =
    both_ways (is_of_form f.insn) f.foreign
    (subst (λ insn. is_of_form insn ≡ true) (get_or_from_slice_get code place f.insn f.insn f.found)
    (form place f.insn (slice_get_within code place f.insn f.found)))

-- the words of call data determine them
number_is : (x y : ℕ) → x % 2 ^ 32 ≡ y % 2 ^ 32 → x / 2 ^ 32 ≡ y / 2 ^ 32 → x ≡ y
number_is x y low high = omega (arith, low, high)

head_is : (x y : ℕ) (xs ys : List ℕ) → x ∷ xs ≡ y ∷ ys → x ≡ y
head_is x y xs ys e = cc

tail_is : (x y : ℕ) (xs ys : List ℕ) → x ∷ xs ≡ y ∷ ys → xs ≡ ys
tail_is x y xs ys e = cc

args_are : (xs ys : List ℕ) → flat_map halves xs ≡ flat_map halves ys → xs ≡ ys
args_are [] [] e = refl
args_are [] (y ∷ ys) e = cc
args_are (x ∷ xs) [] e = cc
args_are (x ∷ xs) (y ∷ ys) e =
    let one = tail_is _ _ _ _ e in
    let same = number_is x y (head_is _ _ _ _ e) (head_is _ _ _ _ one) in
    let more = args_are xs ys (tail_is _ _ _ _ one) in
    cc

data_is : (nr n arch a ip i : ℕ) (args rest : List ℕ) → nr ≡ n → arch ≡ a → ip ≡ i → args ≡ rest
    → ◌≡◌ {A = CallData} (record { nr = nr; arch = arch; ip = ip; args = args }) (record { nr = n; arch = a; ip = i; args = rest })
data_is nr n arch a ip i args rest e f g h = λ at. record { nr = e at; arch = f at; ip = g at; args = h at }

same_data : (one other : CallData) → words_of one ≡ words_of other → one ≡ other
same_data one other e =
    let behind_nr = tail_is _ _ _ _ e in
    let behind_arch = tail_is _ _ _ _ behind_nr in
    let behind_low = tail_is _ _ _ _ behind_arch in
    data_is one.nr other.nr one.arch other.arch one.ip other.ip one.args other.args (head_is _ _ _ _ e) (head_is _ _ _ _ behind_nr)
    (number_is one.ip other.ip (head_is _ _ _ _ behind_arch) (head_is _ _ _ _ behind_low))
    (args_are one.args other.args (tail_is _ _ _ _ behind_low))

-- a program that gives the wanted answers does not differ from them
not_same : (code : List Insn) (wanted : CallData → ℕ) (at : CallData) (theirs ours : ℕ) → AnswersAs code wanted
    → DiffersAt code wanted at theirs ours → ⊥
not_same code wanted at theirs ours decides h = h.differ (one_answer code at theirs (wanted at) h.answers (decides at h.fits)
    ∙ sym h.is_wanted)

differs_is : (at there : CallData) (theirs their ours own : ℕ) → at ≡ there → theirs ≡ their → ours ≡ own
    → ◌≡◌ {A = Result Outcome CheckError} (Ok (Differs at theirs ours)) (Ok (Differs there their own))
differs_is at there theirs their ours own e f g = λ i. Ok (Differs (e i) (f i) (g i))

one_difference : (code : List Insn) (wanted : CallData → ℕ) (at there : CallData) (theirs their ours own : ℕ)
    → IsLeastDifference code wanted at theirs ours → IsLeastDifference code wanted there their own
    → ◌≡◌ {A = Result Outcome CheckError} (Ok (Differs at theirs ours)) (Ok (Differs there their own))
one_difference code wanted at there theirs their ours own h g =
    let e : at ≡ there = same_data at there (same_words (words_of at) (words_of there) (h.least there their own g.differs) (g.least at theirs ours h.differs)) in
    differs_is at there theirs their ours own e
    (one_answer code there theirs their (subst (λ input. Answers code input theirs) e h.differs.answers) g.differs.answers)
    (h.differs.is_wanted ∙ ap wanted e ∙ sym g.differs.is_wanted)

beside_foreign : (code : List Insn) (wanted : CallData → ℕ) (place : ℕ) (other : Result Outcome CheckError) → IsFirstForeign code place
    → Finds code wanted other → other ≢ Err Memory → Err (Form place) ≡ other
beside_foreign code wanted place other f (finding.foreign at g) ne = ap (λ n. Err (Form n)) (one_place code place at f g)
beside_foreign code wanted place other f (finding.too_many form more) ne = absurd (not_foreign code place form f)
beside_foreign code wanted place other f (finding.same count compared decides) ne = absurd (not_foreign code place compared.form f)
beside_foreign code wanted place other f (finding.differs count at theirs ours compared least) ne =
    absurd (not_foreign code place compared.form f)
beside_foreign code wanted place other f finding.memory ne = absurd (ne refl)

beside_many : (code : List Insn) (wanted : CallData → ℕ) (other : Result Outcome CheckError) → AreOfForm code
    → HasMorePaths code most_paths → Finds code wanted other → other ≢ Err Memory → Err TooManyPaths ≡ other
beside_many code wanted other form more (finding.foreign at g) ne = absurd (not_foreign code at form g)
beside_many code wanted other form more (finding.too_many f m) ne = refl
beside_many code wanted other form more (finding.same count compared decides) ne =
    absurd (not_more code count most_paths compared.paths compared.few more)
beside_many code wanted other form more (finding.differs count at theirs ours compared least) ne =
    absurd (not_more code count most_paths compared.paths compared.few more)
beside_many code wanted other form more finding.memory ne = absurd (ne refl)

beside_same : (code : List Insn) (wanted : CallData → ℕ) (count : ℕ) (other : Result Outcome CheckError) → IsCompared code count
    → AnswersAs code wanted → Finds code wanted other → other ≢ Err Memory → Ok (Same count) ≡ other
beside_same code wanted count other compared decides (finding.foreign at g) ne = absurd (not_foreign code at compared.form g)
beside_same code wanted count other compared decides (finding.too_many f m) ne =
    absurd (not_more code count most_paths compared.paths compared.few m)
beside_same code wanted count other compared decides (finding.same own c d) ne =
    ap (λ n. Ok (Same n)) (one_count code count own compared.paths c.paths)
beside_same code wanted count other compared decides (finding.differs own at theirs ours c least) ne =
    absurd (not_same code wanted at theirs ours decides least.differs)
beside_same code wanted count other compared decides finding.memory ne = absurd (ne refl)

beside_differs : (code : List Insn) (wanted : CallData → ℕ) (count : ℕ) (at : CallData) (theirs ours : ℕ)
    (other : Result Outcome CheckError) → IsCompared code count → IsLeastDifference code wanted at theirs ours → Finds code wanted other
    → other ≢ Err Memory → Ok (Differs at theirs ours) ≡ other
beside_differs code wanted count at theirs ours other compared least (finding.foreign place g) ne =
    absurd (not_foreign code place compared.form g)
beside_differs code wanted count at theirs ours other compared least (finding.too_many f m) ne =
    absurd (not_more code count most_paths compared.paths compared.few m)
beside_differs code wanted count at theirs ours other compared least (finding.same own c d) ne =
    absurd (not_same code wanted at theirs ours d least.differs)
beside_differs code wanted count at theirs ours other compared least (finding.differs own there their o c l) ne =
    one_difference code wanted at there theirs their ours o least l
beside_differs code wanted count at theirs ours other compared least finding.memory ne = absurd (ne refl)

pub one_finding : OneFinding
one_finding code wanted one other (finding.foreign at f) g ne nf = beside_foreign code wanted at other f g nf
one_finding code wanted one other (finding.too_many form more) g ne nf = beside_many code wanted other form more g nf
one_finding code wanted one other (finding.same count compared decides) g ne nf = beside_same code wanted count other compared decides g nf
one_finding code wanted one other (finding.differs count at theirs ours compared least) g ne nf =
    beside_differs code wanted count at theirs ours other compared least g nf
one_finding code wanted one other finding.memory g ne nf = absurd (ne refl)
