-- A launch has few calls.
use Rattle.std.proofs.Common.{◌≡◌, ℕ, zero, suc, Bool, true, false, cond, codes, List, [], ◌∷◌, ◌++◌, refl, ap, length, ◌≤◌, arith, eqb}
use Rattle.std.specs.Prelude.{map, filter, ◌+◌, not}
use Rattle.std.proofs.lemmas.List.{length-append, length-map}
use Rattle.std.proofs.lemmas.List.Sums.{sum_by-cons}
use Rattle.kernel_laws.specs.bpf_code.Reading.{bytes_of}
use Rattle.exec_settings.specs.call_rules.Sizes.{most_insns}
use Rattle.kernel_laws.specs.call_table.declared.listed.CallLine.{CallLine}
use Rattle.exec_settings.specs.cap_sets.Sets.{has, union, cut, minus}
use Rattle.exec_settings.specs.filter_settings.filter_rules.Costs.{most_room}
use Rattle.exec_settings.specs.filter_settings.declared.filter_rules.installed.Filter.{Filter}
use Rattle.kernel_laws.specs.kernel_model.declared.kernel_calls.payload.Payload.TheVariants.{Code}
use Rattle.kernel_laws.specs.Questions.{count_from, if_so}
use Rattle.kernel_laws.specs.linux_numbers.Limits.{max_insns_per_path}
use Rattle.launcher.specs.declared.filters.FilterProgram.{FilterProgram}
use Rattle.launcher.specs.Answers.{AreProgramsOf, codes_of, given_bytes}
use Rattle.launcher.specs.Launch.{Wanted, LaunchStep, makes, prctl_step, group_steps, drop_steps, inherit_steps, user_steps, raise_steps}
use Rattle.launcher.specs.Launch.{left_steps, privilege_steps, memory_steps, identity_steps, filter_steps, program_steps, give_up_steps, given_up_steps, last_steps, call_steps}
use Rattle.launcher.specs.Launch.{set_mode_filter, capbset_drop, cap_ambient, ambient_raise, capset_step, held, with_held}

counted : (from count : ℕ) → length (count_from from count) ≡ count
counted from zero = refl
counted from (suc count) = ap suc (counted (from + 1) count)

passing : (test : ℕ → Bool) (xs : List ℕ) → length (filter test xs) ≤ length xs
passing test [] = omega arith
passing test (x ∷ xs) = by (test x) (passing test xs)
  where
    by : (b : Bool) → length (filter test xs) ≤ length xs → length (cond b (x ∷ filter test xs) (filter test xs)) ≤ suc (length xs)
    by true le = omega (arith, le)
    by false le = omega (arith, le)

each_cap : (step : ℕ → LaunchStep) (test : ℕ → Bool) → length (map step (filter test (count_from 0 41))) ≤ 41
each_cap step test =
    let all = counted 0 41 in
    let some = passing test (count_from 0 41) in
    let same = length-map (filter test (count_from 0 41)) step in
    omega (arith, all, some, same)

if_two : (b : Bool) (one two : LaunchStep) → length (cond b [] (one ∷ two ∷ [])) ≤ 2
if_two true one two = omega arith
if_two false one two = omega arith

if_one : (b : Bool) (one : LaunchStep) → length (cond b [] (one ∷ [])) ≤ 1
if_one true one = omega arith
if_one false one = omega arith

so_one : (b : Bool) (one : LaunchStep) → length (if_so b one) ≤ 1
so_one true one = omega arith
so_one false one = omega arith

-- what is put behind so many steps
behind : (first then : List LaunchStep) (m n : ℕ) → length first ≤ m → length then ≤ n → length (first ++ then) ≤ m + n
behind first then m n one two = let e = length-append first then in omega (arith, e, one, two)

few_identity : (lines : List CallLine) (wanted : Wanted) → length (identity_steps lines wanted) ≤ 90
few_identity lines wanted =
    let groups : length (group_steps lines wanted) ≤ 2 = omega arith in
    let drops : length (drop_steps lines wanted) ≤ 41 = each_cap (λ cap. prctl_step lines capbset_drop cap 0) (λ cap. not (has (with_held wanted.keeps_capabilities wanted.bounding) cap)) in
    let inherit : length (inherit_steps lines wanted) ≤ 1 = omega arith in
    let user : length (user_steps lines wanted) ≤ 2 = if_two (eqb wanted.uid 0) _ _ in
    let raises : length (raise_steps lines wanted) ≤ 41 = each_cap (λ cap. prctl_step lines cap_ambient ambient_raise cap) (has wanted.ambient) in
    let left : length (left_steps lines wanted) ≤ 1 = if_one (eqb wanted.uid 0) _ in
    let privileges : length (privilege_steps lines wanted) ≤ 1 = so_one wanted.no_new_privs _ in
    let memory : length (memory_steps lines wanted) ≤ 1 = so_one wanted.mdwe _ in
    let two = behind (group_steps lines wanted) (drop_steps lines wanted) 2 41 groups drops in
    let three = behind (group_steps lines wanted ++ drop_steps lines wanted) (inherit_steps lines wanted) 43 1 two inherit in
    let four = behind (group_steps lines wanted ++ drop_steps lines wanted ++ inherit_steps lines wanted) (user_steps lines wanted) 44 2 three user in
    let five = behind (group_steps lines wanted ++ drop_steps lines wanted ++ inherit_steps lines wanted ++ user_steps lines wanted) (raise_steps lines wanted) 46 41 four raises in
    let six = behind (group_steps lines wanted ++ drop_steps lines wanted ++ inherit_steps lines wanted ++ user_steps lines wanted ++ raise_steps lines wanted) (left_steps lines wanted) 87 1 five left in
    let seven = behind (group_steps lines wanted ++ drop_steps lines wanted ++ inherit_steps lines wanted ++ user_steps lines wanted ++ raise_steps lines wanted ++ left_steps lines wanted) (privilege_steps lines wanted) 88 1 six privileges in
    behind (group_steps lines wanted ++ drop_steps lines wanted ++ inherit_steps lines wanted ++ user_steps lines wanted ++ raise_steps
    lines wanted ++ left_steps lines wanted ++ privilege_steps lines wanted) (memory_steps lines wanted) 89 1 seven memory

few_filters : (filters : List Filter) (made : List FilterProgram) → AreProgramsOf filters made → length made ≤ most_room filters
few_filters [] [] are = omega arith
few_filters [] (one ∷ made) are = absurd are
few_filters (filter ∷ filters) [] are = absurd are
few_filters (filter ∷ filters) (one ∷ made) are =
    let more = few_filters filters made are.1 in
    let sum = sum_by-cons (λ (f : Filter). most_insns f.rules + 4) filter filters in
    omega (arith, more, sum)

few_last : (lines : List CallLine) (wanted : Wanted) → length (last_steps lines wanted) ≤ 43
few_last lines wanted = behind (give_up_steps lines wanted) (program_steps lines wanted.program) 42 1 (by wanted.keeps_capabilities) (omega arith)
  where
    by : (b : Bool) → length (cond b (given_up_steps lines (minus held wanted.bounding)
        ++ capset_step lines wanted.ambient wanted.ambient (union wanted.ambient (cut held wanted.bounding)) ∷ []) []) ≤ 42
    by false = omega arith
    by true = behind (given_up_steps lines (minus held wanted.bounding))
        (capset_step lines wanted.ambient wanted.ambient (union wanted.ambient (cut held wanted.bounding)) ∷ []) 41 1
        (each_cap (λ cap. prctl_step lines capbset_drop cap 0) (has (minus held wanted.bounding))) (omega arith)

pub few_calls : (lines : List CallLine) (wanted : Wanted) (filters : List Filter) (made : List FilterProgram) → AreProgramsOf filters made
    → most_room filters ≤ max_insns_per_path → wanted.programs ≡ given_bytes made
    → length (call_steps lines wanted) ≤ 40000
few_calls lines wanted filters made are room given =
    let own = few_identity lines wanted in
    let few = few_filters filters made are in
    let own_codes = length-map made (λ (one : FilterProgram). one.program) in
    let bytes = length-map (codes_of made) bytes_of in
    let programs = ap (λ (ps : List (List ℕ)). length ps) given in
    let steps = length-map wanted.programs (λ code. makes lines (codes "seccomp") set_mode_filter 0 0 (Code code)) in
    let one = length-append (identity_steps lines wanted) (filter_steps lines wanted.programs) in
    let last = few_last lines wanted in
    let whole = length-append (identity_steps lines wanted ++ filter_steps lines wanted.programs) (last_steps lines wanted) in
    omega (arith, own, last, few, room, own_codes, bytes, programs, steps, one, whole)
