-- Programs of filters, one for each.
use Rattle.std.proofs.Common.{◌≡◌, ℕ, List, [], ◌∷◌, ◌++◌, Option, Some, refl, ap, ◌∙◌, sym, subst, length, take, get_or, ◌<◌}
use Rattle.std.specs.Prelude.{◌+◌}
use Rattle.std.proofs.lemmas.List.{take_more}
use Rattle.kernel_laws.specs.bpf_code.declared.machine.Insn.{Insn}
use Rattle.kernel_laws.specs.bpf_code.ProgramOf.{program_of}
use Rattle.kernel_laws.specs.bpf_code.Reading.{IsProgram, bytes_of}
use Rattle.kernel_laws.proofs.OfBpfCode.Tied.{accepted_by_function}
use Rattle.exec_settings.specs.filter_settings.declared.filter_rules.installed.Filter.{Filter}
use Rattle.launcher.specs.declared.filters.FilterProgram.{FilterProgram}
use Rattle.launcher.specs.Answers.{IsProgramOf, AreProgramsOf, codes_of, given_bytes}
use Rattle.launcher.specs.Launches.{AreRead}
use Rattle.launcher.specs.Matching.{AreMatching}

pushed : (filters : List Filter) (made : List FilterProgram) (filter : Filter) (one : FilterProgram) → AreProgramsOf filters made
    → IsProgramOf filter one → AreProgramsOf (filters ++ filter ∷ []) (made ++ one ∷ [])
pushed [] [] filter one are is = (is, tt)
pushed [] (x ∷ made) filter one are is = absurd are
pushed (f ∷ filters) [] filter one are is = absurd are
pushed (f ∷ filters) (x ∷ made) filter one are is = (are.0, pushed filters made filter one are.1 is)

-- one more program is made
pub programs_more : (filters : List Filter) (i : ℕ) (filter : Filter) (made next : List FilterProgram) (one : FilterProgram)
    → i < length filters → filter ≡ get_or filters i filter
    → AreProgramsOf (take i filters) made → IsProgramOf filter one → next ≡ made ++ one ∷ [] → AreProgramsOf (take (i + 1) filters) next
programs_more filters i filter made next one lt is are more after =
    let whole : take (i + 1) filters ≡ take i filters ++ filter ∷ [] = take_more filters i filter lt ∙ ap (λ (f : Filter). take i filters ++ f ∷ []) (sym is) in
    subst (λ (fs : List Filter). AreProgramsOf fs next) (sym whole)
    (subst (AreProgramsOf (take i filters ++ filter ∷ [])) (sym after) (pushed (take i filters) made filter one are more))

-- they match their filters, and are what their bytes are read as
pub they_match : (filters : List Filter) (made : List FilterProgram) → AreProgramsOf filters made → AreMatching filters (codes_of made)
they_match [] [] are = tt
they_match [] (one ∷ made) are = absurd are
they_match (filter ∷ filters) [] are = absurd are
they_match (filter ∷ filters) (one ∷ made) are = ((are.0).matches, they_match filters made are.1)

read_back : (code : List Insn) → IsProgram code → program_of (bytes_of code) ≡ Some code
read_back code is = (accepted_by_function (bytes_of code) code).1 is

pub they_are_read : (filters : List Filter) (made : List FilterProgram) → AreProgramsOf filters made
    → AreRead (given_bytes made) (codes_of made)
they_are_read [] [] are = tt
they_are_read [] (one ∷ made) are = absurd are
they_are_read (filter ∷ filters) [] are = absurd are
they_are_read (filter ∷ filters) (one ∷ made) are = (read_back one.program (are.0).taken, they_are_read filters made are.1)

-- bytes are read as one list of programs
pub read_once : (programs : List (List ℕ)) (one other : List (List Insn)) → AreRead programs one → AreRead programs other → one ≡ other
read_once [] [] [] a b = refl
read_once [] [] (y ∷ other) a b = absurd b
read_once [] (x ∷ one) other a b = absurd a
read_once (bytes ∷ programs) [] other a b = absurd a
read_once (bytes ∷ programs) (x ∷ one) [] a b = absurd b
read_once (bytes ∷ programs) (x ∷ one) (y ∷ other) a b =
    let same : x ≡ y = same_code (sym a.0 ∙ b.0) in
    ap (λ (c : List Insn). c ∷ one) same ∙ ap (λ (cs : List (List Insn)). y ∷ cs) (read_once programs one other a.1 b.1)
  where
    same_code : ◌≡◌ {A = Option (List Insn)} (Some x) (Some y) → x ≡ y
    same_code e = cc
