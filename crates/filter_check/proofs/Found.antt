-- The least difference between a program and ours, as a statement about the rules.
use Rattle.std.proofs.Common.{◌≡◌, ℕ, ◌≤◌, List, length, Some, None, Result, Ok, Err, inl, inr, refl, sym, ◌∙◌, subst}
use Rattle.std.specs.Result.{IsErrAnd}
use Rattle.std.proofs.lemmas.Bool.{cases_eq}
use Rattle.seccomp_compile.specs.bpf_code.declared.machine.Insn.{Insn}
use Rattle.seccomp_compile.specs.bpf_code.declared.machine.CallData.{CallData}
use Rattle.seccomp_compile.specs.bpf_code.Meaning.{Answers, IsCallData}
use Rattle.seccomp_compile.specs.call_rules.declared.rules.RuleSet.{RuleSet}
use Rattle.seccomp_compile.specs.Form.{AreOfForm}
use Rattle.filter_check.specs.filter_paths.Traces.{HasPaths}
use Rattle.filter_check.specs.filter_paths.Regions.{IsWithin}
use Rattle.filter_check.specs.filter_paths.Walked.{AreEndsFor, IsEndFor}
use Rattle.filter_check.specs.declared.filter_paths.states.End.{End}
use Rattle.filter_check.specs.declared.differences.Difference.{Difference}
use Rattle.filter_check.specs.Differing.{DiffersFrom, IsLeastFrom}
use Rattle.filter_check.specs.declared.outcome.Outcome.{Outcome}
use Rattle.filter_check.specs.declared.outcome.Outcome.TheVariants.{Same, Differs}
use Rattle.filter_check.specs.declared.outcome.CheckError.{CheckError}
use Rattle.filter_check.specs.declared.outcome.CheckError.TheVariants.{Memory}
use Rattle.filter_check.specs.Finding.{AnswersAs, IsLeastDifference, IsLeastByRules, Finds, memory, same, differs, wanted_by}
use Rattle.filter_check.proofs.Least.{one_answer}

pub none_differs : (code ours : List Insn) (wanted : CallData → ℕ) (ends : List End) → AreEndsFor code IsCallData ends
    → AnswersAs ours wanted → IsLeastFrom ends ours None → AnswersAs code wanted
none_differs code ours wanted ends are decides least = λ input fits.
    let a = are.all_data input fits fits in
    let one : IsEndFor code IsCallData a.1 = subst (IsEndFor code IsCallData) a.3 (are.each a.0 a.1 a.2) in
    let answers = one.answers input fits a.4 in
    elim (cases_eq a.1.answer (wanted input)) [
      | inl e ↦ subst (Answers code input) e answers
      | inr ne ↦ absurd (least.no_later input a.1.answer (wanted input) record
          { fits = fits; of_end = (a.0, a.1, a.2, a.3, (a.4, refl)); answers = decides input fits; differ = ne })
    ]

pub least_differs : (code ours : List Insn) (wanted : CallData → ℕ) (ends : List End) (found : Difference)
    → AreEndsFor code IsCallData ends → AnswersAs ours wanted → IsLeastFrom ends ours (Some found)
    → IsLeastDifference code wanted found.at found.theirs found.ours
least_differs code ours wanted ends found are decides least =
    let h = least.is_one in
    let own = h.of_end in
    let one : IsEndFor code IsCallData own.1 = subst (IsEndFor code IsCallData) own.3 (are.each own.0 own.1 own.2) in
    record {
      differs = record {
        fits = h.fits;
        answers = subst (Answers code found.at) own.4.1 (one.answers found.at h.fits own.4.0);
        is_wanted = one_answer ours found.at found.ours (wanted found.at) h.answers (decides found.at h.fits);
        differ = h.differ;
      };
      least = λ input their other d.
          let a = are.all_data input d.fits d.fits in
          let there : IsEndFor code IsCallData a.1 = subst (IsEndFor code IsCallData) a.3 (are.each a.0 a.1 a.2) in
          let e = one_answer code input a.1.answer their (there.answers input d.fits a.4) d.answers in
          least.no_later input their other record { fits = d.fits; of_end = (a.0, a.1, a.2, a.3, (a.4, e)); answers = subst (Answers ours input) (sym d.is_wanted) (decides input d.fits); differ = d.differ };
    }

-- memory may run out for any program
pub memory_found : (code : List Insn) (wanted : CallData → ℕ) (result : Result Outcome CheckError)
    → IsErrAnd result (λ error. error ≡ Memory) → Finds code wanted result
memory_found code wanted (Ok outcome) is = absurd is
memory_found code wanted (Err error) is = subst (λ e. Finds code wanted (Err e)) (sym is) memory

-- the outcome for the ends of a program
pub same_found : (code : List Insn) (rules : RuleSet) (ends : List End) → length ends ≤ 16384 → AreOfForm code
    → HasPaths code (length ends) → AreEndsFor code IsCallData ends → IsLeastByRules ends rules None
    → Finds code (wanted_by rules) (Ok (Same (length ends)))
same_found code rules ends few form paths are (ours, answers, least) =
    same (length ends) record { form = form; paths = paths; few = few } (none_differs code ours (wanted_by rules) ends are answers least)

pub differs_found : (code : List Insn) (rules : RuleSet) (ends : List End) (found : Difference) → length ends ≤ 16384 → AreOfForm code
    → HasPaths code (length ends) → AreEndsFor code IsCallData ends → IsLeastByRules ends rules (Some found)
    → Finds code (wanted_by rules) (Ok (Differs found.at found.theirs found.ours))
differs_found code rules ends found few form paths are (ours, answers, least) =
    differs (length ends) found.at found.theirs found.ours record { form = form; paths = paths; few = few }
    (least_differs code ours (wanted_by rules) ends found are answers least)
