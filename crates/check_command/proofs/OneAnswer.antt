-- Over the same files and words there is one answer.
use Rattle.std.proofs.Common.{◌≡◌, ◌∙◌, ℕ, List, [], ◌∷◌, Some, None, Result, Ok, Err, refl, sym, ap, subst}
use Rattle.unit_inputs.specs.host_io.Files.{Files}
use Rattle.filter_check.specs.bpf_code.declared.machine.CallData.{CallData}
use Rattle.filter_check.specs.bpf_code.declared.machine.Insn.{Insn}
use Rattle.unit_inputs.specs.call_table.Table.{Table}
use Rattle.unit_inputs.specs.command_answers.CommandErrors.{first_refusal, refusal_in}
use Rattle.unit_inputs.specs.dropin_merge.declared.resolved.Resolved.{Resolved}
use Rattle.unit_inputs.specs.exec_settings.Dynamic.{unit_filters}
use Rattle.filter_check.proofs.OneAnswer.{one_finding}
use Rattle.filter_check.specs.declared.outcome.CheckError.TheVariants.{Memory}
use Rattle.filter_check.specs.declared.outcome.Outcome.{Outcome}
use Rattle.filter_check.specs.declared.filter_lines.error.FileError.TheVariants as file
use Rattle.unit_inputs.specs.filter_settings.declared.filter_rules.settings.FilterSettings.{FilterSettings}
use Rattle.unit_inputs.specs.site_table.Table.{Site}
use Rattle.unit_inputs.specs.CallsRefusals.{calls_in}
use Rattle.unit_inputs.specs.Inputs.{Inputs, all_three, input_refusals, inputs_of}
use Rattle.unit_inputs.specs.SiteRefusals.{site_in}
use Rattle.unit_inputs.specs.UnitRefusals.{unit_in}
use Rattle.unit_inputs.specs.Settled.{refusals_of}
use Rattle.check_command.specs.Answers.{OneAnswer, compared, refused_before}
use Rattle.check_command.specs.Causes.{check_line, file_line}
use Rattle.check_command.specs.Comparing.{Compares, ComparesNamed, is_compared, is_on, not_compared, not_on, wanted_word}
use Rattle.check_command.specs.Prepared.{AreReady, RefusesBefore, a_setting, an_input, the_file}
use Rattle.check_command.specs.Programs.{IsProgramIn, IsProgramOf, a_program, no_file, no_program, of_file}
use Rattle.check_command.proofs.Once.{none_some, not_both, same_err, same_ok, same_some}
use Rattle.check_command.proofs.OneReading.{reads_once}

-- a file is one program
module _ (path : List ℕ) where
  program_of_once : (bytes : List ℕ) (one other : Result (List Insn) (List ℕ)) → IsProgramOf path bytes one → IsProgramOf path bytes other
      → one ≡ other
  program_of_once bytes _ _ (no_program one ne reads) (no_program other ne' reads') =
      ap (λ error. Err (file_line path error))
      (same_err one other (reads_once bytes (Err one) (Err other) reads reads' (λ e. ne (same_err one file.Memory e))
      (λ e. ne' (same_err other file.Memory e))))
  program_of_once bytes _ _ (no_program one ne reads) (a_program code reads') =
      absurd (not_both code one (reads_once bytes (Ok code) (Err one) reads' reads (λ e. cc) (λ e. ne (same_err one file.Memory e))))
  program_of_once bytes _ _ (a_program code reads) (no_program other ne' reads') =
      absurd (not_both code other (reads_once bytes (Ok code) (Err other) reads reads' (λ e. cc) (λ e. ne' (same_err other file.Memory e))))
  program_of_once bytes _ _ (a_program one reads) (a_program other reads') =
      ap Ok (same_ok one other (reads_once bytes (Ok one) (Ok other) reads reads' (λ e. cc) (λ e. cc)))

  program_once : (files : Files) (one other : Result (List Insn) (List ℕ)) → IsProgramIn files path one → IsProgramIn files path other
      → one ≡ other
  program_once files _ _ (no_file one is) (no_file other is') = ap Err (same_err one other (sym is ∙ is'))
  program_once files _ other (no_file line is) (of_file bytes _ is' said) = absurd (not_both bytes line (sym is' ∙ is))
  program_once files one _ (of_file bytes _ is said) (no_file line is') = absurd (not_both bytes line (sym is ∙ is'))
  program_once files one other (of_file bytes _ is said) (of_file bytes' _ is' said') =
      program_of_once bytes' one other (subst (λ own. IsProgramOf path own one) (same_ok bytes bytes' (sym is ∙ is')) said) said'

-- a comparison finds one thing
module _ (path : List ℕ) (code : List Insn) where
  compares_once : (wanted : CallData → ℕ) (one other : Result Outcome (List ℕ)) → Compares path code wanted one
      → Compares path code wanted other → one ≡ other
  compares_once wanted _ _ (not_compared one ne finds) (not_compared other ne' finds') =
      ap (λ error. Err (check_line path error))
      (same_err one other (one_finding code wanted (Err one) (Err other) finds finds' (λ e. ne (same_err one Memory e))
      (λ e. ne' (same_err other Memory e))))
  compares_once wanted _ _ (not_compared one ne finds) (is_compared outcome finds') =
      absurd (not_both outcome one
      (one_finding code wanted (Ok outcome) (Err one) finds' finds (λ e. cc) (λ e. ne (same_err one Memory e))))
  compares_once wanted _ _ (is_compared outcome finds) (not_compared other ne' finds') =
      absurd (not_both outcome other
      (one_finding code wanted (Ok outcome) (Err other) finds finds' (λ e. cc) (λ e. ne' (same_err other Memory e))))
  compares_once wanted _ _ (is_compared one finds) (is_compared other finds') =
      ap Ok (same_ok one other (one_finding code wanted (Ok one) (Ok other) finds finds' (λ e. cc) (λ e. cc)))

  module _ (unit name : List ℕ) (settings : FilterSettings) (table : Table) where
    named_once : (one other : Result Outcome (List ℕ)) → ComparesNamed unit name path settings table code one
        → ComparesNamed unit name path settings table code other → one ≡ other
    named_once _ _ (not_on is) (not_on is') = refl
    named_once _ other (not_on is) (is_on place _ is' said) = absurd (none_some place (sym is ∙ is'))
    named_once one _ (is_on place _ is said) (not_on is') = absurd (none_some place (sym is' ∙ is))
    named_once one other (is_on place _ is said) (is_on place' _ is' said') =
        compares_once (wanted_word settings table place') one other
        (subst (λ own. Compares path code (wanted_word settings table own) one) (same_some place place' (sym is ∙ is')) said) said'

-- inputs that are all there are not refused
all_there : (unit : Result Resolved (List ℕ)) (calls : Result Table (List ℕ)) (site : Result Site (List ℕ)) (inputs : Inputs)
    → all_three unit calls site ≡ Some inputs → first_refusal (refusal_in unit ∷ refusal_in calls ∷ refusal_in site ∷ []) ≡ None
all_there (Ok unit) (Ok calls) (Ok site) inputs is = refl
all_there (Err line) calls site inputs is = absurd (none_some inputs is)
all_there (Ok unit) (Err line) site inputs is = absurd (none_some inputs is)
all_there (Ok unit) (Ok calls) (Err line) inputs is = absurd (none_some inputs is)

module _ (files : Files) (unit path : List ℕ) where
  not_refused : (inputs : Inputs) (line : List ℕ) → inputs_of files unit ≡ Some inputs
      → first_refusal (input_refusals files unit) ≡ Some line → ⊥
  not_refused inputs line are is = none_some line (sym (all_there (unit_in files unit) (calls_in files) (site_in files) inputs are) ∙ is)

  setting_line : (one other : Inputs) (line : List ℕ) → inputs_of files unit ≡ Some one → inputs_of files unit ≡ Some other
      → first_refusal (refusals_of unit one) ≡ Some line → first_refusal (refusals_of unit other) ≡ Some line
  setting_line one other line are are' is = subst (λ own. first_refusal (refusals_of unit own) ≡ Some line)
      (same_some one other (sym are ∙ are')) is

  before_once : (one other : List ℕ) → RefusesBefore files unit path one → RefusesBefore files unit path other → one ≡ other
  before_once one other (an_input _ is) (an_input _ is') = same_some one other (sym is ∙ is')
  before_once one other (an_input _ is) (the_file _ inputs are file) = absurd (not_refused inputs one are is)
  before_once one other (an_input _ is) (a_setting _ inputs code are file is') = absurd (not_refused inputs one are is)
  before_once one other (the_file _ inputs are file) (an_input _ is') = absurd (not_refused inputs other are is')
  before_once one other (the_file _ inputs are file) (the_file _ inputs' are' file') =
      same_err one other (program_once path files (Err one) (Err other) file file')
  before_once one other (the_file _ inputs are file) (a_setting _ inputs' code are' file' is') =
      absurd (not_both code one (program_once path files (Ok code) (Err one) file' file))
  before_once one other (a_setting _ inputs code are file is) (an_input _ is') = absurd (not_refused inputs other are is')
  before_once one other (a_setting _ inputs code are file is) (the_file _ inputs' are' file') =
      absurd (not_both code other (program_once path files (Ok code) (Err other) file file'))
  before_once one other (a_setting _ inputs code are file is) (a_setting _ inputs' code' are' file' is') =
      same_some one other (sym (setting_line inputs inputs' one are are' is) ∙ is')

  not_before : (line : List ℕ) (inputs : Inputs) (code : List Insn) → RefusesBefore files unit path line
      → AreReady files unit path inputs code → ⊥
  not_before line inputs code (an_input _ is) ready = not_refused inputs line ready.inputs_are is
  not_before line inputs code (the_file _ inputs' are file) ready =
      not_both code line (program_once path files (Ok code) (Err line) ready.program_is file)
  not_before line inputs code (a_setting _ inputs' code' are file is) ready =
      none_some line (sym ready.settings_stand ∙ setting_line inputs' inputs line are ready.inputs_are is)

pub one_answer : OneAnswer
one_answer files unit name path _ _ (refused_before one is) (refused_before other is') =
    ap Err (before_once files unit path one other is is')
one_answer files unit name path _ other (refused_before line is) (compared inputs code _ ready said) =
    absurd (not_before files unit path line inputs code is ready)
one_answer files unit name path one _ (compared inputs code _ ready said) (refused_before line is') =
    absurd (not_before files unit path line inputs code is' ready)
one_answer files unit name path one other (compared inputs code _ ready said) (compared inputs' code' _ ready' said') =
    let same_inputs = same_some inputs inputs' (sym ready.inputs_are ∙ ready'.inputs_are) in
    let same_code = same_ok code code' (program_once path files (Ok code) (Ok code') ready.program_is ready'.program_is) in
    named_once path code' unit name (unit_filters inputs'.unit inputs'.calls) inputs'.calls one other
    (subst (λ own. ComparesNamed unit name path (unit_filters inputs'.unit inputs'.calls) inputs'.calls own one) same_code
    (subst (λ (own : Inputs). ComparesNamed unit name path (unit_filters own.unit own.calls) own.calls code one) same_inputs said))
    said'
