-- The calls of `fleet`, step by step.
use Rattle.std.proofs.Common.{◌≡◌, ◌∙◌, ℕ, Bool, true, false, cond, Box, Vec, Global, List, [], ◌∷◌, Some, None, Result, Ok, Err}
use Rattle.std.proofs.Common.{refl, sym, ap, subst}
use Rattle.std.specs.Prelude.{◌==◌}
use Rattle.unit_inputs.specs.host_io.Agreeing.{ForFiles}
use Rattle.unit_inputs.specs.host_io.Calls.{Ask, ShelfCall, Course, Whole, AsksExactly}
use Rattle.unit_inputs.specs.host_io.Files.{Files}
use Rattle.unit_inputs.proofs.OfHostIo.Calling.{agreed_behind, agreed_short}
use Rattle.report_text.specs.call_table.Table.{Table}
use Rattle.report_text.specs.exposure_score.StoredTests.{StoredTests}
use Rattle.report_text.specs.exposure_score.policy_weights.Weights.{weight_of}
use Rattle.report_text.specs.site_table.Table.{Site}
use Rattle.unit_inputs.specs.unit_names.Names.{Name}
use Rattle.unit_inputs.specs.command_answers.Asking.{course, input_file, unless_told}
use Rattle.unit_inputs.specs.command_answers.CommandErrors.{IsAnswer, Prepares, first_refusal}
use Rattle.unit_inputs.specs.declared.command_answers.error.CommandError.{CommandError}
use Rattle.unit_inputs.specs.declared.command_answers.error.CommandError.TheVariants as stop
use Rattle.unit_inputs.proofs.Refusing.{before_others}
use Rattle.score_command.specs.fleet_command.fleet_names.Asking.{course as names_course, names_asks}
use Rattle.score_command.specs.fleet_command.fleet_names.Units.{are_too_many, units_of}
use Rattle.score_command.specs.declared.fleet_command.fleet_names.errors.NamesError.{NamesError}
use Rattle.score_command.specs.fleet_command.fleet_report.Asking.{course as rows_course, rows_asks, unless_weightless}
use Rattle.score_command.specs.declared.fleet_command.fleet_report.errors.FleetError.{FleetError}
use Rattle.score_command.specs.declared.fleet_command.fleet_report.rows.FleetRow.{FleetRow}
use Rattle.unit_inputs.specs.Asking.{AsksInOrder, site_asks, table_asks}
use Rattle.unit_inputs.specs.CallsRefusals.{calls_in}
use Rattle.unit_inputs.specs.SiteRefusals.{site_in}
use Rattle.unit_inputs.proofs.Ordering.{asked_so, order_answered, order_refused}
use Rattle.score_command.specs.Policies.{policy_in}
use Rattle.score_command.specs.Weights.{no_weight_line, weight_refusal}
use Rattle.score_command.specs.fleet_command.Asking.{behind_names, behind_site, fleet_asks, read_asks}
use Rattle.score_command.specs.fleet_command.Inputs.{AreInputs, inputs_view}
use Rattle.score_command.specs.fleet_command.Refusals.{fleet_refusals, names_in, read_refusals, too_many_line, weights_in}
use Rattle.score_command.specs.declared.fleet_command.preparing.FleetInputs.{FleetInputs}
use Rattle.score_command.proofs.FleetCommandPrepared.{refused_as}

-- what the units are named by, and what they are reported by, said as of a step of preparing
module _ {S : Type 0} (asks : S → ShelfCall → S → Type 0) (agrees : Files → Type 0) (a b : S) where
  pub named_so : (result end : Result (Vec Name Global) NamesError) → result ≡ end
      → ForFiles agrees (λ files. AsksExactly asks a b (names_asks files) (names_course result))
      → AsksInOrder asks agrees names_asks a b (names_course end)
  named_so result end same made =
      record {
        by_the_files = subst
            (λ (own : Result (Vec Name Global) NamesError). ForFiles agrees (λ files. AsksExactly asks a b (names_asks files) (names_course own))) same
            made;
      }

  pub reported_so : (inputs : FleetInputs) (stored : StoredTests) (names : List Name) (table : Table)
      (result end : Result (Vec FleetRow Global) FleetError) → names ≡ inputs.names.items → table ≡ inputs.calls.value → result ≡ end
      → ForFiles agrees (λ files. AsksExactly asks a b (unless_weightless (weight_of table stored inputs.policy) (rows_asks files names))
      (rows_course result))
      → AsksInOrder asks agrees (λ files. unless_weightless (weight_of (inputs_view inputs).calls stored (inputs_view inputs).policy)
      (rows_asks files (inputs_view inputs).names)) a b (rows_course end)
  reported_so inputs stored names table result end first second same made = record {
    by_the_files =
        subst (λ own. ForFiles agrees
        (λ files. AsksExactly asks a b (unless_weightless (weight_of own stored inputs.policy) (rows_asks files inputs.names.items))
        (rows_course end))) second
        (subst (λ own. ForFiles agrees
        (λ files. AsksExactly asks a b (unless_weightless (weight_of table stored inputs.policy) (rows_asks files own)) (rows_course end)))
        first
        (subst (λ (own : Result (Vec FleetRow Global) FleetError). ForFiles agrees
        (λ files. AsksExactly asks a b (unless_weightless (weight_of table stored inputs.policy) (rows_asks files names)) (rows_course own)))
        same made));
  }

module _ {S : Type 0} (asks : S → ShelfCall → S → Type 0) (agrees : Files → Type 0) (path : List ℕ) where
  -- ---- what is read before the first unit
  module _ (a b : S) where
    pub stops_at_names : (why : CommandError)
        → ForFiles agrees (λ files. IsAnswer {T = Vec Name Global} (λ own. own.items) (Err why) (names_in files))
        → AsksInOrder asks agrees names_asks a b (course {T = Vec Name Global} (Err why))
        → AsksInOrder asks agrees (λ files. read_asks files path) a b (course {T = Vec Name Global} (Err why))
    stops_at_names why said made = order_refused asks agrees names_asks a b (λ (own : Vec Name Global). own.items) names_in
        (λ files. behind_names files path) why said made

    pub behind_the_names : (c : S) (between : Files → Type 0) (own : Vec Name Global) (how : Course) → ForFiles agrees between
        → ForFiles between (λ files. names_in files ≡ Ok own.items) → AsksInOrder asks between names_asks a b Whole
        → AsksInOrder asks agrees (λ files. behind_names files path) b c how
        → AsksInOrder asks agrees (λ files. read_asks files path) a c how
    behind_the_names c between own how stays said first second =
        order_answered asks agrees names_asks a b (λ (own : Vec Name Global). own.items) names_in
        (λ files. behind_names files path) c between own how stays said first second

    pub stops_at_table : (why : CommandError)
        → ForFiles agrees (λ files. IsAnswer {T = Box Table Global} (λ own. own.value) (Err why) (calls_in files))
        → AsksExactly asks a b table_asks (course {T = Box Table Global} (Err why))
        → AsksInOrder asks agrees (λ files. behind_names files path) a b (course {T = Box Table Global} (Err why))
    stops_at_table why said made =
        order_refused asks agrees (λ files. table_asks) a b (λ (own : Box Table Global). own.value) calls_in
        (λ files. behind_site files path) why said (asked_so asks agrees table_asks a b (course {T = Box Table Global} (Err why)) made)

    pub behind_the_table : (c : S) (between : Files → Type 0) (own : Box Table Global) (how : Course) → ForFiles agrees between
        → ForFiles between (λ files. calls_in files ≡ Ok own.value) → AsksExactly asks a b table_asks Whole
        → AsksInOrder asks agrees (λ files. behind_site files path) b c how
        → AsksInOrder asks agrees (λ files. behind_names files path) a c how
    behind_the_table c between own how stays said first second =
        order_answered asks agrees (λ files. table_asks) a b (λ (own : Box Table Global). own.value) calls_in
        (λ files. behind_site files path) c between own how stays said (asked_so asks between table_asks a b Whole first) second

    pub stops_at_site : (why : CommandError) → ForFiles agrees (λ files. IsAnswer {T = Box Site Global} (λ own. own.value) (Err why) (site_in files))
        → AsksExactly asks a b site_asks (course {T = Box Site Global} (Err why))
        → AsksInOrder asks agrees (λ files. behind_site files path) a b (course {T = Box Site Global} (Err why))
    stops_at_site why said made =
        order_refused asks agrees (λ files. site_asks) a b (λ (own : Box Site Global). own.value) site_in
        (λ files. input_file path ∷ []) why said (asked_so asks agrees site_asks a b (course {T = Box Site Global} (Err why)) made)

    pub behind_the_site : (c : S) (between : Files → Type 0) (own : Box Site Global) (how : Course) → ForFiles agrees between
        → ForFiles between (λ files. site_in files ≡ Ok own.value) → AsksExactly asks a b site_asks Whole
        → AsksExactly asks b c (input_file path ∷ []) how → AsksInOrder asks agrees (λ files. behind_site files path) a c how
    behind_the_site c between own how stays said first second =
        order_answered asks agrees (λ files. site_asks) a b (λ (own : Box Site Global). own.value) site_in
        (λ files. input_file path ∷ []) c between own how stays said (asked_so asks between site_asks a b Whole first)
        (asked_so asks agrees (input_file path ∷ []) b c how second)

  -- ---- the units
  module _ (stored : StoredTests) (a b : S) where
    -- something is refused, or a read failed, or memory ran out, before the first unit is read
    stopped_none : (files : Files) (why : CommandError) → Prepares {T = FleetInputs} (λ inputs. AreInputs files path (inputs_view inputs))
        (read_refusals files path) (Err why)
        → course {T = FleetInputs} (Err why) ≡ Whole → unless_told (first_refusal (fleet_refusals files path stored))
        (rows_asks files (units_of files)) ≡ []
    stopped_none files (stop.Refused line) said whole =
        ap (λ found. unless_told found (rows_asks files (units_of files)))
        (before_others (read_refusals files path) (weights_in path stored (calls_in files) (policy_in files path)) line.items said)
    stopped_none files stop.ReadFault said whole = cc
    stopped_none files stop.Memory said whole = cc

    pub stops_before : (why : CommandError)
        → ForFiles agrees (λ files. Prepares {T = FleetInputs} (λ inputs. AreInputs files path (inputs_view inputs))
        (read_refusals files path) (Err why))
        → AsksInOrder asks agrees (λ files. read_asks files path) a b (course {T = FleetInputs} (Err why))
        → AsksInOrder asks agrees (λ files. fleet_asks files path stored) a b (course {T = FleetInputs} (Err why))
    stops_before why said made = record {
      by_the_files =
          agreed_short asks agrees a b (λ files. read_asks files path)
          (λ files. unless_told (first_refusal (fleet_refusals files path stored)) (rows_asks files (units_of files)))
          (course {T = FleetInputs} (Err why)) made.by_the_files (λ files agree. stopped_none files why (said files agree));
    }

    -- the names are those of the units
    names_are : (many : Bool) (own names : List Name) → cond many (Err too_many_line) (Ok own) ≡ Ok names → own ≡ names
    names_are true own names is = cc
    names_are false own names is = cc

    weighed_as : (weight : ℕ) (wanted : List Ask) → unless_weightless weight wanted
        ≡ unless_told (first_refusal (weight_refusal path weight ∷ [])) wanted
    weighed_as weight wanted = by_test (weight == 0)
      where
        by_test : (test : Bool) → cond test [] wanted ≡ unless_told
            (first_refusal (cond test (Some (no_weight_line path)) None ∷ [])) wanted
        by_test true = refl
        by_test false = refl

    -- the wanted calls are those for the names that were read
    tails : (between : Files → Type 0) (inputs : FleetInputs)
        → ForFiles between (λ files. Prepares {T = FleetInputs} (λ inputs. AreInputs files path (inputs_view inputs))
        (read_refusals files path) (Ok inputs))
        → ForFiles between (λ files. unless_weightless (weight_of (inputs_view inputs).calls stored (inputs_view inputs).policy)
        (rows_asks files (inputs_view inputs).names)
        ≡ unless_told (first_refusal (fleet_refusals files path stored)) (rows_asks files (units_of files)))
    tails between inputs said files agree =
        weighed_as (weight_of (inputs_view inputs).calls stored (inputs_view inputs).policy)
        (rows_asks files (inputs_view inputs).names)
        ∙ ap (λ found. unless_told found (rows_asks files (inputs_view inputs).names))
        (sym (refused_as between path stored inputs said files (said files agree)))
        ∙ ap (λ names. unless_told (first_refusal (fleet_refusals files path stored)) (rows_asks files names))
        (sym (names_are (are_too_many files) (units_of files) (inputs_view inputs).names (said files agree).1.names))

    -- nothing is, and the units are read where the policy weighs something
    pub reads_units : (c : S) (between : Files → Type 0) (inputs : FleetInputs) (how : Course) → ForFiles agrees between
        → ForFiles between (λ files. Prepares {T = FleetInputs} (λ inputs. AreInputs files path (inputs_view inputs))
        (read_refusals files path) (Ok inputs))
        → AsksInOrder asks between (λ files. read_asks files path) a b Whole
        → AsksInOrder asks agrees
        (λ files. unless_weightless (weight_of (inputs_view inputs).calls stored (inputs_view inputs).policy)
        (rows_asks files (inputs_view inputs).names)) b c how
        → AsksInOrder asks agrees (λ files. fleet_asks files path stored) a c how
    reads_units c between inputs how stays said first second = record {
      by_the_files =
          agreed_behind asks agrees a b c between (λ files. read_asks files path)
          (λ files. unless_weightless (weight_of (inputs_view inputs).calls stored (inputs_view inputs).policy)
          (rows_asks files (inputs_view inputs).names))
          (λ files. unless_told (first_refusal (fleet_refusals files path stored)) (rows_asks files (units_of files))) how stays
          first.by_the_files second.by_the_files (tails between inputs said);
    }
