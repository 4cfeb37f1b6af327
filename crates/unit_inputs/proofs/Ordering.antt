-- Calls have their order: steps that read nothing follow steps that read, and one file follows another.
use Rattle.std.proofs.Common.{◌≡◌, ℕ, Box, Global, List, [], ◌∷◌, ◌++◌, Option, Some, None, Result, Ok, Err, refl}
use Rattle.std.specs.Prelude.{IsErrOf}
use Rattle.std.specs.Result.{IsErrAnd}
use Rattle.exec_settings.specs.host_io.Agreeing.{ForFiles}
use Rattle.exec_settings.specs.host_io.Calls.{Ask, ShelfCall, Course, Whole, Cut, AsksExactly, unless_refused}
use Rattle.exec_settings.specs.host_io.Files.{Files}
use Rattle.exec_settings.proofs.OfHostIo.Calling.{agreed_cut}
use Rattle.exec_settings.specs.call_table.Table.{Table}
use Rattle.exec_settings.specs.dropin_merge.Asking.{resolve_asks}
use Rattle.exec_settings.specs.dropin_merge.declared.resolved.Resolved.{Resolved}
use Rattle.unit_inputs.specs.command_answers.Asking.{course, input_file, unless_told}
use Rattle.unit_inputs.specs.command_answers.CommandErrors.{IsAnswer, Prepares, first_refusal}
use Rattle.unit_inputs.specs.declared.command_answers.error.CommandError.{CommandError}
use Rattle.unit_inputs.specs.declared.command_answers.error.CommandError.TheVariants.{ReadFault}
use Rattle.unit_inputs.proofs.Asking.{agreed_quiet, agreed_quiet_stopped, answer_behind, answer_stops, prepared_behind, prepared_stops}
use Rattle.unit_inputs.proofs.Asking.{agreed_stopped}
use Rattle.unit_inputs.specs.Asking.{AsksInOrder, asks_with_file, input_asks, site_asks, table_asks}
use Rattle.unit_inputs.specs.CallsRefusals.{calls_in}
use Rattle.unit_inputs.specs.Inputs.{input_refusals, inputs_of, inputs_view}
use Rattle.unit_inputs.specs.UnitRefusals.{unit_in}
use Rattle.unit_inputs.specs.declared.inputs.UnitInputs.{UnitInputs}

-- the calls are in order for any files
pub asked_so : {S : Type 0} (asks : S → ShelfCall → S → Type 0) (agrees : Files → Type 0) (wanted : List Ask) (a b : S) (how : Course)
    → AsksExactly asks a b wanted how → AsksInOrder asks agrees (λ files. wanted) a b how
asked_so asks agrees wanted a b how made = record { by_the_files = λ files agree. made }

module _ {S : Type 0} (asks : S → ShelfCall → S → Type 0) (agrees : Files → Type 0) (wanted : Files → List Ask) (a b : S) where
  -- a step that reads nothing leaves the calls so far
  pub order_quiet : {T : Type 0} (result : Result T CommandError) → (IsErrOf result ReadFault → ⊥) → AsksInOrder asks agrees wanted a b Whole
      → AsksInOrder asks agrees wanted a b (course result)
  order_quiet result quiet made = record { by_the_files = agreed_quiet asks a b agrees wanted result quiet made.by_the_files }

  -- an error is passed on with its calls
  pub order_stopped : (T : Type 0) {U : Type 0} (result : Result U CommandError) (why : CommandError) → IsErrAnd result (λ error. error ≡ why)
      → AsksInOrder asks agrees wanted a b (course {T = T} (Err why)) → AsksInOrder asks agrees wanted a b (course result)
  order_stopped T result why is made = record { by_the_files = agreed_stopped asks a b T agrees wanted result why is made.by_the_files }

  -- so is the error of a step that reads nothing
  pub order_quiet_stopped : (T : Type 0) {U : Type 0} (result : Result U CommandError) (why : CommandError) → IsErrAnd result (λ error. error ≡ why)
      → (IsErrOf {T = T} (Err why) ReadFault → ⊥) → AsksInOrder asks agrees wanted a b Whole
      → AsksInOrder asks agrees wanted a b (course result)
  order_quiet_stopped T result why is quiet made =
      record { by_the_files = agreed_quiet_stopped asks a b T agrees wanted result why is quiet made.by_the_files }

  -- memory may run out after the last call
  pub order_cut : AsksInOrder asks agrees wanted a b Whole → AsksInOrder asks agrees wanted a b Cut
  order_cut made = record { by_the_files = agreed_cut asks agrees a b wanted made.by_the_files }

  -- a file follows others of which none is refused
  module _ {T : Type 0} (P : Files → T → Type 0) (refusals : Files → List (Option (List ℕ))) (more : Files → List Ask) where
    pub order_behind : (c : S) (between : Files → Type 0) (value : T) (how : Course) → ForFiles agrees between
        → ForFiles between (λ files. Prepares (P files) (refusals files) (Ok value))
        → AsksInOrder asks between wanted a b Whole → AsksInOrder asks agrees more b c how
        → AsksInOrder asks agrees (λ files. wanted files ++ unless_told (first_refusal (refusals files)) (more files)) a c how
    order_behind c between value how stays is first second =
        record {
          by_the_files = prepared_behind asks a b c P agrees between wanted more refusals value how stays is first.by_the_files
              second.by_the_files;
        }

    pub order_stops : (why : CommandError) → ForFiles agrees (λ files. Prepares (P files) (refusals files) (Err why))
        → AsksInOrder asks agrees wanted a b (course {T = T} (Err why))
        → AsksInOrder asks agrees (λ files. wanted files ++ unless_told (first_refusal (refusals files)) (more files)) a b
        (course {T = T} (Err why))
    order_stops why is made = record { by_the_files = prepared_stops asks a b P agrees wanted more refusals why is made.by_the_files }

  -- an answer follows another that is not refused
  module _ {T V : Type 0} (see : T → V) (answer : Files → Result V (List ℕ)) (more : Files → List Ask) where
    pub order_answered : (c : S) (between : Files → Type 0) (value : T) (how : Course) → ForFiles agrees between
        → ForFiles between (λ files. IsAnswer see (Ok value) (answer files))
        → AsksInOrder asks between wanted a b Whole → AsksInOrder asks agrees more b c how
        → AsksInOrder asks agrees (λ files. wanted files ++ unless_refused (answer files) (more files)) a c how
    order_answered c between value how stays is first second =
        record {
          by_the_files = answer_behind asks a b c see agrees between wanted more answer value how stays is first.by_the_files
              second.by_the_files;
        }

    pub order_refused : (why : CommandError) → ForFiles agrees (λ files. IsAnswer see (Err why) (answer files))
        → AsksInOrder asks agrees wanted a b (course {T = T} (Err why))
        → AsksInOrder asks agrees (λ files. wanted files ++ unless_refused (answer files) (more files)) a b (course {T = T} (Err why))
    order_refused why is made = record { by_the_files = answer_stops asks a b see agrees wanted more answer why is made.by_the_files }

module _ {S : Type 0} (asks : S → ShelfCall → S → Type 0) (agrees : Files → Type 0) (unit : List ℕ) where
  -- the inputs are read one after the other
  module _ (a b : S) where
    pub stops_at_unit : (why : CommandError)
        → ForFiles agrees (λ files. IsAnswer {T = Box Resolved Global} (λ own. own.value) (Err why) (unit_in files unit))
        → AsksInOrder asks agrees (λ files. resolve_asks files unit) a b (course {T = Box Resolved Global} (Err why))
        → AsksInOrder asks agrees (λ files. input_asks files unit) a b (course {T = Box Resolved Global} (Err why))
    stops_at_unit why said made =
        order_refused asks agrees (λ files. resolve_asks files unit) a b (λ (own : Box Resolved Global). own.value)
        (λ files. unit_in files unit) (λ files. table_asks ++ unless_refused (calls_in files) site_asks) why said made

    pub behind_unit : (c : S) (between : Files → Type 0) (own : Box Resolved Global) (how : Course) → ForFiles agrees between
        → ForFiles between (λ files. unit_in files unit ≡ Ok own.value)
        → AsksInOrder asks between (λ files. resolve_asks files unit) a b Whole
        → AsksInOrder asks agrees (λ files. table_asks ++ unless_refused (calls_in files) site_asks) b c how
        → AsksInOrder asks agrees (λ files. input_asks files unit) a c how
    behind_unit c between own how stays said first second =
        order_answered asks agrees (λ files. resolve_asks files unit) a b (λ (own : Box Resolved Global). own.value)
        (λ files. unit_in files unit) (λ files. table_asks ++ unless_refused (calls_in files) site_asks)
        c between own how stays said first second

  module _ (b c : S) where
    pub stops_at_table : (why : CommandError)
        → ForFiles agrees (λ files. IsAnswer {T = Box Table Global} (λ own. own.value) (Err why) (calls_in files))
        → AsksExactly asks b c table_asks (course {T = Box Table Global} (Err why))
        → AsksInOrder asks agrees (λ files. table_asks ++ unless_refused (calls_in files) site_asks) b c
        (course {T = Box Table Global} (Err why))
    stops_at_table why said made =
        order_refused asks agrees (λ files. table_asks) b c (λ (own : Box Table Global). own.value) calls_in (λ files. site_asks) why said
        (asked_so asks agrees table_asks b c (course {T = Box Table Global} (Err why)) made)

    pub behind_table : (d : S) (between : Files → Type 0) (own : Box Table Global) (how : Course) → ForFiles agrees between
        → ForFiles between (λ files. calls_in files ≡ Ok own.value) → AsksExactly asks b c table_asks Whole → AsksExactly asks c d site_asks how
        → AsksInOrder asks agrees (λ files. table_asks ++ unless_refused (calls_in files) site_asks) b d how
    behind_table d between own how stays said first second =
        order_answered asks agrees (λ files. table_asks) b c (λ (own : Box Table Global). own.value) calls_in
        (λ files. site_asks) d between own how stays said (asked_so asks between table_asks b c Whole first)
        (asked_so asks agrees site_asks c d how second)

  module _ (path : List ℕ) (a b : S) where
    -- an input is refused, and the file after the inputs is not read
    pub stops_before_file : {U : Type 0} (result : Result U CommandError) (why : CommandError) → IsErrAnd result (λ error. error ≡ why)
        → ForFiles agrees (λ files. Prepares (λ inputs. inputs_of files unit ≡ Some (inputs_view inputs)) (input_refusals files unit) (Err why))
        → AsksInOrder asks agrees (λ files. input_asks files unit) a b (course {T = UnitInputs} (Err why))
        → AsksInOrder asks agrees (λ files. asks_with_file files unit path) a b (course result)
    stops_before_file result why is said made =
        order_stopped asks agrees (λ files. asks_with_file files unit path) a b UnitInputs result why is
        (order_stops asks agrees (λ files. input_asks files unit) a b (λ files inputs. inputs_of files unit ≡ Some (inputs_view inputs))
        (λ files. input_refusals files unit) (λ files. input_file path ∷ []) why said made)

    -- no input is refused, and the file is read
    pub with_file : (c : S) (between : Files → Type 0) (inputs : UnitInputs) (how : Course) → ForFiles agrees between
        → ForFiles between (λ files. (first_refusal (input_refusals files unit) ≡ None) × (inputs_of files unit ≡ Some (inputs_view inputs)))
        → AsksInOrder asks between (λ files. input_asks files unit) a b Whole → AsksExactly asks b c (input_file path ∷ []) how
        → AsksInOrder asks agrees (λ files. asks_with_file files unit path) a c how
    with_file c between inputs how stays said first second =
        order_behind asks agrees (λ files. input_asks files unit) a b (λ files inputs. inputs_of files unit ≡ Some (inputs_view inputs))
        (λ files. input_refusals files unit) (λ files. input_file path ∷ [])
        c between inputs how stays said first (asked_so asks agrees (input_file path ∷ []) b c how second)

    -- the file is refused, or a read failed, or memory ran out
    pub stops_at_file : (T : Type 0) {U : Type 0} (c : S) (between : Files → Type 0) (inputs : UnitInputs) (result : Result U CommandError)
        (why : CommandError) → IsErrAnd result (λ error. error ≡ why) → ForFiles agrees between
        → ForFiles between (λ files. (first_refusal (input_refusals files unit) ≡ None) × (inputs_of files unit ≡ Some (inputs_view inputs)))
        → AsksInOrder asks between (λ files. input_asks files unit) a b Whole → AsksExactly asks b c (input_file path ∷ []) (course {T = T} (Err why))
        → AsksInOrder asks agrees (λ files. asks_with_file files unit path) a c (course result)
    stops_at_file T c between inputs result why is stays said first second =
        order_stopped asks agrees (λ files. asks_with_file files unit path) a c T result why is
        (with_file c between inputs (course {T = T} (Err why)) stays said first second)
