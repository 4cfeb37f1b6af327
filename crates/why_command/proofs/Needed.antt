-- Lines that stay, since the unit needs them.
use Rattle.std.proofs.Common.{◌≡◌, ◌∙◌, inl, inr, ℕ, Bool, true, false, List, [], ◌∷◌, ◌++◌, Option, map, filter, refl, sym, ap, ap₂, subst}
use Rattle.std.proofs.Common.{append_assoc, eq-eqb, cond}
use Rattle.std.specs.Prelude.{◌&&◌, ◌||◌, not, Result, Ok, Err, IfOk, Vec}
use Rattle.std.specs.List.{enumerate_from}
use Rattle.std.specs.declared.alloc.AllocError.{AllocError}
use Rattle.std.specs.declared.alloc.Global.{Global}
use Rattle.std.proofs.lemmas.List.Elements.{filter_agree}
use Rattle.asked_service.specs.dropin_merge.declared.resolved.Resolved.{Resolved}
use Rattle.asked_service.specs.dropin_merge.declared.resolved.UnitFile.{UnitFile}
use Rattle.asked_service.specs.dropin_merge.declared.unit_values.value.Place.{Place}
use Rattle.asked_service.specs.unit_grammar.declared.unit.Assignment.{Assignment}
use Rattle.asked_service.specs.launcher.declared.launched.Launched.{Launched as Service}
use Rattle.asked_service.specs.launching.Starting.{StartsAs, given}
use Rattle.why_command.specs.deciding_lines.Deciding.{AreNeededOf, IsLaunchedWith, IsReasonAt, all_go, needed_stay}
use Rattle.why_command.specs.deciding_lines.Searching.{DeniesWithout}
use Rattle.why_command.specs.deciding_lines.Tried.{IsNotLaunched, Tried, inputs_without}
use Rattle.asked_service.specs.unit_names.declared.version.Version.{Version}
use Rattle.why_command.specs.deciding_lines.unit_lines.Without.{all_but, file_without, is_among, is_place, is_taken, left_of, without}
use Rattle.why_command.specs.deciding_lines.unit_lines.Lines.{is_in_force}
use Rattle.why_command.specs.declared.deciding_lines.reason.Reason.{Reason}
use Rattle.why_command.specs.declared.deciding_lines.reason.Reason.TheVariants as reason

-- ---- no line is taken away
all_pass : {X : Type 0} (xs : List X) → filter (λ x. true) xs ≡ xs
all_pass [] = refl
all_pass (x ∷ xs) = ap (λ rest. x ∷ rest) (all_pass xs)

none_taken : (systemd : Option Version) (number : ℕ) (assignment : Assignment) → not (is_taken systemd [] number assignment) ≡ true
none_taken systemd number assignment = by (is_in_force systemd assignment) where
  by : (b : Bool) → not (b && false) ≡ true
  by true = refl
  by false = refl

same_left : (systemd : Option Version) (number : ℕ) (assignments : List Assignment) → left_of systemd [] number assignments ≡ assignments
same_left systemd number assignments =
    filter_agree (λ assignment. not (is_taken systemd [] number assignment)) (λ assignment. true) (none_taken systemd number) assignments ∙ all_pass assignments

same_file : (systemd : Option Version) (number : ℕ) (file : UnitFile) → file_without systemd [] (number, file) ≡ file
same_file systemd number file = ap (λ (left : List Assignment). record {
  path = file.path;
  text = record { assignments = left; notes = file.text.notes };
}) (same_left systemd number file.text.assignments)

same_files : (systemd : Option Version) (files : List UnitFile) (number : ℕ) → map (file_without systemd []) (enumerate_from number files) ≡ files
same_files systemd [] number = refl
same_files systemd (file ∷ files) number = ap₂ (λ (one : UnitFile) (rest : List UnitFile). one ∷ rest) (same_file systemd number file) (same_files systemd files _)

without_none : (unit : Resolved) → without [] unit ≡ unit
unfolding without
without_none unit = ap (λ (files : List UnitFile). record unit { files = files }) (same_files unit.systemd unit.files 0)

-- ---- of some lines all stay
is_itself : (place : Place) → is_place place place ≡ true
is_itself place = ap₂ (λ (a b : Bool). a && b) (eq-eqb place.file place.file refl) (eq-eqb place.line place.line refl)

is_last : (before behind : List Place) (place : Place) → is_among (before ++ (place ∷ behind)) place ≡ true
is_last [] behind place = ap (λ b. b || is_among behind place) (is_itself place)
is_last (first ∷ before) behind place = by (is_place first place) (is_last before behind place) where
  by : (b : Bool) → is_among (before ++ (place ∷ behind)) place ≡ true → (b || is_among (before ++ (place ∷ behind)) place) ≡ true
  by true is = refl
  by false is = is

none_go : (before lines : List Place) → all_but (before ++ lines) lines ≡ []
none_go before [] = refl
none_go before (place ∷ lines) =
    ap (λ b. cond (not b) (place ∷ all_but (before ++ (place ∷ lines)) lines) (all_but (before ++ (place ∷ lines)) lines))
    (is_last before lines place)
    ∙ ap (λ (all : List Place). all_but all lines) (sym (append_assoc before (place ∷ []) lines))
    ∙ none_go (before ++ (place ∷ [])) lines

pub launched_with_all : (tried : Tried) (lines lent : List Place) (service : Service) → lent ≡ lines
    → StartsAs tried.inputs (Ok service) → IsLaunchedWith tried lines lent service
launched_with_all tried lines lent service lends starts =
    subst (λ (own : Resolved). StartsAs (given own tried.inputs.calls tried.inputs.site) (Ok service))
    (sym (ap (λ gone. without gone tried.inputs.unit) (ap (λ (kept : List Place). all_but kept lines) lends ∙ none_go [] lines)
    ∙ without_none tried.inputs.unit)) starts

-- ---- what is told
module _ (tried : Tried) (lines : List Place) where
  -- the unit without all of them is launched
  pub reason_without_all : (result : Result Reason AllocError) → IfOk result (DeniesWithout tried lines reason.Nothing)
      → IfOk result (IsReasonAt tried lines)
  reason_without_all (Err none) found = tt
  reason_without_all (Ok told) (inl (denied, is)) = subst (IsReasonAt tried lines) (sym is) denied
  reason_without_all (Ok told) (inr (found, is, open', part, deciding)) =
      subst (IsReasonAt tried lines) (sym is) (lines, all_go, open', part, deciding)

  -- it is not, and what it needs stays
  module _ (line : Vec ℕ Global) (refused : IsNotLaunched tried.name (inputs_without tried.inputs lines) line.items) (needed : List Place) (are : AreNeededOf tried lines needed) where
    pub reason_but_needed : (gone : List Place) → gone ≡ all_but needed lines → (result : Result Reason AllocError)
        → IfOk result (DeniesWithout tried gone (reason.NotLaunched line)) → IfOk result (IsReasonAt tried lines)
    reason_but_needed gone is (Err none) found = tt
    reason_but_needed gone is (Ok told) found = by (subst (λ these. DeniesWithout tried these (reason.NotLaunched line) told) is found) where
      by : DeniesWithout tried (all_but needed lines) (reason.NotLaunched line) told → IsReasonAt tried lines told
      by (inl (denied, same)) = subst (IsReasonAt tried lines) (sym same) (refused, (needed, are, denied))
      by (inr (found, same, open', part, deciding)) =
          subst (IsReasonAt tried lines) (sym same)
          (all_but needed lines, needed_stay line.items refused needed are, open', part, deciding)
