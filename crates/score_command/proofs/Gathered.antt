-- Rows that are gathered, and put in order.
use Rattle.std.proofs.Common.{◌≡◌, ◌∙◌, ℕ, ◌+◌, ◌<◌, List, [], ◌∷◌, ◌++◌, length, take, get_or, map, refl, sym, ap}
use Rattle.std.proofs.Common.{subst}
use Rattle.std.specs.Prelude.{IsPermutation}
use Rattle.std.specs.List.{All}
use Rattle.std.proofs.lemmas.List.{take_more}
use Rattle.std.proofs.lemmas.List.Elements.{All-push}
use Rattle.std.proofs.lemmas.List.Sorted.{All-permutation, IsPermutation-map}
use Rattle.unit_inputs.specs.host_io.Agreeing.{ForFiles}
use Rattle.unit_inputs.specs.host_io.Files.{Files}
use Rattle.unit_inputs.specs.unit_names.Names.{Name}
use Rattle.score_command.specs.declared.fleet_command.fleet_report.rows.FleetRow.{FleetRow}

-- one more row, of one more name
pub names_more : (rows : List FleetRow) (row : FleetRow) (names : List Name) (i : ℕ) (name d : Name) → i < length names
    → name ≡ get_or names i d → row.name ≡ name
    → map (λ row. row.name) rows ≡ take i names → map (λ row. row.name) (rows ++ row ∷ []) ≡ take (i + 1) names
names_more rows row names i name d h is same before =
    named rows ∙ ap (λ own. own ++ row.name ∷ []) before ∙ ap (λ last. take i names ++ last ∷ []) (same ∙ is) ∙ sym (take_more names i d h)
  where
    named : (own : List FleetRow) → map (λ row. row.name) (own ++ row ∷ []) ≡ map (λ row. row.name) own ++ row.name ∷ []
    named [] = refl
    named (first ∷ own) = ap (λ rest. first.name ∷ rest) (named own)

-- what holds of each row by the files
module _ (P : Files → FleetRow → Type 0) (agrees : Files → Type 0) where
  pub rows_more : (between : Files → Type 0) (rows : List FleetRow) (row : FleetRow) → ForFiles agrees between → ForFiles agrees (λ files. P files row)
      → ForFiles between (λ files. All (P files) rows) → ForFiles agrees (λ files. All (P files) (rows ++ row ∷ []))
  rows_more between rows row stays is before files agree = All-push (P files) rows row (before files (stays files agree)) (is files agree)

  pub rows_ordered : (before after : List FleetRow) → IsPermutation before after → ForFiles agrees (λ files. All (P files) before)
      → ForFiles agrees (λ files. All (P files) after)
  rows_ordered before after same is files agree = All-permutation (P files) before after same (is files agree)

pub names_ordered : (before after : List FleetRow) (names : List Name) → map (λ row. row.name) before ≡ names → IsPermutation before after
    → IsPermutation names (map (λ row. row.name) after)
names_ordered before after names is same =
    subst (λ own. IsPermutation own (map (λ (row : FleetRow). row.name) after)) is
    (IsPermutation-map (λ (row : FleetRow). row.name) before after same)
