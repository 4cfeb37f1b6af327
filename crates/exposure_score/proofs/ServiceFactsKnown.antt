-- The tests that are known are those that have a fact.
use Rattle.std.proofs.Common.{◌≡◌, ℕ, Bool, true, false, cond, List, [], ◌∷◌, ◌++◌, map, refl, sym, ap, ◌∙◌}
use Rattle.std.specs.Prelude.{◌||◌, flat_map}
use Rattle.std.specs.List.{list_any}
use Rattle.std.specs.Str.{bytes_eq}
use Rattle.std.proofs.lemmas.List.Folds.{list_any-append}
use Rattle.std.proofs.lemmas.List.Sorted.{list_any-IsPermutation}
use Rattle.exec_settings.specs.call_table.Table.{Table}
use Rattle.exposure_score.specs.declared.facts.Fact.{Fact}
use Rattle.exposure_score.specs.declared.service_facts.sandbox.Sandbox.{Sandbox}
use Rattle.exposure_score.specs.declared.service_facts.lines.Matter.{Matter}
use Rattle.exposure_score.specs.declared.service_facts.lines.Matter.TheVariants.{RunsAsRoot, NamesGroups, GainsPrivileges, HasAmbient}
use Rattle.exposure_score.specs.declared.service_facts.lines.Matter.TheVariants.{Lacks, WritesSystem, SeesHomes, EachCapability}
use Rattle.exposure_score.specs.declared.service_facts.lines.Matter.TheVariants.{EachNamespaceType, EachFamily, InternetFamilies, EachGroup}
use Rattle.exposure_score.specs.service_facts.Each.{End, ends, names, has_internet, alone}
use Rattle.exposure_score.specs.service_facts.Table.{Line, lines}
use Rattle.exposure_score.specs.service_facts.Facts.{Told, told, behind, told_by_line, told_by_lines, AreTests, is_of_line, is_known}
use Rattle.exposure_score.proofs.Mapped.{list_any-map}

first_of_pairs : {X : Type 0} (name : X → List ℕ) (badness : X → ℕ) (xs : List X)
    → map (λ (end : End). end.0) (map (λ x. (name x, badness x)) xs) ≡ map name xs
first_of_pairs name badness [] = refl
first_of_pairs name badness (x ∷ xs) = ap (λ more. name x ∷ more) (first_of_pairs name badness xs)

first_where : (b : Bool) (badness : ℕ) → map (λ (end : End). end.0) (cond b (alone badness) []) ≡ cond b ([] ∷ []) []
first_where true badness = refl
first_where false badness = refl

names_of_ends : (sandbox : Sandbox) (table : Table) (matter : Matter)
    → map (λ (end : End). end.0) (ends sandbox table matter) ≡ names table matter
names_of_ends sandbox table RunsAsRoot = refl
names_of_ends sandbox table NamesGroups = refl
names_of_ends sandbox table GainsPrivileges = refl
names_of_ends sandbox table HasAmbient = refl
names_of_ends sandbox table (Lacks protection) = refl
names_of_ends sandbox table WritesSystem = refl
names_of_ends sandbox table SeesHomes = refl
names_of_ends sandbox table EachCapability = refl
names_of_ends sandbox table EachNamespaceType = refl
names_of_ends sandbox table EachFamily = first_of_pairs _ _ table.families
names_of_ends sandbox table InternetFamilies = first_where (has_internet table) _
names_of_ends sandbox table EachGroup = first_of_pairs _ _ table.groups

-- of one line
in_line : (sandbox : Sandbox) (table : Table) (id : List ℕ) (line : Line)
    → list_any (λ (one : Told). bytes_eq one.0 id) (told_by_line sandbox table line) ≡ is_of_line table id line
in_line sandbox table id line =
    list_any-map (λ (one : Told). bytes_eq one.0 id) (behind line.0) (ends sandbox table line.1)
    ∙ (sym (list_any-map (λ name. bytes_eq (line.0 ++ name) id) (λ (end : End). end.0) (ends sandbox table line.1))
    ∙ ap (list_any (λ name. bytes_eq (line.0 ++ name) id)) (names_of_ends sandbox table line.1))

-- of lines
in_lines : (sandbox : Sandbox) (table : Table) (id : List ℕ) (rows : List Line)
    → list_any (λ (one : Told). bytes_eq one.0 id) (flat_map (told_by_line sandbox table) rows) ≡ list_any (is_of_line table id) rows
in_lines sandbox table id [] = refl
in_lines sandbox table id (line ∷ rows) =
    list_any-append (λ (one : Told). bytes_eq one.0 id) (told_by_line sandbox table line) (flat_map (told_by_line sandbox table) rows)
    ∙ (ap (λ b. b || list_any (λ (one : Told). bytes_eq one.0 id) (flat_map (told_by_line sandbox table) rows))
    (in_line sandbox table id line)
    ∙ ap (λ b. is_of_line table id line || b) (in_lines sandbox table id rows))

pub have_facts : (sandbox : Sandbox) (table : Table) (facts : List Fact) (id : List ℕ) → AreTests sandbox table facts
    → list_any (λ (fact : Fact). bytes_eq fact.id id) facts ≡ is_known id table
have_facts sandbox table facts id are =
    sym (list_any-map (λ (one : Told). bytes_eq one.0 id) (λ (fact : Fact). (fact.id, fact.badness)) facts)
    ∙ (sym (list_any-IsPermutation (λ (one : Told). bytes_eq one.0 id) (told_by_lines sandbox table) (told facts) are.those_of_the_lines)
    ∙ in_lines sandbox table id lines)
