-- The text of a unit, folder by folder.
use Rattle.std.proofs.Common.{◌≡◌, ℕ, ◌+◌, codes, List, [], ◌∷◌, ◌++◌, map, refl, sym, ap, ◌∙◌, append-nil, append_assoc, zero-add}
use Rattle.std.specs.Prelude.{flat_map}
use Rattle.std.proofs.lemmas.Grind.{flat_map-append}
use Rattle.std.proofs.lemmas.List.{map-append}
use Rattle.sample_inputs.specs.Calls.{text_of_lines}
use Rattle.sample_inputs.specs.Site.{numbers_from}
use Rattle.sample_inputs.specs.Unit.{Setting, setting, line_of, folder_settings, privilege_settings, unit_text}
use Rattle.sample_inputs.proofs.Numbers.{numbers_last}
use Rattle.sample_inputs.proofs.Turns.{settings_with}

abbrev lines : List Setting → List ℕ
lines settings = text_of_lines (codes "[Service]" ∷ map line_of settings)

abbrev folders : ℕ → ℕ → List Setting
folders n count = flat_map (folder_settings n) (numbers_from 0 count)

abbrev first_two : List Setting → List Setting
first_two settings = setting (codes "ExecStart") (codes "/usr/bin/app") ∷ setting (codes "User") (codes "app") ∷ settings

-- the text with what is said of the first folders
pub text_so_far : ℕ → ℕ → List ℕ
text_so_far n count = lines (settings_with (privilege_settings n) (folders n count))

pub before_folders : (n : ℕ) (a b c d : List ℕ) → a ≡ codes "[Service]" ++ 10 ∷ []
    → b ≡ a ++ text_of_lines (line_of (setting (codes "ExecStart") (codes "/usr/bin/app")) ∷ [])
    → c ≡ b ++ text_of_lines (line_of (setting (codes "User") (codes "app")) ∷ [])
    → d ≡ c ++ text_of_lines (map line_of (privilege_settings n)) → d ≡ text_so_far n 0
unfolding text_so_far
before_folders n a b c d at_a at_b at_c at_d =
    rw (at_d, at_c, at_b, at_a) (ap (λ settings. lines (first_two settings)) (sym (append-nil (privilege_settings n))))

more : (settings others : List Setting) → lines (settings ++ others) ≡ lines settings ++ text_of_lines (map line_of others)
more settings others =
    ap (λ texts. text_of_lines (codes "[Service]" ∷ texts)) (map-append line_of settings others)
    ∙ flat_map-append (λ line. line ++ 10 ∷ []) (codes "[Service]" ∷ map line_of settings) (map line_of others)

pub folder_more : (n count : ℕ) → text_so_far n (count + 1) ≡ text_so_far n count ++ text_of_lines (map line_of (folder_settings n count))
unfolding text_so_far
folder_more n count =
    let privileges = privilege_settings n in
    let before = folders n count in
    let last = folder_settings n (0 + count) in
    ap (λ numbers. lines (settings_with privileges (flat_map (folder_settings n) numbers))) (numbers_last 0 count)
    ∙ ap (λ settings. lines (settings_with privileges settings))
    (flat_map-append (folder_settings n) (numbers_from 0 count) ((0 + count) ∷ []))
    ∙ ap (λ settings. lines (first_two settings)) (sym (append_assoc privileges before (last ++ [])))
    ∙ more (settings_with privileges before) (last ++ [])
    ∙ ap (λ others. lines (settings_with privileges before) ++ text_of_lines (map line_of others)) (append-nil last)
    ∙ ap (λ k. lines (settings_with privileges before) ++ text_of_lines (map line_of (folder_settings n k))) (zero-add count)

pub all_folders : (n : ℕ) → text_so_far n 16 ≡ unit_text n
unfolding text_so_far unit_text
all_folders n = refl
