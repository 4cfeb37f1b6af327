-- A question of the list is read back from what is printed of it, so no two are printed alike.
use Rattle.std.proofs.Common.{◌≡◌, ◌∙◌, ℕ, ◌<◌, ◌≤◌, true, inl, inr, cond, List, [], ◌∷◌, Option, Some, None, length, refl, sym, ap, arith}
use Rattle.std.specs.Prelude.{◌==◌, codes, slice_get}
use Rattle.std.specs.Fmt.{decimal}
use Rattle.std.specs.Option.{option_and_then, option_map, option_map_or}
use Rattle.std.specs.Str.{bytes_eq}
use Rattle.std.proofs.lemmas.Option.{get_or_from_slice_get, slice_get_cases, slice_get_within}
use Rattle.report_text.specs.abs_path.Paths.{parts_of, tail_of, text_of, is_normal}
use Rattle.report_text.proofs.OfAbsPath.Reading.{text_parts}
use Rattle.report_text.specs.call_table.declared.listed.CallLine.{CallLine}
use Rattle.report_text.specs.call_table.Lookups.{AreOnce, place_named}
use Rattle.report_text.specs.call_table.Table as calls
use Rattle.report_text.specs.kernel_laws.declared.question_types.wish.Wish.TheVariants.{See as ToSee, Read as ToRead, Write as ToWrite}
use Rattle.report_text.specs.kernel_laws.declared.question_types.wish.Wish.TheVariants.{Exec as ToExec}
use Rattle.report_text.specs.linux_numbers.declared.namespaces.NamespaceType.{NamespaceType}
use Rattle.report_text.specs.linux_numbers.declared.namespaces.NamespaceType.TheVariants.{Cgroup, Ipc, Net, Mnt, Pid}
use Rattle.report_text.specs.linux_numbers.declared.namespaces.NamespaceType.TheVariants.{User, Uts}
use Rattle.report_text.specs.kernel_laws.declared.question_types.question.Question.{Question}
use Rattle.report_text.specs.kernel_laws.declared.question_types.question.Question.TheVariants.{Path as ByPath, Call, Socket}
use Rattle.report_text.specs.kernel_laws.declared.question_types.question.Question.TheVariants.{Namespace as Ns, MapWx, ProtectX, ShmX}
use Rattle.report_text.specs.kernel_laws.declared.question_types.question.Question.TheVariants.{Realtime, Personality, SuidBit, Cap, Uid}
use Rattle.report_text.specs.kernel_laws.declared.question_types.question.Question.TheVariants.{Gid}
use Rattle.report_text.specs.questions.Listed.{IsAskedOf}
use Rattle.report_text.proofs.OfQuestions.Among.{all_had, has_contained}
use Rattle.report_text.proofs.OfQuestions.Members.{what_is_asked}
use Rattle.report_text.specs.Wording.{name_at, path_at, question_words}
use Rattle.report_text.specs.site_table.declared.row.Row.{Row}
use Rattle.report_text.specs.site_table.Table.{IsRowOf, IsSite, Site, place_of_text}
use Rattle.report_text.proofs.OfSiteTable.Finding.{found_place}
use Rattle.report_text.specs.text_forms.Escaped.{escaped_word, word_read}
use Rattle.report_text.specs.text_forms.Numbers.{number_value}
use Rattle.report_text.proofs.OfTextForms.Numerals.{decimal_read}
use Rattle.question_text.specs.Printed.{HaveOneReading}
use Rattle.question_text.proofs.CapNames.{cap_back, cap_number}
use Rattle.question_text.proofs.Escaped.{word_back}
use Rattle.question_text.proofs.Ids.{known_gid, known_uid}

-- ---- what is read

-- up to the first space, and behind it
abbrev front : List ℕ → List ℕ
front [] = []
front (byte ∷ rest) = cond (byte == 32) [] (byte ∷ front rest)

abbrev behind : List ℕ → List ℕ
behind [] = []
behind (byte ∷ rest) = cond (byte == 32) rest (behind rest)

-- the place of the row of an escaped path
abbrev row_read : List Row → List ℕ → Option ℕ
row_read rows word = option_and_then (λ text. place_of_text rows (tail_of (parts_of text))) (word_read word)

-- the place of the first line of an escaped name
abbrev name_read : List CallLine → List ℕ → Option ℕ
name_read lines word = option_and_then (λ name. place_named name lines) (word_read word)

abbrev space_read : List ℕ → Option NamespaceType
space_read word =
    cond (bytes_eq word (codes "cgroup")) (Some Cgroup)
    (cond (bytes_eq word (codes "ipc")) (Some Ipc) (cond (bytes_eq word (codes "net")) (Some Net)
    (cond (bytes_eq word (codes "mnt")) (Some Mnt)
    (cond (bytes_eq word (codes "pid")) (Some Pid) (cond (bytes_eq word (codes "user")) (Some User)
    (cond (bytes_eq word (codes "uts")) (Some Uts) None))))))

-- a question of a path
abbrev path_read : Site → List ℕ → List ℕ → Option Question → Option Question
path_read site word rest other =
    cond (bytes_eq word (codes "see")) (option_map (ByPath ToSee) (row_read site.rows rest))
    (cond (bytes_eq word (codes "read")) (option_map (ByPath ToRead) (row_read site.rows rest))
    (cond (bytes_eq word (codes "write")) (option_map (ByPath ToWrite) (row_read site.rows rest))
    (cond (bytes_eq word (codes "exec")) (option_map (ByPath ToExec) (row_read site.rows rest)) other)))

-- of no table
abbrev plain_read : List ℕ → Option Question
plain_read word =
    cond (bytes_eq word (codes "map-wx")) (Some MapWx) (cond (bytes_eq word (codes "protect-x")) (Some ProtectX)
    (cond (bytes_eq word (codes "shm-x")) (Some ShmX) (cond (bytes_eq word (codes "realtime")) (Some Realtime)
    (cond (bytes_eq word (codes "personality")) (Some Personality) (cond (bytes_eq word (codes "suid-bit")) (Some SuidBit) None)))))

abbrev told : calls.Table → Site → List ℕ → List ℕ → Option Question
told table site word rest =
    path_read site word rest
    (cond (bytes_eq word (codes "call")) (option_map Call (name_read (calls.every_call table) rest))
    (cond (bytes_eq word (codes "socket")) (option_map Socket (name_read table.families rest))
    (cond (bytes_eq word (codes "ns")) (option_map Ns (space_read rest))
    (cond (bytes_eq word (codes "cap")) (Some (Cap (cap_number rest)))
    (cond (bytes_eq word (codes "uid")) (option_map Uid (number_value rest))
    (cond (bytes_eq word (codes "gid")) (option_map Gid (number_value rest)) (plain_read word)))))))

abbrev told_by : calls.Table → Site → List ℕ → Option Question
told_by table site text = told table site (front text) (behind text)

-- ---- the things of tables

name_there : (lines : List CallLine) (at : ℕ) (line : CallLine) → slice_get lines at ≡ Some line → name_at lines at ≡ line.name
name_there lines at line stands = ap (λ (found : Option CallLine). option_map_or (λ line. line.name) found []) stands

name_back : (lines : List CallLine) (at : ℕ) (line : CallLine) → slice_get lines at ≡ Some line → place_named line.name lines ≡ Some at
    → name_read lines (escaped_word (name_at lines at)) ≡ Some at
name_back lines at line stands placed =
    ap (λ (found : Option (List ℕ)). option_and_then (λ name. place_named name lines) found) (word_back (name_at lines at))
    ∙ ap (λ (name : List ℕ). place_named name lines) (name_there lines at line stands)
    ∙ placed

family_back : (families : List CallLine) (at : ℕ) → AreOnce families → at < length families
    → name_read families (escaped_word (name_at families at)) ≡ Some at
family_back families at once lt =
    elim (slice_get_cases families at).1 [
      | inl there ↦ name_back families at there.0 there.2 (once.by_name at there.0 there.2)
      | inr past ↦ (let over : length families ≤ at = past.0 in absurd (omega arith))
    ]

row_normal : (site : Site) (at : ℕ) (row : Row) → IsSite site → slice_get site.rows at ≡ Some row → is_normal row.path ≡ true
row_normal site at row holds stands =
    let is : IsRowOf site.rows row =
    all_had (IsRowOf site.rows) site.rows row holds.each_row
    (has_contained site.rows row (at, slice_get_within site.rows at row stands, get_or_from_slice_get site.rows at row row stands)) in
    is.normal

row_back : (site : Site) (at : ℕ) (row : Row) → IsSite site → slice_get site.rows at ≡ Some row
    → row_read site.rows (escaped_word (path_at site.rows at)) ≡ Some at
row_back site at row holds stands =
    ap (λ (found : Option (List ℕ)). option_and_then (λ text. place_of_text site.rows (tail_of (parts_of text))) found)
    (word_back (path_at site.rows at))
    ∙ ap (λ (found : Option Row). place_of_text site.rows (tail_of (parts_of (option_map_or (λ row. text_of row.path) found [])))) stands
    ∙ ap (λ path. place_of_text site.rows (tail_of path)) (text_parts row.path (row_normal site at row holds stands))
    ∙ found_place site.rows (tail_of row.path) at holds.ascending
    (record { within = slice_get_within site.rows at row stands; here = λ d. ap (λ (found : Row). tail_of found.path) (get_or_from_slice_get site.rows at row d stands) })

id_back : (id : ℕ) → id ≤ 4294967294 → number_value (decimal id) ≡ Some id
id_back id h = decimal_read id (omega (arith, h))

-- ---- a question

read_back : (table : calls.Table) (site : Site) → AreOnce table.families → IsSite site → (question : Question)
    → IsAskedOf table site question → told_by table site (question_words table site question) ≡ Some question
read_back table site once holds (ByPath ToSee at) asked = ap (λ found. option_map (ByPath ToSee) found)
    (row_back site at asked.0 holds asked.1)
read_back table site once holds (ByPath ToRead at) asked = ap (λ found. option_map (ByPath ToRead) found)
    (row_back site at asked.0 holds asked.1)
read_back table site once holds (ByPath ToWrite at) asked = ap (λ found. option_map (ByPath ToWrite) found)
    (row_back site at asked.0 holds asked.1)
read_back table site once holds (ByPath ToExec at) asked = ap (λ found. option_map (ByPath ToExec) found)
    (row_back site at asked.0 holds asked.1)
read_back table site once holds (Call at) asked = ap (λ found. option_map Call found)
    (name_back (calls.every_call table) at asked.0 asked.1 asked.3)
read_back table site once holds (Socket at) asked = ap (λ found. option_map Socket found) (family_back table.families at once asked)
read_back table site once holds (Ns Cgroup) asked = refl
read_back table site once holds (Ns Ipc) asked = refl
read_back table site once holds (Ns Net) asked = refl
read_back table site once holds (Ns Mnt) asked = refl
read_back table site once holds (Ns Pid) asked = refl
read_back table site once holds (Ns User) asked = refl
read_back table site once holds (Ns Uts) asked = refl
read_back table site once holds MapWx asked = refl
read_back table site once holds ProtectX asked = refl
read_back table site once holds ShmX asked = refl
read_back table site once holds Realtime asked = refl
read_back table site once holds Personality asked = refl
read_back table site once holds SuidBit asked = refl
read_back table site once holds (Cap number) asked = ap (λ found. Some (Cap found)) (cap_back number asked)
read_back table site once holds (Uid id) asked = ap (λ found. option_map Uid found) (id_back id (known_uid site id holds asked))
read_back table site once holds (Gid id) asked = ap (λ found. option_map Gid found) (id_back id (known_gid site id holds asked))

pub has_one_reading : (table : calls.Table) (site : Site) → AreOnce table.families → IsSite site → HaveOneReading table site
has_one_reading table site once holds text one other here there =
    let first = read_back table site once holds one ((what_is_asked table site one).0 here.listed) in
    let second = read_back table site once holds other ((what_is_asked table site other).0 there.listed) in
    let same : Some one ≡ Some other = sym first ∙ ap (told_by table site) (here.printed ∙ sym there.printed) ∙ second in
    cc
