-- A word names a call: `NAME` is a call of the native ABI, and `ABI:NAME` is a call of the ABI of that name.
use Rattle.std.specs.Prelude.{◌≡◌, ℕ, zero, suc, ◌==◌, ◌<◌, Bool, false, cond, Option, Some, None, List, [], ◌∷◌, ◌++◌, length, get_or}
use Rattle.std.specs.Prelude.{IfSome}
use Rattle.std.specs.Option.{option_map, option_map_or}
use Rattle.std.specs.Str.{bytes_eq}
use Rattle.call_table.specs.Table.{Abi, Table, abi_at}

-- cuts the text at the last byte that is a mark
abbrev pub cut_at : ℕ → ℕ → List ℕ → Option (List ℕ × List ℕ) → Option (List ℕ × List ℕ)
cut_at mark byte rest (Some cut) = Some (byte ∷ cut.0, cut.1)
cut_at mark byte rest None = cond (byte == mark) (Some ([], rest)) None

abbrev pub last_cut : ℕ → List ℕ → Option (List ℕ × List ℕ)
last_cut mark [] = None
last_cut mark (byte ∷ rest) = cut_at mark byte rest (last_cut mark rest)

-- no byte is a mark
abbrev pub Lacks : ℕ → List ℕ → Type 0
Lacks mark text = (i : ℕ) → i < length text → get_or text i 0 ≡ mark → ⊥

abbrev pub has_abi_name : Table → ℕ → List ℕ → Bool
has_abi_name table abi name = option_map_or (λ found. bytes_eq name found.name) (abi_at table abi) false

-- the position of the ABI of this name
abbrev pub place_of_abi : Table → List ℕ → Option ℕ
place_of_abi table name = cond (has_abi_name table 0 name) (Some 0) (cond (has_abi_name table 1 name) (Some 1) None)

abbrev pub spelled_by : Table → List ℕ → Option (List ℕ × List ℕ) → Option (ℕ × List ℕ)
spelled_by table word None = Some (0, word)
spelled_by table word (Some cut) = option_map (λ abi. (abi, cut.1)) (place_of_abi table cut.0)

-- the ABI in a word, and the name or number there
abbrev pub spelled : Table → List ℕ → Option (ℕ × List ℕ)
spelled table word = spelled_by table word (last_cut 58 word)

-- the text before a name or a number of a second ABI: its name and a colon
abbrev pub named_abi : Option Abi → List ℕ
named_abi None = []
named_abi (Some second) = second.name ++ 58 ∷ []

-- the text before a name or a number of an ABI; the native ABI has an empty text
abbrev pub abi_word : Table → ℕ → List ℕ
abi_word table zero = []
abi_word table (suc abi) = named_abi table.second

-- the spelling of a name or a number for an ABI
abbrev pub spelling : Table → ℕ → List ℕ → List ℕ
spelling table abi name = abi_word table abi ++ name

-- a second ABI has another name than the native one
abbrev pub HasOtherName : Table → Type 0
HasOtherName table = IfSome table.second (λ second. bytes_eq second.name table.name ≡ false)

-- each spelling is read back
abbrev pub IsReadBack : Table → Type 0
IsReadBack table = (abi : ℕ) (found : Abi) (name : List ℕ) → abi_at table abi ≡ Some found → Lacks 58 name
    → spelled table (spelling table abi name) ≡ Some (abi, name)
