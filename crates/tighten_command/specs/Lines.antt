-- The lines of `tighten`.
use Rattle.std.specs.Prelude.{ℕ, List, [], ◌∷◌, ◌++◌, codes, flat_map, length}
use Rattle.std.specs.Fmt.{decimal}
use Rattle.asked_service.specs.unit_inputs.command_answers.Refusals.{refused_line}
use Rattle.tighten_command.specs.tightening.Items.{line_of}
use Rattle.tighten_command.specs.declared.tightening.tight.Tight.{Tight}

-- a setting that can be added
abbrev pub add_line : ℕ → List ℕ
add_line item = codes "add " ++ (line_of item ++ 10 ∷ [])

-- how many questions are denied and open
abbrev pub counts_line : List ℕ → ℕ → ℕ → List ℕ
counts_line word denied reachable = word ++ (codes " denied " ++ (decimal denied ++ (codes " open " ++ (decimal reachable ++ 10 ∷ []))))

-- how many items there are
abbrev pub items_line : ℕ → List ℕ
items_line count = codes "items " ++ (decimal count ++ 10 ∷ [])

-- the counts of the unit, of the unit with the items, and of the items
abbrev pub counts_text : Tight → List ℕ
counts_text tight =
    (counts_line (codes "before") tight.denied_before tight.open_before ++ counts_line (codes "after") tight.denied_after tight.open_after)
    ++ items_line (length tight.items)

-- the items, one a line in their order, and the counts
abbrev pub tight_text : Tight → List ℕ
tight_text tight = flat_map add_line tight.items ++ counts_text tight

-- the unit itself denies what is to be kept, or does not grant a wish: the first, from 1
abbrev pub keep_line : List ℕ → ℕ → List ℕ
keep_line unit number = refused_line unit (codes "keep " ++ decimal number)

abbrev pub wish_line : List ℕ → ℕ → List ℕ
wish_line unit number = refused_line unit (codes "wish " ++ decimal number)
