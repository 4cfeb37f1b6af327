-- Decision trees without the pointers that hold them together, and what they mean.
use Rattle.std.specs.Prelude.{◌≡◌, ℕ, ◌/◌, ◌%◌, ◌^◌, ◌<◌, ◌≤◌, ◌==◌, ◌&&◌, nat_le, not, Bool, true, false, if◌then◌else◌, slice_index}
use Rattle.std.specs.Prelude.{bit_and, Option, Some, None, is_some}
use Rattle.call_rules.specs.bpf_code.declared.machine.CallData.{CallData}
use Rattle.call_rules.specs.bpf_code.Effects.{words_of}
use Rattle.call_rules.specs.Tested.{Tested}
use Rattle.call_rules.specs.declared.actions.Action.{Action}
use Rattle.call_rules.specs.Action.{test_holds}
use Rattle.seccomp_compile.specs.declared.tree.Tree.{Tree}
use Rattle.seccomp_compile.specs.declared.tree.Tree.TheVariants as tree
use Rattle.seccomp_compile.specs.declared.tree.Comparison.{Comparison}
use Rattle.seccomp_compile.specs.declared.tree.Comparison.TheVariants.{AtLeast, Equal, AnyBit}
use Rattle.seccomp_compile.specs.Code.{whole_word}
use Rattle.seccomp_compile.specs.Looks.{mask_of}

-- how a call is decided, where one word of its data is looked at
pub data Decision : Type 0 where
  -- ends with the action
  ends : (action : Action) → Decision
  -- loads the word at this offset, with this mask
  looks : (offset mask : ℕ) (next : Decision) → Decision
  -- continues with the first decision if the comparison of the word with the number fails, and with the second if it holds
  splits : (comparison : Comparison) (number : ℕ) (miss hit : Decision) → Decision
  -- ends with the action if both tests hold, and continues otherwise
  both : (first second : Tested) (action : Action) (otherwise : Decision) → Decision

-- what a tree says
abbrev pub decision_of : Tree → Decision
decision_of (tree.End action) = ends action
decision_of (tree.Look' offset mask p next) = looks offset mask (decision_of next)
decision_of (tree.Split' comparison number p miss q hit) = splits comparison number (decision_of miss) (decision_of hit)
decision_of (tree.Both' first second action p otherwise) = both first second action (decision_of otherwise)

-- BPF_JGE, BPF_JEQ, BPF_JSET
abbrev pub compares : Comparison → ℕ → ℕ → Bool
compares AtLeast word number = nat_le number word
compares Equal word number = word == number
compares AnyBit word number = not (bit_and word number == 0)

-- the bits of a word that are in the mask; the mask of a whole word leaves it as it is
abbrev pub masked : ℕ → ℕ → ℕ
masked word mask = if mask == whole_word then word else bit_and word mask

-- the word that is looked at for a test
abbrev pub tested_word : CallData → Tested → ℕ
tested_word input test = masked (slice_index input.args test.arg % 2 ^ 32) (mask_of test)

-- The action for a call's data, where this word is looked at. A test looks at its own word, and where it fails this is the
-- word that is looked at from there on.
abbrev pub decide : Decision → CallData → ℕ → Action
decide (ends action) input word = action
decide (looks offset mask next) input word = decide next input (masked (slice_index (words_of input) (offset / 4)) mask)
decide (splits comparison number miss hit) input word = if compares comparison word number then decide hit input word else decide miss
    input word
decide (both first second action otherwise) input word =
    if test_holds input first
    then (if test_holds input second then action else decide otherwise input (tested_word input second))
    else decide otherwise input (tested_word input first)

-- what is left of a decision where the word at this offset and this mask is looked at already
abbrev pub past_look : ℕ → ℕ → Decision → Decision
past_look offset mask (ends action) = ends action
past_look offset mask (looks other part next) = if (other == offset) && (part == mask) then next else looks other part next
past_look offset mask (splits comparison number miss hit) = splits comparison number miss hit
past_look offset mask (both first second action otherwise) = both first second action otherwise

-- the action of a tree that ends at once
abbrev pub ending_of : Decision → Option Action
ending_of (ends action) = Some action
ending_of (looks offset mask next) = None
ending_of (splits comparison number miss hit) = None
ending_of (both first second action otherwise) = None

abbrev pub is_end : Decision → Bool
is_end decision = is_some (ending_of decision)

abbrev pub is_split : Decision → Bool
is_split (ends action) = false
is_split (looks offset mask next) = false
is_split (splits comparison number miss hit) = true
is_split (both first second action otherwise) = false

-- the words that are looked at are whole words of a call's data
abbrev pub LooksInside : Decision → Type 0
LooksInside (ends action) = Unit {0}
LooksInside (looks offset mask next) = (offset < 64) × (offset % 4 ≡ 0) × LooksInside next
LooksInside (splits comparison number miss hit) = LooksInside miss × LooksInside hit
LooksInside (both first second action otherwise) = (first.arg ≤ 5) × (second.arg ≤ 5) × LooksInside otherwise
