-- Each cause has a printed word.
use Rattle.std.specs.Prelude.{ℕ, List, codes}
use Rattle.call_table.specs.declared.causes.CallsCause.{CallsCause}
use Rattle.call_table.specs.declared.causes.CallsCause.TheVariants.{Words, Number, Cap, Modelled, Duplicate, Member, TooMany}

abbrev pub cause_text : CallsCause → List ℕ
cause_text Words = codes "words"
cause_text Number = codes "number"
cause_text Cap = codes "cap"
cause_text Modelled = codes "modelled"
cause_text Duplicate = codes "duplicate"
cause_text Member = codes "member"
cause_text TooMany = codes "too-many"
