-- Answers that are exact, unless memory runs out.
use Rattle.std.specs.Prelude.{◌≡◌, ⊤, ℕ, List, Option, Some, Result, Ok, Err}
use Rattle.cred_settings.specs.declared.accounts.Identity.{Identity}
use Rattle.cred_settings.specs.declared.error.IdentityError.{IdentityError}
use Rattle.cred_settings.specs.declared.error.IdentityError.TheVariants.{NoSuchUser, NoSuchGroup, Memory}

-- the answer is the wanted one, unless memory ran out
abbrev pub IsUnlessMemory : Result Identity IdentityError → Result Identity IdentityError → Type 0
IsUnlessMemory (Ok identity) wanted = wanted ≡ Ok identity
IsUnlessMemory (Err Memory) wanted = ⊤
IsUnlessMemory (Err (NoSuchUser word)) wanted = wanted ≡ Err (NoSuchUser word)
IsUnlessMemory (Err (NoSuchGroup word)) wanted = wanted ≡ Err (NoSuchGroup word)

-- the refusal names this word, unless memory ran out
abbrev pub IsOfGroup : Option (List ℕ) → IdentityError → Type 0
IsOfGroup bad Memory = ⊤
IsOfGroup bad (NoSuchGroup word) = bad ≡ Some word
IsOfGroup bad (NoSuchUser word) = ⊥
