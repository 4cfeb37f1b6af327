-- A table that was read has the calls of a launch, and each follows its rule.
use Rattle.std.proofs.Common.{◌≡◌, ℕ, suc, Bool, true, false, cond, codes, List, [], ◌∷◌, Option, Some, None, refl, ap, ◌∙◌, subst}
use Rattle.std.specs.Prelude.{slice_get, find, ◌||◌, option_and_then}
use Rattle.std.specs.Option.{option_map_or}
use Rattle.std.specs.List.{list_any}
use Rattle.std.proofs.lemmas.Bool.{not-false}
use Rattle.std.proofs.lemmas.Slice.Eq.{bytes_eq-Decides}
use Rattle.kernel_laws.specs.call_table.declared.listed.CallLine.{CallLine}
use Rattle.kernel_laws.specs.call_table.Facts.{IsWhole}
use Rattle.kernel_laws.specs.call_table.Lookups.{has_name, has_number, numbered, place_numbered}
use Rattle.kernel_laws.specs.call_table.call_names.Known.{known_call}
use Rattle.kernel_laws.specs.call_table.Reading.{lacks, missing_call}
use Rattle.kernel_laws.specs.call_table.Table as calls
use Rattle.launcher.specs.Launch.{number_of}
use Rattle.kernel_laws.specs.kernel_model.declared.kernel_calls.rule.Rule.TheVariants as rule
use Rattle.kernel_laws.specs.call_table.declared.call_names.rule.CallRule.TheVariants as known
use Rattle.kernel_laws.specs.kernel_model.declared.kernel_calls.rule.Rule.{Rule}
use Rattle.kernel_laws.specs.kernel_model.kernel_calls.Rules.{rule_of, rule_at}
use Rattle.kernel_laws.proofs.OfCallTable.Places.{place_is}
use Rattle.std.proofs.lemmas.List.Folds.{find_at}
use Rattle.launcher.specs.Launches.{HasLaunchCalls}

-- what the position finds, the number finds
at_position : (calls : List CallLine) (nr place : ℕ) (line : CallLine) → place_numbered nr calls ≡ Some place
    → slice_get calls place ≡ Some line → numbered nr calls ≡ Some line
at_position calls nr place line e g = find_at (has_number nr) calls ∙ ap (slice_get calls) (place_is (has_number nr) calls place e).0 ∙ g

-- the first one with a property, and its place
record Found {X : Type 0} (p : X → Bool) (xs : List X) : Type 0 where
  pub one : X
  pub place : ℕ
  pub found : find p xs ≡ Some one
  pub there : slice_get xs place ≡ Some one
  pub holds : p one ≡ true

found_if : {X : Type 0} (p : X → Bool) (xs : List X) → list_any p xs ≡ true → Found p xs
found_if p [] e = cc
found_if p (x ∷ xs) e = by (p x) refl e (found_if p xs)
  where
    by : (b : Bool) → p x ≡ b → (b || list_any p xs) ≡ true → (list_any p xs ≡ true → Found p xs) → Found p (x ∷ xs)
    by true is e more = record { one = x; place = 0; found = ap (λ b. cond b (Some x) (find p xs)) is; there = refl; holds = is }
    by false is e rest =
        let more = rest e in
        record { one = more.one; place = suc more.place; found = ap (λ b. cond b (Some x) (find p xs)) is ∙ more.found; there = more.there; holds = more.holds }

none_first : {X : Type 0} (p : X → Bool) (x : X) (xs : List X) → find p (x ∷ xs) ≡ None → (p x ≡ false) × (find p xs ≡ None)
none_first p x xs e = by (p x) refl e
  where
    by : (b : Bool) → p x ≡ b → cond b (Some x) (find p xs) ≡ None → (p x ≡ false) × (find p xs ≡ None)
    by true is e = cc
    by false is e = (is, e)

abbrev with_name : CallLine → List ℕ → CallLine
with_name line name = record { name = name; number = line.number; cap = line.cap; abi = line.abi; kernel = line.kernel }

module _ (table : calls.Table) (whole : IsWhole table) where
  follows : (name : List ℕ) (rule' : Rule) → lacks table.calls name ≡ false
      → ((line : CallLine) → rule_of (with_name line name) ≡ Some rule') → rule_at table.calls (number_of table.calls name) ≡ Some rule'
  follows name rule' has by_rule =
      let f = found_if (has_name name) table.calls (not-false (list_any (has_name name) table.calls) has) in
      let same : name ≡ f.one.name = (bytes_eq-Decides name f.one.name).0 f.holds in
      let P : List ℕ → Type 0 = λ n. rule_of (with_name f.one n) ≡ Some rule' in
      let is : rule_of f.one ≡ Some rule' = subst P same (by_rule f.one) in
      ap (λ (o : Option CallLine). rule_at table.calls (option_map_or (λ line. line.number) o 0)) f.found
      ∙ ap (option_and_then rule_of)
      (at_position table.calls f.one.number f.place f.one (whole.sound.calls.once.by_number f.place f.one f.there) f.there)
      ∙ is

  pub launch_calls : HasLaunchCalls table.calls
  unfolding rule_of known_call missing_call
  launch_calls =
      let capset = none_first (lacks table.calls) (codes "capset") (codes "execve" ∷ codes "prctl" ∷ codes "seccomp" ∷ codes "setgroups" ∷ codes "setresgid" ∷ codes "setresuid" ∷ codes "unshare" ∷ []) whole.launches in
      let execve = none_first (lacks table.calls) (codes "execve") (codes "prctl" ∷ codes "seccomp" ∷ codes "setgroups" ∷ codes "setresgid" ∷ codes "setresuid" ∷ codes "unshare" ∷ []) capset.1 in
      let prctl = none_first (lacks table.calls) (codes "prctl") (codes "seccomp" ∷ codes "setgroups" ∷ codes "setresgid" ∷ codes "setresuid" ∷ codes "unshare" ∷ []) execve.1 in
      let seccomp = none_first (lacks table.calls) (codes "seccomp") (codes "setgroups" ∷ codes "setresgid" ∷ codes "setresuid" ∷ codes "unshare" ∷ []) prctl.1 in
      let setgroups = none_first (lacks table.calls) (codes "setgroups") (codes "setresgid" ∷ codes "setresuid" ∷ codes "unshare" ∷ []) seccomp.1 in
      let setresgid = none_first (lacks table.calls) (codes "setresgid") (codes "setresuid" ∷ codes "unshare" ∷ []) setgroups.1 in
      let setresuid = none_first (lacks table.calls) (codes "setresuid") (codes "unshare" ∷ []) setresgid.1 in
      let unshare = none_first (lacks table.calls) (codes "unshare") ([]) setresuid.1 in
      record {
        unshare = follows (codes "unshare") (rule.Known known.Unshare) unshare.0 (λ line. refl);
        setgroups = follows (codes "setgroups") (rule.Known known.Setgroups) setgroups.0 (λ line. refl);
        setresgid = follows (codes "setresgid") (rule.Known known.Setresgid) setresgid.0 (λ line. refl);
        prctl = follows (codes "prctl") (rule.Known known.Prctl) prctl.0 (λ line. refl);
        capset = follows (codes "capset") (rule.Known known.Capset) capset.0 (λ line. refl);
        setresuid = follows (codes "setresuid") (rule.Known known.Setresuid) setresuid.0 (λ line. refl);
        seccomp = follows (codes "seccomp") (rule.Known known.Seccomp) seccomp.0 (λ line. refl);
        execve = follows (codes "execve") (rule.Known known.Execve) execve.0 (λ line. refl);
      }
