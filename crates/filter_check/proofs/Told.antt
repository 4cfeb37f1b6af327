-- The ends from the first instruction on, as statements about the program.
use Rattle.std.proofs.Common.{◌≡◌, ℕ, zero, suc, ◌<◌, ◌≤◌, List, [], ◌∷◌, length, get_or, Some, true, false, refl, sym, ap, ◌∙◌}
use Rattle.std.proofs.Common.{subst, arith}
use Rattle.std.specs.Prelude.{slice_get, slice_index, bit_and, Contains, Vec}
use Rattle.std.specs.List.{AllZip, AllByRecursion}
use Rattle.std.specs.Int.Bits.{and_zero_r}
use Rattle.std.specs.declared.alloc.Global.{Global}
use Rattle.std.proofs.lemmas.Option.{slice_get-get_or, slice_get_within, get_or_from_slice_get}
use Rattle.std.proofs.lemmas.List.Elements.{All-from_recursion}
use Rattle.seccomp_compile.specs.bpf_code.declared.machine.Insn.{Insn}
use Rattle.seccomp_compile.specs.bpf_code.declared.machine.CallData.{CallData}
use Rattle.seccomp_compile.specs.bpf_code.Effects.{words_of}
use Rattle.seccomp_compile.specs.bpf_code.Meaning.{IsCallData, start_regs}
use Rattle.filter_check.specs.filter_paths.Traces.{Takes, IsPath, HasPaths, HasMorePaths}
use Rattle.filter_check.specs.filter_paths.Regions.{IsWithin, held_word}
use Rattle.filter_check.specs.filter_paths.Covered.{HasLeast, LeadsTo, AreSomeEnds, AreEnds, AddsEnds}
use Rattle.filter_check.specs.filter_paths.Walked.{AreEndsFor, TellsPaths}
use Rattle.filter_check.specs.declared.filter_paths.states.State.{State}
use Rattle.filter_check.specs.declared.filter_paths.states.End.{End}
use Rattle.filter_check.proofs.Lists.{zip_lengths}
use Rattle.filter_check.proofs.Traces.{takes_ends}
use Rattle.filter_check.proofs.OnePath.{same_path}

-- the state at the first instruction, where the accumulator is 0
pub record IsStart (state : State) : Type 0 where
  pub first : state.at ≡ 0
  pub nothing : state.held.mask ≡ 0

takes_from_start : (code : List Insn) (state : State) (end : End) (path : List ℕ) (input : CallData) → IsStart state
    → LeadsTo code state end path → IsCallData input → IsWithin end.region input → Takes code input 0 start_regs path end.answer
takes_from_start code state end path input start lead fits within =
    let held : 0 ≡ held_word state.held input = sym (ap (λ m. bit_and (slice_index (words_of input) state.held.word) m) start.nothing ∙ and_zero_r (slice_index (words_of input) state.held.word)) in
    subst (λ at. Takes code input at start_regs path end.answer) start.first ((lead input fits within).1 start_regs held)

-- the path of an end, and the end of a path
path_of : (code : List Insn) (state : State) (ends : List End) (paths : List (List ℕ)) (k : ℕ) (end : End)
    → AllZip (LeadsTo code state) ends paths → slice_get ends k ≡ Some end
    → (path : List ℕ) × (slice_get paths k ≡ Some path) × LeadsTo code state end path
path_of code state [] paths k end lead e = cc
path_of code state (one ∷ ends) [] k end lead e = absurd lead
path_of code state (one ∷ ends) (path ∷ paths) zero end lead e =
    (path, refl, subst (λ n. LeadsTo code state n path) (same_end one end e) lead.0)
  where
    same_end : (x y : End) → Some x ≡ Some y → x ≡ y
    same_end x y e = cc
path_of code state (one ∷ ends) (path ∷ paths) (suc k) end lead e = path_of code state ends paths k end lead.1 e

end_of : (code : List Insn) (state : State) (ends : List End) (paths : List (List ℕ)) (k : ℕ) (path : List ℕ)
    → AllZip (LeadsTo code state) ends paths → AllByRecursion HasLeast ends → slice_get paths k ≡ Some path
    → (end : End) × LeadsTo code state end path × HasLeast end
end_of code state ends [] k path lead least e = cc
end_of code state [] (one ∷ paths) k path lead least e = absurd lead
end_of code state (end ∷ ends) (one ∷ paths) zero path lead least e =
    (end, subst (λ p. LeadsTo code state end p) (same_list one path e) lead.0, least.0)
  where
    same_list : (x y : List ℕ) → Some x ≡ Some y → x ≡ y
    same_list x y e = cc
end_of code state (end ∷ ends) (one ∷ paths) (suc k) path lead least e = end_of code state ends paths k path lead.1 least.1 e

pub found_of : (paths : List (List ℕ)) (path : List ℕ) → Contains paths path → (k : ℕ) × (slice_get paths k ≡ Some path)
found_of paths path (k, lt, e) = (k, slice_get-get_or paths k path lt ∙ ap Some e)

pub contains_from : (paths : List (List ℕ)) (k : ℕ) (path : List ℕ) → slice_get paths k ≡ Some path → Contains paths path
contains_from paths k path e = (k, slice_get_within paths k path e, get_or_from_slice_get paths k path path e)

-- some data take the path of each end
each_is_path : (code : List Insn) (state : State) (ends : List End) → IsStart state → (some : AreSomeEnds code state ends)
    → (path : List ℕ) → Contains some.paths path → IsPath code path
each_is_path code state ends start some path h =
    let found = found_of some.paths path h in
    let end = end_of code state ends some.paths found.0 path some.lead some.some found.1 in
    (end.0.least, end.2.0, (end.0.answer, takes_from_start code state end.0 path end.0.least start end.1 end.2.0 end.2.1))

-- if all data reach the state, the ends have all paths
all_are_told : (code : List Insn) (state : State) (ends : List End) → IsStart state
    → ((input : CallData) → IsCallData input → IsWithin state.region input) → (all : AreEnds code state ends) → (path : List ℕ)
    → IsPath code path → Contains all.some.paths path
all_are_told code state ends start every all path (input, fits, (answer, takes)) =
    let any = all.all_data input (fits, every input fits) in
    let there = path_of code state ends all.some.paths any.0 any.1 all.some.lead (slice_get-get_or ends any.0 any.1 any.2 ∙ ap Some any.3) in
    let own = takes_from_start code state any.1 there.0 input start there.2 fits any.4 in
    subst (λ p. Contains all.some.paths p) (sym (same_path code input 0 start_regs path there.0 answer any.1.answer takes own))
    (contains_from all.some.paths any.0 there.0 there.1)

counted : (code : List Insn) (state : State) (ends : List End) → IsStart state
    → ((input : CallData) → IsCallData input → IsWithin state.region input) → AreEnds code state ends → HasPaths code (length ends)
counted code state ends start every all = (
  all.some.paths,
  record { distinct = all.some.once; only_paths = each_is_path code state ends start all.some; all_paths = all_are_told code state ends start every all },
  sym (zip_lengths (LeadsTo code state) ends all.some.paths all.some.lead),
)

-- the data that the ends are for
pub ends_for : (code : List Insn) (state : State) (Has : CallData → Type 0) (ends : List End) → IsStart state
    → ((input : CallData) → IsCallData input → IsWithin state.region input → Has input)
    → ((input : CallData) → IsCallData input → Has input → IsWithin state.region input) → AreEnds code state ends → AreEndsFor code Has ends
ends_for code state Has ends start there back all = record {
  each = λ k d lt.
      let end = get_or ends k d in
      let path = path_of code state ends all.some.paths k end all.some.lead (slice_get-get_or ends k d lt) in
      record {
        within = λ input fits within. there input fits (path.2 input fits within).0.1;
        answers = λ input fits within. takes_ends code input 0 start_regs path.0 end.answer
            (takes_from_start code state end path.0 input start path.2 fits within);
        least = All-from_recursion HasLeast ends all.some.some k d lt;
      };
  all_data = λ input fits has. all.all_data input (fits, back input fits has);
}

pub tells_all : (code : List Insn) (state : State) (most : ℕ) (ends : Vec End Global) → IsStart state
    → ((input : CallData) → IsCallData input → IsWithin state.region input) → length ends.items ≤ most
    → AddsEnds code state most [] ends.items true → TellsPaths code most (Some ends)
tells_all code state most ends start every few (more, e, all) =
    let own : AreEnds code state ends.items = subst (AreEnds code state) (sym e) all in
    (counted code state ends.items start every own, few, ends_for code state IsCallData ends.items start (λ input fits within. fits) (λ input fits has. every input fits) own)

pub tells_more : (code : List Insn) (state : State) (most : ℕ) (new : List End) → IsStart state → AddsEnds code state most [] new false
    → HasMorePaths code most
tells_more code state most new start (more, lt, some) =
    (some.paths, some.once, each_is_path code state more start some, subst (λ n. most < n) (zip_lengths (LeadsTo code state) more some.paths some.lead) (omega (arith, lt)))
