-- What is read can be written again.
use Rattle.std.proofs.Common.{◌≡◌, inl, inr, ℕ, ◌*◌, ◌%◌, ◌≤◌, ◌^◌, Bool, true, false, cond, List, [], ◌∷◌, length, Option, Some, None}
use Rattle.std.proofs.Common.{Result, Ok, Err, refl, sym, ap, ◌∙◌, subst, arith}
use Rattle.std.specs.Prelude.{◌==◌, ◌&&◌, not, codes, slice_get, nat_le, nat_lt, option_and_then, IsSome}
use Rattle.std.specs.Option.{option_map}
use Rattle.std.specs.Result.{IfOk, result_ok}
use Rattle.std.specs.List.{All, AllByRecursion, cons_option, list_all, position_or_len}
use Rattle.std.specs.Str.{bytes_eq}
use Rattle.std.proofs.lemmas.Bool.{false≢true, and_parts}
use Rattle.std.proofs.lemmas.Bool.Decides.{nat_tests}
use Rattle.std.proofs.lemmas.List.Elements.{All-from_recursion}
use Rattle.std.proofs.lemmas.Slice.Eq.{bytes_eq-Decides}
use Rattle.std.proofs.lemmas.List.Folds.{find_at}
use Rattle.std.proofs.lemmas.Option.{same_Some, cond_some, option_and_then_some}
use Rattle.hex.specs.Hex.{decode_of}
use Rattle.kernel_model.specs.abs_path.Paths.{Path}
use Rattle.hex.specs.declared.error.FromHexError.{FromHexError}
use Rattle.hex.proofs.HexLemmas.{decode_of-ok}
use Rattle.kernel_model.specs.text_forms.line_text.Lines.{Line, is_text, lines_of, words_of}
use Rattle.kernel_model.specs.call_table.declared.call_names.payload.PayloadForm.{PayloadForm}
use Rattle.kernel_model.specs.call_table.declared.call_names.payload.PayloadForm.TheVariants as form
use Rattle.kernel_model.proofs.OfCallTable.Places.{place_is}
use Rattle.kernel_model.specs.call_table.Lookups.{has_name, has_number, named, numbered, AreOnce}
use Rattle.kernel_model.specs.call_table.Numbers.{is_lower_hex, number_of}
use Rattle.kernel_model.specs.call_table.Table.{Table, abi_at, calls_in}
use Rattle.kernel_model.specs.call_table.declared.listed.CallLine.{CallLine}
use Rattle.kernel_model.specs.call_table.call_words.Words.{spelled}
use Rattle.kernel_model.proofs.OfCallTable.Back.{spelled_there}
use Rattle.kernel_model.specs.declared.kernel_calls.call.Call.{Call}
use Rattle.kernel_model.specs.declared.kernel_calls.payload.Payload.{Payload}
use Rattle.kernel_model.specs.declared.kernel_calls.payload.Payload.TheVariants.{Nothing, OnePath, TwoPaths, PathFlags, Sets, Ids, Number, Code, Ring}
use Rattle.kernel_model.specs.declared.kernel_calls.request.Request.TheVariants.{Stat, Open, Socket, Mode}
use Rattle.kernel_model.specs.text_forms.Numbers.{decimal_value}
use Rattle.script_text.specs.Marks.{behind_hash}
use Rattle.script_text.specs.Numbers.{some_pid, pid_of, numbers_of, six_words}
use Rattle.script_text.specs.Payloads.{Taken, path_of, set_of, ids_of, is_code, code_of, with_words, payload_of, stat_taken, open_taken, socket_taken, mode_taken}
use Rattle.script_text.specs.Printed.{has_form}
use Rattle.script_text.specs.PrintedAgain.{IsWritten}
use Rattle.script_text.specs.Reading.{Named, bare_number, call_named, form_of_name, named_by, named_in, named_call, with_numbers}
use Rattle.script_text.specs.Reading.{with_payload, with_name, with_pid, call_of}
use Rattle.script_text.specs.Progress.{ReadsScript}
use Rattle.script_text.specs.Scripts.{line_call, fault_of, calls_of, unless_fault, script_of_lines, script_of}
use Rattle.script_text.specs.declared.error.ScriptCause.{ScriptCause}
use Rattle.script_text.specs.declared.error.ScriptCause.TheVariants.{Words}
use Rattle.script_text.specs.declared.error.ScriptError.{ScriptError}
use Rattle.script_text.specs.declared.error.ScriptError.TheVariants.{NotText}

-- a process from 1 on
pid_from_one : (word : List ℕ) (pid : ℕ) → pid_of word ≡ Some pid → 1 ≤ pid
unfolding pid_of
pid_from_one word pid e = option_and_then_some some_pid (decimal_value word) pid e (λ number is some.
    let parts = cond_some (nat_lt 0 number && nat_lt number (2 ^ 32)) number pid some in
    let positive = (and_parts (nat_lt 0 number) (nat_lt number (2 ^ 32)) parts.0).0 in
    let same : number ≡ pid = parts.1 in
    grind (arith, nat_tests, positive, same))

-- by its number it carries nothing, and by its name what the name carries
data IsNamed (table : Table) (call : Named) : Type 0 where
  by_number : call.form ≡ form.Nothing → IsNamed table call
  by_name : (line : CallLine) → numbered call.nr (calls_in table call.abi) ≡ Some line → call.form ≡ form_of_name line.kernel line.name
      → IsNamed table call

its_name : (calls : List CallLine) (word : List ℕ) (line : CallLine) → named word calls ≡ Some line → word ≡ line.name
its_name [] word line e = cc
its_name (first ∷ calls) word line e = by (has_name word first) refl e (its_name calls word line)
  where
    by : (b : Bool) → has_name word first ≡ b → cond b (Some first) (named word calls) ≡ Some line
        → (named word calls ≡ Some line → word ≡ line.name) → word ≡ line.name
    by true h e rest = let same : first ≡ line = cc in (bytes_eq-Decides word first.name).0 h ∙ ap (λ (l : CallLine). l.name) same
    by false h e rest = rest e

line_found : (calls : List CallLine) (word : List ℕ) (line : CallLine) → AreOnce calls → named word calls ≡ Some line
    → numbered line.number calls ≡ Some line
line_found calls word line once e =
    let at = position_or_len (has_name word) calls in
    let there : slice_get calls at ≡ Some line = sym (find_at (has_name word) calls) ∙ e in
    find_at (has_number line.number) calls ∙ ap (slice_get calls)
    (place_is (has_number line.number) calls at (once.by_number at line there)).0 ∙ there

same_named : (one other : Named) → Some one ≡ Some other → (one.abi ≡ other.abi) × (one.nr ≡ other.nr) × (one.form ≡ other.form)
same_named one other e = let same = same_Some one other e in (ap (λ (n : Named). n.abi) same, ap (λ (n : Named). n.nr) same, ap (λ (n : Named). n.form) same)

-- the call of an ABI
in_abi : (table : Table) (abi : ℕ) (word : List ℕ) (call : Named) → AreOnce (calls_in table abi) → named_in table abi word ≡ Some call
    → (call.abi ≡ abi) × IsNamed table call
in_abi table abi word call once e = by (behind_hash word) e
  where
    by_digits : (o : Option ℕ) → option_map (bare_number abi) o ≡ Some call → (call.abi ≡ abi) × IsNamed table call
    by_digits None e = cc
    by_digits (Some nr) e = let same = same_named (bare_number abi nr) call e in (sym same.0, by_number (sym same.2))

    by_line : (o : Option CallLine) → named word (calls_in table abi) ≡ o → option_map (call_named abi word) o ≡ Some call
        → (call.abi ≡ abi) × IsNamed table call
    by_line None is e = cc
    by_line (Some line) is e =
        let same = same_named (call_named abi word line) call e in (
          sym same.0,
          by_name line (ap (λ k. numbered call.nr (calls_in table k)) (sym same.0)
              ∙ ap (λ n. numbered n (calls_in table abi)) (sym same.1) ∙ line_found (calls_in table abi) word line once is)
              (sym same.2 ∙ ap (form_of_name line.kernel) (its_name (calls_in table abi) word line is)),
        )

    by : (o : Option (List ℕ)) → named_by table abi word o ≡ Some call → (call.abi ≡ abi) × IsNamed table call
    by None e = by_line (named word (calls_in table abi)) refl e
    by (Some digits) e = by_digits (number_of digits) e

-- a call of the table's ABIs
record IsOfTable (table : Table) (call : Named) : Type 0 where
  there : IsSome (abi_at table call.abi)
  is_named : IsNamed table call

abbrev EachOnce : Table → Type 0
EachOnce table = (abi : ℕ) → AreOnce (calls_in table abi)

of_table : (table : Table) (word : List ℕ) (call : Named) → EachOnce table → named_call table word ≡ Some call → IsOfTable table call
unfolding named_call
of_table table word call once e = by (spelled table word) refl e
  where
    by : (o : Option (ℕ × List ℕ)) → spelled table word ≡ o → option_and_then (λ found. named_in table found.0 found.1) o ≡ Some call
        → IsOfTable table call
    by None is e = cc
    by (Some found) is e =
        let known = in_abi table found.0 found.1 call (once found.0) e in
        record { there = subst (λ (k : ℕ). IsSome (abi_at table k)) (sym known.0) (spelled_there table word found is); is_named = known.1 }

-- what is taken has the form
code_whole : (word bytes : List ℕ) → code_of word ≡ Some bytes → (length bytes % 8 == 0) ≡ true
unfolding code_of
code_whole word bytes e = by (bytes_eq word (codes "-")) e
  where
    decoded : (r : Result (List ℕ) FromHexError) → decode_of word ≡ r → result_ok r ≡ Some bytes → length word ≡ 2 * length bytes
    decoded (Ok made) is e = (decode_of-ok word bytes (is ∙ ap Ok (same_Some made bytes e))).2
    decoded (Err error) is e = cc

    by_code : (b : Bool) → is_code word ≡ b → cond b (result_ok (decode_of word)) None ≡ Some bytes → (length bytes % 8 == 0) ≡ true
    by_code false is e = cc
    by_code true is e =
        let lines = (and_parts (length word % 16 == 0) (list_all is_lower_hex word) (and_parts (not (length word == 0)) (length word % 16 == 0 && list_all is_lower_hex word) is).1).0 in
        let twice = decoded (decode_of word) refl e in
        grind (arith, nat_tests, lines, twice)

    by : (b : Bool) → cond b (Some []) (cond (is_code word) (result_ok (decode_of word)) None) ≡ Some bytes → (length bytes % 8 == 0) ≡ true
    by true e = let none : [] ≡ bytes = same_Some [] bytes e in ap (λ bs. length bs % 8 == 0) (sym none)
    by false e = by_code (is_code word) refl e

taken_form : (form' : PayloadForm) (made : Payload) (words : List (List ℕ)) (taken : Taken) → Some (made, words) ≡ Some taken
    → has_form form' made ≡ true → has_form form' taken.0 ≡ true
taken_form form' made words taken e h = ap (λ (t : Taken). has_form form' t.0) (sym (same_Some {A = Taken} (made, words) taken e)) ∙ h

stat_form : (words : List (List ℕ)) (taken : Taken) → stat_taken words ≡ Some taken → has_form form.Request taken.0 ≡ true
stat_form [] taken e = cc
stat_form (word ∷ words) taken e = by (path_of word) e
  where
    by : (o : Option Path) → option_map (λ path. (Ring (Stat path), words)) o ≡ Some taken → has_form form.Request taken.0 ≡ true
    by None e = cc
    by (Some path) e = taken_form form.Request (Ring (Stat path)) words taken e refl

open_form : (words : List (List ℕ)) (taken : Taken) → open_taken words ≡ Some taken → has_form form.Request taken.0 ≡ true
open_form [] taken e = cc
open_form (word ∷ []) taken e = cc
open_form (path ∷ flags ∷ words) taken e = by (path_of path) (number_of flags) e
  where
    by : (o : Option Path) (f : Option ℕ)
        → option_map (with_words words) (option_and_then (λ at. option_map (λ bits. Ring (Open at bits)) f) o) ≡ Some taken
        → has_form form.Request taken.0 ≡ true
    by None f e = cc
    by (Some at) None e = cc
    by (Some at) (Some bits) e = taken_form form.Request (Ring (Open at bits)) words taken e refl

socket_form : (words : List (List ℕ)) (taken : Taken) → socket_taken words ≡ Some taken → has_form form.Request taken.0 ≡ true
socket_form [] taken e = cc
socket_form (word ∷ words) taken e = by (number_of word) e
  where
    by : (o : Option ℕ) → option_map (λ family. (Ring (Socket family), words)) o ≡ Some taken → has_form form.Request taken.0 ≡ true
    by None e = cc
    by (Some family) e = taken_form form.Request (Ring (Socket family)) words taken e refl

mode_form : (words : List (List ℕ)) (taken : Taken) → mode_taken words ≡ Some taken → has_form form.Request taken.0 ≡ true
mode_form [] taken e = cc
mode_form (word ∷ words) taken e = by (number_of word) e
  where
    by : (o : Option ℕ) → option_map (λ mode. (Ring (Mode mode), words)) o ≡ Some taken → has_form form.Request taken.0 ≡ true
    by None e = cc
    by (Some mode) e = taken_form form.Request (Ring (Mode mode)) words taken e refl

request_form : (stat' open' socket' mode' : Bool) (words : List (List ℕ)) (taken : Taken)
    → cond stat' (stat_taken words) (cond open' (open_taken words) (cond socket' (socket_taken words) (cond mode' (mode_taken words) None)))
    ≡ Some taken → has_form form.Request taken.0 ≡ true
request_form true open' socket' mode' words taken e = stat_form words taken e
request_form false true socket' mode' words taken e = open_form words taken e
request_form false false true mode' words taken e = socket_form words taken e
request_form false false false true words taken e = mode_form words taken e
request_form false false false false words taken e = cc

has_its_form : (form' : PayloadForm) (words : List (List ℕ)) (taken : Taken) → payload_of form' words ≡ Some taken
    → has_form form' taken.0 ≡ true
has_its_form form.Nothing words taken e = taken_form form.Nothing Nothing words taken e refl
has_its_form form.OnePath [] taken e = cc
has_its_form form.OnePath (word ∷ words) taken e = by (path_of word) e
  where
    by : (o : Option Path) → option_map (λ path. (OnePath path, words)) o ≡ Some taken → has_form form.OnePath taken.0 ≡ true
    by None e = cc
    by (Some path) e = taken_form form.OnePath (OnePath path) words taken e refl
has_its_form form.TwoPaths [] taken e = cc
has_its_form form.TwoPaths (word ∷ []) taken e = cc
has_its_form form.TwoPaths (source ∷ target ∷ words) taken e = by (path_of source) (path_of target) e
  where
    by : (from to : Option Path) → option_map (with_words words) (option_and_then (λ from. option_map (λ to. TwoPaths from to) to) from)
        ≡ Some taken → has_form form.TwoPaths taken.0 ≡ true
    by None to e = cc
    by (Some from) None e = cc
    by (Some from) (Some to) e = taken_form form.TwoPaths (TwoPaths from to) words taken e refl
has_its_form form.PathFlags [] taken e = cc
has_its_form form.PathFlags (word ∷ []) taken e = cc
has_its_form form.PathFlags (path ∷ flags ∷ words) taken e = by (path_of path) (number_of flags) e
  where
    by : (at : Option Path) (bits : Option ℕ)
        → option_map (with_words words) (option_and_then (λ at. option_map (λ bits. PathFlags at bits) bits) at) ≡ Some taken
        → has_form form.PathFlags taken.0 ≡ true
    by None bits e = cc
    by (Some at) None e = cc
    by (Some at) (Some bits) e = taken_form form.PathFlags (PathFlags at bits) words taken e refl
has_its_form form.Sets [] taken e = cc
has_its_form form.Sets (one ∷ []) taken e = cc
has_its_form form.Sets (one ∷ two ∷ []) taken e = cc
has_its_form form.Sets (one ∷ two ∷ three ∷ words) taken e = by (set_of one) (set_of two) (set_of three) e
  where
    by : (p e i : Option ℕ) → option_map (with_words words)
        (option_and_then (λ p. option_and_then (λ e. option_map (λ i. Sets p e i) i) e) p) ≡ Some taken → has_form form.Sets taken.0 ≡ true
    by None two three e = cc
    by (Some p) None three e = cc
    by (Some p) (Some e') None e = cc
    by (Some p) (Some e') (Some i) e = taken_form form.Sets (Sets p e' i) words taken e refl
has_its_form form.Ids [] taken e = cc
has_its_form form.Ids (word ∷ words) taken e = by (ids_of word) e
  where
    by : (o : Option (List ℕ)) → option_map (λ ids. (Ids ids, words)) o ≡ Some taken → has_form form.Ids taken.0 ≡ true
    by None e = cc
    by (Some ids) e = taken_form form.Ids (Ids ids) words taken e refl
has_its_form form.Number [] taken e = cc
has_its_form form.Number (word ∷ words) taken e = by (number_of word) e
  where
    by : (o : Option ℕ) → option_map (λ number. (Number number, words)) o ≡ Some taken → has_form form.Number taken.0 ≡ true
    by None e = cc
    by (Some number) e = taken_form form.Number (Number number) words taken e refl
has_its_form form.Program [] taken e = cc
has_its_form form.Program (word ∷ words) taken e = by (code_of word) refl e
  where
    by : (o : Option (List ℕ)) → code_of word ≡ o → option_map (λ bytes. (Code bytes, words)) o ≡ Some taken
        → has_form form.Program taken.0 ≡ true
    by None is e = cc
    by (Some bytes) is e = taken_form form.Program (Code bytes) words taken e (code_whole word bytes is)
has_its_form form.Request [] taken e = cc
has_its_form form.Request (kind ∷ words) taken e =
    request_form (bytes_eq kind (codes "stat")) (bytes_eq kind (codes "open")) (bytes_eq kind (codes "socket")) (bytes_eq kind (codes "mode"))
    words taken e

nothing_only : (payload : Payload) → has_form form.Nothing payload ≡ true → payload ≡ Nothing
nothing_only Nothing h = refl
nothing_only (OnePath path) h = absurd (false≢true h)
nothing_only (TwoPaths source target) h = absurd (false≢true h)
nothing_only (PathFlags path flags) h = absurd (false≢true h)
nothing_only (Sets permitted effective inheritable) h = absurd (false≢true h)
nothing_only (Ids ids) h = absurd (false≢true h)
nothing_only (Number number) h = absurd (false≢true h)
nothing_only (Code bytes) h = absurd (false≢true h)
nothing_only (Ring request) h = absurd (false≢true h)

-- the parts of a line that gives a call
record Parts (table : Table) (call : Call) : Type 0 where
  pid : 1 ≤ call.pid
  named' : Named
  is_named : IsOfTable table named'
  abi : named'.abi ≡ call.abi
  nr : named'.nr ≡ call.nr
  form' : has_form named'.form call.payload ≡ true

abbrev IsMadeOf : ℕ → Named → Payload → Call → Type 0
IsMadeOf pid n payload call = (pid ≡ call.pid) × (n.abi ≡ call.abi) × (n.nr ≡ call.nr) × (payload ≡ call.payload)

parts_of_line : (table : Table) (words : List (List ℕ)) (call : Call) → EachOnce table → call_of table words ≡ Ok call → Parts table call
parts_of_line table [] call once e = cc
parts_of_line table (word ∷ words) call once e = by_pid (pid_of word) words refl e
  where
    by_numbers : (pid : ℕ) (n : Named) (payload : Payload) (numbers : Option (List ℕ)) → with_numbers pid n payload numbers ≡ Ok call
        → IsMadeOf pid n payload call
    by_numbers pid n payload None e = cc
    by_numbers pid n payload (Some numbers) e = by (nat_le (length numbers) 6) e
      where
        by : (b : Bool) → cond {A = Result Call ScriptCause} b
            (Ok (record { pid = pid; abi = n.abi; nr = n.nr; args = six_words numbers; payload = payload })) (Err Words) ≡ Ok call
            → IsMadeOf pid n payload call
        by true e =
            let same : record { pid = pid; abi = n.abi; nr = n.nr; args = six_words numbers; payload = payload } ≡ call = cc in
            (ap (λ (c : Call). c.pid) same, ap (λ (c : Call). c.abi) same, ap (λ (c : Call). c.nr) same, ap (λ (c : Call). c.payload) same)
        by false e = cc

    by_payload : (pid : ℕ) (n : Named) (behind : List (List ℕ)) (taken : Option Taken) → payload_of n.form behind ≡ taken → 1 ≤ pid
        → IsOfTable table n → with_payload pid n taken ≡ Ok call → Parts table call
    by_payload pid n behind None t p i e = cc
    by_payload pid n behind (Some taken) t p i e =
        let same = by_numbers pid n taken.0 (numbers_of taken.1) e in
        record {
          pid = subst (λ k. 1 ≤ k) same.0 p;
          named' = n;
          is_named = i;
          abi = same.1;
          nr = same.2;
          form' = ap (has_form n.form) (sym same.3) ∙ has_its_form n.form behind taken t;
        }

    by_name' : (pid : ℕ) (name : List ℕ) (behind : List (List ℕ)) (n : Option Named) → named_call table name ≡ n → 1 ≤ pid
        → with_name pid behind n ≡ Ok call → Parts table call
    by_name' pid name behind None is p e = cc
    by_name' pid name behind (Some n) is p e = by_payload pid n behind (payload_of n.form behind) refl p (of_table table name n once is) e

    by_pid : (pid : Option ℕ) (behind : List (List ℕ)) → pid_of word ≡ pid → with_pid table behind pid ≡ Ok call → Parts table call
    by_pid None behind is e = cc
    by_pid (Some pid) [] is e = cc
    by_pid (Some pid) (name ∷ behind) is e = by_name' pid name behind (named_call table name) refl (pid_from_one word pid is) e

written : (table : Table) (call : Call) → Parts table call → IsWritten table call
written table call p = by p.is_named.is_named
  where
    there : IsSome (abi_at table call.abi)
    there = subst (λ (k : ℕ). IsSome (abi_at table k)) p.abi p.is_named.there

    by : IsNamed table p.named' → IsWritten table call
    by (by_number none) = record
        { pid = p.pid; abi = there; payload = inl (nothing_only call.payload (ap (λ f. has_form f call.payload) (sym none) ∙ p.form')) }
    by (by_name line found is) = record {
      pid = p.pid;
      abi = there;
      payload = inr (record {
        line = line;
        in_table = ap (λ k. numbered call.nr (calls_in table k)) (sym p.abi)
            ∙ ap (λ n. numbered n (calls_in table p.named'.abi)) (sym p.nr) ∙ found;
        form = ap (λ f. has_form f call.payload) (sym is) ∙ p.form';
      });
    }

-- each call of a script
each_written : (table : Table) → EachOnce table → (lines : List Line) → AllByRecursion (IsWritten table) (calls_of table lines)
unfolding line_call
each_written table once [] = tt
each_written table once (line ∷ lines) = by (line_call table line) refl (each_written table once lines)
  where
    by : (r : Result Call ScriptCause) → line_call table line ≡ r → AllByRecursion (IsWritten table) (calls_of table lines)
        → AllByRecursion (IsWritten table) (cons_option (result_ok r) (calls_of table lines))
    by (Ok call) is rest = (written table call (parts_of_line table (words_of line.text) call once is), rest)
    by (Err cause) is rest = rest

script_written : (table : Table) (bytes : List ℕ) (script : List Call) → EachOnce table → script_of table bytes ≡ Ok script
    → All (IsWritten table) script
unfolding script_of
script_written table bytes script once e = by (is_text bytes) e
  where
    by_fault : (o : Option ScriptError) → unless_fault o (calls_of table (lines_of bytes)) ≡ Ok script → All (IsWritten table) script
    by_fault None e = let same : calls_of table (lines_of bytes) ≡ script = cc in subst (All (IsWritten table)) same (All-from_recursion (IsWritten table) (calls_of table (lines_of bytes)) (each_written table once (lines_of bytes)))
    by_fault (Some fault) e = cc

    by : (b : Bool) → cond b (script_of_lines table (lines_of bytes)) (Err NotText) ≡ Ok script → All (IsWritten table) script
    by true e = by_fault (fault_of table (lines_of bytes)) e
    by false e = cc

pub answer_written : (table : Table) (bytes : List ℕ) (answer : Result (List Call) ScriptError) → EachOnce table
    → ReadsScript (script_of table bytes) answer → IfOk answer (λ script. All (IsWritten table) script)
answer_written table bytes (Ok script) once h = script_written table bytes script once h
answer_written table bytes (Err error) once h = tt
