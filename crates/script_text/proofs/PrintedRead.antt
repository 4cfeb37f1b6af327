-- A printed call, read again.
use Rattle.std.proofs.Common.{◌≡◌, ◌⊎◌, inl, inr, ℕ, ◌<◌, ◌≤◌, ◌^◌, Bool, true, false, cond, List, [], ◌∷◌, ◌++◌, length, Option, Some}
use Rattle.std.proofs.Common.{None, Result, Ok, Err, refl, sym, ap, ◌∙◌, subst, arith, decimal}
use Rattle.std.specs.Prelude.{◌==◌, not, slice_get}
use Rattle.std.specs.Char.{digit_value}
use Rattle.std.specs.Option.{option_map}
use Rattle.std.specs.List.{AllByRecursion, list_all, position_or_len}
use Rattle.std.proofs.lemmas.Bool.{false≢true, and_parts, eqb-true}
use Rattle.std.proofs.lemmas.Bool.Decides.{nat_tests}
use Rattle.std.proofs.lemmas.List.Elements.{recursion_from_All}
use Rattle.std.proofs.lemmas.List.Folds.{find_at}
use Rattle.kernel_model.specs.text_forms.line_text.Lines.{words_of}
use Rattle.kernel_model.specs.call_table.declared.call_names.payload.PayloadForm.{PayloadForm}
use Rattle.kernel_model.specs.call_table.declared.call_names.payload.PayloadForm.TheVariants as form
use Rattle.kernel_model.proofs.OfCallTable.Places.{place_is}
use Rattle.kernel_model.specs.call_table.Lookups.{has_name, has_number, named, numbered, AreOnce}
use Rattle.kernel_model.specs.call_table.Names.{is_name, is_name_byte}
use Rattle.kernel_model.specs.call_table.Table.{Table, calls_in}
use Rattle.kernel_model.specs.call_table.declared.listed.CallLine.{CallLine}
use Rattle.kernel_model.specs.call_table.call_words.Words.{HasOtherName, spelling}
use Rattle.kernel_model.specs.kernel_calls.Calls.{IsCall}
use Rattle.kernel_model.specs.declared.kernel_calls.call.Call.{Call}
use Rattle.kernel_model.specs.declared.kernel_calls.payload.Payload.TheVariants.{Nothing}
use Rattle.script_text.specs.Marks.{behind_hash}
use Rattle.script_text.specs.Numbers.{numbers_of, six_words, without_last_zeros}
use Rattle.script_text.specs.Payloads.{payload_of}
use Rattle.script_text.specs.Printed.{has_form, payload_words, hash_word, numbered_words, named_words, front_words, argument_words}
use Rattle.script_text.specs.Printed.{call_text}
use Rattle.script_text.specs.PrintedAgain.{AreNamed, HasItsForm, IsHeld, IsReadAs, IsWord, IsWritten}
use Rattle.script_text.specs.Reading.{bare_number, call_named, form_of_name, named_by, named_in, named_call, with_numbers, with_payload}
use Rattle.script_text.specs.Reading.{with_name, with_pid, call_of}
use Rattle.script_text.specs.declared.error.ScriptCause.{ScriptCause}
use Rattle.script_text.specs.declared.error.ScriptCause.TheVariants.{Words}
use Rattle.std.proofs.lemmas.Option.{none-some, same_Some}
use Rattle.script_text.proofs.PrintedNumbers.{number_has_no, number_shown, number_again, pid_again, arguments_again, arguments_shown}
use Rattle.script_text.proofs.PrintedNumbers.{six_again, six_at_most}
use Rattle.script_text.proofs.PrintedPayloads.{payload_again, payload_shown}
use Rattle.script_text.proofs.Spaced.{HasNo, all_append, split_again}
use Rattle.script_text.proofs.Abis.{names_there, spelling_shown}

-- by its number
hash_again : (table : Table) (abi nr : ℕ) → nr < 2 ^ 32 → named_in table abi (hash_word nr) ≡ Some (bare_number abi nr)
hash_again table abi nr small = ap (option_map (bare_number abi)) (number_again nr small)

hash_has_no : (mark nr : ℕ) → (35 == mark) ≡ false → 10 ≤ digit_value mark → nr < 2 ^ 32 → HasNo mark (hash_word nr)
hash_has_no mark nr other m small = (other, number_has_no mark nr m (omega (arith, small)))

hash_shown : (nr : ℕ) → nr < 2 ^ 32 → IsWord (hash_word nr)
hash_shown nr small = record { some = grind (arith, nat_tests); plain = hash_has_no 32 nr refl (omega arith) small }

-- by its name
found : (calls : List CallLine) (nr : ℕ) (line : CallLine) → numbered nr calls ≡ Some line
    → slice_get calls (position_or_len (has_number nr) calls) ≡ Some line
found calls nr line e = sym (find_at (has_number nr) calls) ∙ e

same_line : (calls : List CallLine) (nr : ℕ) (line : CallLine) → AreOnce calls → numbered nr calls ≡ Some line
    → named line.name calls ≡ Some line
same_line calls nr line once e =
    let at = position_or_len (has_number nr) calls in
    let there = found calls nr line e in
    find_at (has_name line.name) calls ∙ ap (slice_get calls) (place_is (has_name line.name) calls at (once.by_name at line there)).0
    ∙ there

its_number : (calls : List CallLine) (nr : ℕ) (line : CallLine) → numbered nr calls ≡ Some line → line.number ≡ nr
its_number [] nr line e = cc
its_number (first ∷ calls) nr line e = by (has_number nr first) refl e (its_number calls nr line)
  where
    by : (b : Bool) → has_number nr first ≡ b → cond b (Some first) (numbered nr calls) ≡ Some line
        → (numbered nr calls ≡ Some line → line.number ≡ nr) → line.number ≡ nr
    by true h e rest = let same : first ≡ line = cc in ap (λ (line : CallLine). line.number) (sym same) ∙ eqb-true first.number nr h
    by false h e rest = rest e

is_other : (mark : ℕ) → is_name_byte mark ≡ false → (byte : ℕ) → is_name_byte byte ≡ true → (byte == mark) ≡ false
is_other mark m byte e = by (byte == mark) refl
  where
    by : (b : Bool) → (byte == mark) ≡ b → b ≡ false
    by false s = refl
    by true s = absurd (false≢true (sym m ∙ ap is_name_byte (sym (eqb-true byte mark s)) ∙ e))

name_has_no : (mark : ℕ) → is_name_byte mark ≡ false → (name : List ℕ) → list_all is_name_byte name ≡ true → HasNo mark name
name_has_no mark m [] h = tt
name_has_no mark m (byte ∷ name) h = let both = and_parts (is_name_byte byte) (list_all is_name_byte name) h in (is_other mark m byte both.0, name_has_no mark m name both.1)

no_hash : (name : List ℕ) → HasNo 35 name → behind_hash name ≡ None
no_hash [] h = refl
no_hash (byte ∷ name) h = ap (λ b. cond b (Some name) None) h.0

not_false : (b : Bool) → not b ≡ true → b ≡ false
not_false true h = absurd (false≢true h)
not_false false h = refl

name_shown : (name : List ℕ) → is_name name ≡ true → IsWord name
name_shown name h =
    let both = and_parts (not (length name == 0)) (list_all is_name_byte name) h in
    record { some = not_false (length name == 0) both.0; plain = name_has_no 32 refl name both.1 }

name_bytes : (table : Table) (abi nr : ℕ) (line : CallLine) → AreNamed table → numbered nr (calls_in table abi) ≡ Some line
    → is_name line.name ≡ true
name_bytes table abi nr line n e = n.calls abi (position_or_len (has_number nr) (calls_in table abi)) line
    (found (calls_in table abi) nr line e)

name_again : (table : Table) (abi nr : ℕ) (line : CallLine) → AreOnce (calls_in table abi) → AreNamed table
    → numbered nr (calls_in table abi) ≡ Some line → named_in table abi line.name
    ≡ Some (record { abi = abi; nr = nr; form = form_of_name line.kernel line.name })
name_again table abi nr line o n e =
    let calls = calls_in table abi in
    let both = and_parts (not (length line.name == 0)) (list_all is_name_byte line.name) (name_bytes table abi nr line n e) in
    ap (named_by table abi line.name) (no_hash line.name (name_has_no 35 refl line.name both.1))
    ∙ ap (option_map (call_named abi line.name)) (same_line calls nr line o e)
    ∙ ap (λ k. Some (record { abi = abi; nr = k; form = form_of_name line.kernel line.name })) (its_number calls nr line e)

name_has_no_colon : (name : List ℕ) → is_name name ≡ true → HasNo 58 name
name_has_no_colon name h = name_has_no 58 refl name (and_parts (not (length name == 0)) (list_all is_name_byte name) h).1

-- the table, the call, and what holds of them
record Known (table : Table) (call : Call) : Type 0 where
  other : HasOtherName table
  once : AreOnce (calls_in table call.abi)
  named' : AreNamed table
  held : IsHeld call
  written : IsWritten table call

-- the words behind the number of the process, by the name that goes with them
record Shows (table : Table) (call : Call) (words : List (List ℕ)) : Type 0 where
  word : List ℕ
  behind : List (List ℕ)
  form' : PayloadForm
  are : words ≡ word ∷ behind
  named' : named_call table word ≡ Some (record { abi = call.abi; nr = call.nr; form = form' })
  payload : (rest : List (List ℕ)) → payload_of form' (behind ++ rest) ≡ Some (call.payload, rest)
  shown : AllByRecursion IsWord (word ∷ behind)

by_hash : (table : Table) (call : Call) → Known table call → call.payload ≡ Nothing → Shows table call (numbered_words table call)
by_hash table call k e =
    let small : call.nr < 2 ^ 32 = k.held.fits.nr in
    record {
      word = spelling table call.abi (hash_word call.nr);
      behind = [];
      form' = form.Nothing;
      are = refl;
      named' = names_there table call.abi (hash_word call.nr) (bare_number call.abi call.nr) k.other k.written.abi
          (hash_has_no 58 call.nr refl (omega arith) small) (hash_again table call.abi call.nr small);
      payload = λ rest. ap (λ payload. Some (payload, rest)) (sym e);
      shown = (spelling_shown table call.abi (hash_word call.nr) k.named'.second (hash_shown call.nr small), tt);
    }

by_name : (table : Table) (call : Call) (line : CallLine) → Known table call → numbered call.nr (calls_in table call.abi) ≡ Some line
    → has_form (form_of_name line.kernel line.name) call.payload ≡ true
    → Shows table call (spelling table call.abi line.name ∷ payload_words call.payload)
by_name table call line k e h =
    let name = name_bytes table call.abi call.nr line k.named' e in
    record {
      word = spelling table call.abi line.name;
      behind = payload_words call.payload;
      form' = form_of_name line.kernel line.name;
      are = refl;
      named' = names_there table call.abi line.name (record { abi = call.abi; nr = call.nr; form = form_of_name line.kernel line.name }) k.other
          k.written.abi (name_has_no_colon line.name name) (name_again table call.abi call.nr line k.once k.named' e);
      payload = λ rest. payload_again (form_of_name line.kernel line.name) call.payload rest h k.held.fits.payload k.held.texts;
      shown = (spelling_shown table call.abi line.name k.named'.second (name_shown line.name name), payload_shown call.payload k.held.fits.payload);
    }

-- a call in the table goes by its name or by its number, as its payload is
line_shows : (table : Table) (call : Call) (line : CallLine) (has : Bool) → Known table call
    → numbered call.nr (calls_in table call.abi) ≡ Some line → has_form (form_of_name line.kernel line.name) call.payload ≡ has
    → (has ≡ false → call.payload ≡ Nothing)
    → Shows table call (cond has (spelling table call.abi line.name ∷ payload_words call.payload) (numbered_words table call))
line_shows table call line true k e h none = by_name table call line k e h
line_shows table call line false k e h none = by_hash table call k (none refl)

same_form : (table : Table) (call : Call) (line : CallLine) → numbered call.nr (calls_in table call.abi) ≡ Some line
    → HasItsForm table call → has_form (form_of_name line.kernel line.name) call.payload ≡ true
same_form table call line e h = ap (λ (l : CallLine). has_form (form_of_name l.kernel l.name) call.payload)
    (same_Some line h.line (sym e ∙ h.in_table)) ∙ h.form

shows_by : (table : Table) (call : Call) (found : Option CallLine) → Known table call → numbered call.nr (calls_in table call.abi) ≡ found
    → (call.payload ≡ Nothing) ⊎ HasItsForm table call → Shows table call (named_words table call found)
shows_by table call None k e (inl none) = by_hash table call k none
shows_by table call None k e (inr has) = absurd (none-some has.line (sym e ∙ has.in_table))
shows_by table call (Some line) k e (inl none) = line_shows table call line (has_form (form_of_name line.kernel line.name) call.payload) k e refl
    (λ b. none)
shows_by table call (Some line) k e (inr has) = line_shows table call line (has_form (form_of_name line.kernel line.name) call.payload) k e refl
    (λ b. absurd (false≢true (sym b ∙ same_form table call line e has)))

numbers_taken : (call : Call) (form' : PayloadForm) → IsCall call
    → with_numbers call.pid (record { abi = call.abi; nr = call.nr; form = form' }) call.payload (numbers_of (argument_words call.args))
    ≡ Ok call
numbers_taken call form' f =
    let args = recursion_from_All (λ arg. arg < 2 ^ 64) call.args f.args in
    ap (with_numbers call.pid (record { abi = call.abi; nr = call.nr; form = form' }) call.payload) (arguments_again call.args args)
    ∙ ap (λ b. cond {A = Result Call ScriptCause} b (Ok (record { pid = call.pid; abi = call.abi; nr = call.nr; args = six_words (without_last_zeros call.args); payload = call.payload })) (Err Words)) (six_at_most call.args f.count)
    ∙ ap (λ args. Ok (record { pid = call.pid; abi = call.abi; nr = call.nr; args = args; payload = call.payload }))
    (six_again call.args f.count)

read_again : (table : Table) (call : Call) (words : List (List ℕ)) → Known table call → Shows table call words
    → call_of table (decimal call.pid ∷ words ++ argument_words call.args) ≡ Ok call
read_again table call words k s =
    ap (λ ws. call_of table (decimal call.pid ∷ ws ++ argument_words call.args)) s.are
    ∙ ap (with_pid table (s.word ∷ s.behind ++ argument_words call.args)) (pid_again call.pid k.written.pid k.held.fits.pid)
    ∙ ap (with_name call.pid (s.behind ++ argument_words call.args)) s.named'
    ∙ ap (with_payload call.pid (record { abi = call.abi; nr = call.nr; form = s.form' })) (s.payload (argument_words call.args))
    ∙ numbers_taken call s.form' k.held.fits

all_shown : (table : Table) (call : Call) (words : List (List ℕ)) → IsCall call → Shows table call words
    → AllByRecursion IsWord (words ++ argument_words call.args)
all_shown table call words f s =
    all_append IsWord words (argument_words call.args) (subst (AllByRecursion IsWord) (sym s.are) s.shown)
    (arguments_shown call.args (recursion_from_All (λ arg. arg < 2 ^ 64) call.args f.args))

pub reads_back : (table : Table) (call : Call) → HasOtherName table → AreOnce (calls_in table call.abi) → AreNamed table → IsHeld call
    → IsWritten table call → call_of table (words_of (call_text table call)) ≡ Ok call
reads_back table call other o n h w =
    let k : Known table call = record { other = other; once = o; named' = n; held = h; written = w } in
    let words = front_words table call in
    let s = shows_by table call (numbered call.nr (calls_in table call.abi)) k refl w.payload in
    ap (call_of table) (split_again (decimal call.pid) (words ++ argument_words call.args) (number_shown call.pid (let small : call.pid < 2 ^ 32 = h.fits.pid in omega (arith, small))) (all_shown table call words h.fits s))
    ∙ read_again table call words k s

pub read_as : (table : Table) (call : Call) (text : List ℕ) → text ≡ call_text table call → HasOtherName table
    → AreOnce (calls_in table call.abi) → IsHeld call → IsReadAs table call text
read_as table call text e other o h n w = ap (λ text. call_of table (words_of text)) e ∙ reads_back table call other o n h w
