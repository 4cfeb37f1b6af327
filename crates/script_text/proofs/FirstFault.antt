-- What one more line does to what has been read.
use Rattle.std.proofs.Common.{◌≡◌, ℕ, ◌+◌, ◌<◌, ◌≤◌, Bool, true, false, cond, Some, None, Ok, Err, List, [], ◌∷◌, ◌++◌, length, refl, sym}
use Rattle.std.proofs.Common.{ap, ◌∙◌, arith}
use Rattle.std.specs.Prelude.{nat_lt, slice_get}
use Rattle.std.specs.List.{filter_map, cons_option, enumerate_from}
use Rattle.std.specs.Result.{result_ok}
use Rattle.std.proofs.lemmas.Bool.Decides.{nat_tests}
use Rattle.std.proofs.lemmas.List.{length-append}
use Rattle.std.proofs.lemmas.List.Elements.{filter_map-append}
use Rattle.kernel_model.specs.text_forms.line_text.Lines.{Line}
use Rattle.kernel_model.specs.call_table.Table.{Table}
use Rattle.kernel_model.specs.declared.kernel_calls.call.Call.{Call}
use Rattle.script_text.specs.Progress.{Adds, HasRead, ReadsLine, ReadsScript}
use Rattle.script_text.specs.Scripts.{most_calls, line_call, fault_by, fault_at, fault_of, calls_of, unless_fault, script_of_lines}
use Rattle.script_text.specs.declared.error.ScriptError.{ScriptError}
use Rattle.script_text.specs.declared.error.ScriptError.TheVariants.{NotText, Line as AtLine, TooMany, Memory}

numbered-append : {X : Type 0} (n : ℕ) (xs ys : List X) → enumerate_from n (xs ++ ys)
    ≡ enumerate_from n xs ++ enumerate_from (n + length xs) ys
numbered-append n [] ys = ap (λ k. enumerate_from k ys) (omega arith)
numbered-append n (x ∷ xs) ys =
    let same : n + 1 + length xs ≡ n + length (x ∷ xs) = omega arith in
    ap (λ rest. (n, x) ∷ rest) (numbered-append (n + 1) xs ys) ∙ ap (λ k. (n, x) ∷ (enumerate_from (n + 1) xs ++ enumerate_from k ys)) same

first-append : (xs ys : List ScriptError) → slice_get xs 0 ≡ None → slice_get (xs ++ ys) 0 ≡ slice_get ys 0
first-append [] ys e = refl
first-append (x ∷ xs) ys e = cc

faults_behind : (table : Table) (front rest : List Line) → fault_of table front ≡ None
    → fault_of table (front ++ rest) ≡ slice_get (filter_map (fault_at table) (enumerate_from (length front) rest)) 0
faults_behind table front rest none =
    let same : 0 + length front ≡ length front = omega arith in
    ap (λ faults. slice_get faults 0)
    (ap (filter_map (fault_at table)) (numbered-append 0 front rest ∙ ap (λ k. enumerate_from 0 front ++ enumerate_from k rest) same)
    ∙ filter_map-append (fault_at table) (enumerate_from 0 front) (enumerate_from (length front) rest))
    ∙ first-append (filter_map (fault_at table) (enumerate_from 0 front))
    (filter_map (fault_at table) (enumerate_from (length front) rest)) none

first_fault : (table : Table) (front : List Line) (line : Line) (rest : List Line) (fault : ScriptError) → fault_of table front ≡ None
    → fault_at table (length front, line) ≡ Some fault → fault_of table (front ++ line ∷ rest) ≡ Some fault
first_fault table front line rest fault none e =
    faults_behind table front (line ∷ rest) none
    ∙ ap (λ o. slice_get (cons_option o (filter_map (fault_at table) (enumerate_from (length front + 1) rest))) 0) e

refuses : (table : Table) (lines front : List Line) (line : Line) (rest : List Line) (fault : ScriptError) → lines ≡ front ++ line ∷ rest
    → fault_of table front ≡ None → fault_at table (length front, line) ≡ Some fault → script_of_lines table lines ≡ Err fault
refuses table lines front line rest fault split none e = ap (λ o. unless_fault o (calls_of table lines))
    (ap (fault_of table) split ∙ first_fault table front line rest fault none e)

-- a line that gives no call
pub stops : (table : Table) (lines front : List Line) (line : Line) (rest : List Line) (made : List Call) (error : ScriptError)
    → lines ≡ front ++ line ∷ rest → HasRead table front made
    → ReadsLine line.number (line_call table line) (Err error) → ReadsScript (script_of_lines table lines) (Err error)
stops table lines front line rest made Memory split h r = tt
stops table lines front line rest made NotText split h r = absurd r
stops table lines front line rest made TooMany split h r = absurd r
stops table lines front line rest made (AtLine number cause) split h r =
    refuses table lines front line rest (AtLine number cause) split h.faultless
    (ap (fault_by (length front) line) r.1 ∙ ap (λ n. Some (AtLine n cause)) (sym r.0))

room : (made : ℕ) (line : Line) (call : Call) (b : Bool) → nat_lt made most_calls ≡ b
    → fault_by made line (Ok call) ≡ cond b None (Some TooMany)
room made line call b e = ap (λ b. cond b None (Some TooMany)) e

-- a call more than there may be
pub stops_full : (table : Table) (lines front : List Line) (line : Line) (rest : List Line) (made new : List Call) (call : Call)
    (error : ScriptError) → lines ≡ front ++ line ∷ rest → HasRead table front made
    → line_call table line ≡ Ok call → Adds made call new (Err error) → ReadsScript (script_of_lines table lines) (Err error)
stops_full table lines front line rest made new call Memory split h r a = tt
stops_full table lines front line rest made new call NotText split h r a = absurd a
stops_full table lines front line rest made new call (AtLine number cause) split h r a = absurd a
stops_full table lines front line rest made new call TooMany split h r a =
    let same : length made ≡ length front = h.one_each in
    refuses table lines front line rest TooMany split h.faultless (ap (fault_by (length front) line) r ∙ room (length front) line call false (let many : most_calls ≤ length made = a in grind (arith, nat_tests, same, many)))

-- a call more
pub reads_more : (table : Table) (front : List Line) (line : Line) (made new : List Call) (call : Call) → HasRead table front made
    → line_call table line ≡ Ok call → length made < most_calls → new ≡ made ++ call ∷ []
    → HasRead table (front ++ line ∷ []) new
reads_more table front line made new call h r few n =
    let same : length made ≡ length front = h.one_each in
    record {
      faultless =
          faults_behind table front (line ∷ []) h.faultless
          ∙ ap (λ o. slice_get (cons_option o []) 0) (ap (fault_by (length front) line) r
          ∙ room (length front) line call true (grind (arith, nat_tests, same, few)));
      read = n ∙ ap (λ ls. ls ++ call ∷ []) h.read ∙ ap (λ o. calls_of table front ++ cons_option o []) (sym (ap result_ok r))
          ∙ sym (filter_map-append (λ line. result_ok (line_call table line)) front (line ∷ []));
      one_each = ap length n ∙ length-append made (call ∷ []) ∙ ap (λ k. k + 1) same ∙ sym (length-append front (line ∷ []));
    }
