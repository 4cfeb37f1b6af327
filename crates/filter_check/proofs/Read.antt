-- The result of reading, answer by answer.
use Rattle.std.proofs.Common.{◌≡◌, ℕ, Bool, true, false, cond, List, Option, Some, None, Result, Ok, Err, refl, sym, ap, ◌∙◌, subst}
use Rattle.std.specs.Prelude.{◌≢◌, IfErr}
use Rattle.std.specs.Result.{IsErrAnd}
use Rattle.seccomp_compile.specs.bpf_code.declared.machine.Insn.{Insn}
use Rattle.seccomp_compile.specs.text_forms.line_text.Lines.{is_text, text_of}
use Rattle.filter_check.specs.filter_lines.Adding.{IsRefusedLine}
use Rattle.filter_check.specs.filter_lines.Reading.{ReadsLines, other_line, no_memory_lines}
use Rattle.filter_check.specs.declared.filter_lines.error.FileError.{FileError}
use Rattle.filter_check.specs.declared.filter_lines.error.FileError.TheVariants.{NotText, Digits, Program, Memory}

-- the bytes are text, and the text has these bytes
pub is_some_text : (bytes text : List ℕ) → text_of bytes ≡ Some text → (is_text bytes ≡ true) × (text ≡ bytes)
unfolding text_of
is_some_text bytes text e = by (is_text bytes) refl e
  where
    by : (t : Bool) → is_text bytes ≡ t → cond t (Some bytes) None ≡ Some text → (is_text bytes ≡ true) × (text ≡ bytes)
    by true h e = (h, (let same : bytes ≡ text = cc in sym same))
    by false h e = cc

pub is_no_text : (bytes : List ℕ) → text_of bytes ≡ None → is_text bytes ≡ false
unfolding text_of
is_no_text bytes e = by (is_text bytes) refl e
  where
    by : (t : Bool) → is_text bytes ≡ t → cond t (Some bytes) None ≡ None → is_text bytes ≡ false
    by true h e = cc
    by false h e = h

-- lines that are refused
line_refused : (lines : List (List ℕ)) (error : FileError) → IsRefusedLine lines error → ReadsLines lines (Err error)
line_refused lines NotText is = absurd is
line_refused lines (Digits number) is = other_line number is
line_refused lines (Program error) is = absurd is
line_refused lines Memory is = no_memory_lines

pub lines_refused : (lines : List (List ℕ)) (error : FileError) (result : Result (List Insn) FileError) → IsErrAnd result (λ e. e ≡ error)
    → IsRefusedLine lines error → ReadsLines lines result
lines_refused lines error (Ok code) same is = absurd same
lines_refused lines error (Err own) same is = subst (λ e. ReadsLines lines (Err e)) (sym same) (line_refused lines error is)

pub out_of_memory : (lines : List (List ℕ)) (result : Result (List Insn) FileError) → IsErrAnd result (λ e. e ≡ Memory)
    → ReadsLines lines result
out_of_memory lines (Ok code) same = absurd same
out_of_memory lines (Err own) same = subst (λ e. ReadsLines lines (Err e)) (sym same) no_memory_lines
