-- Where a text is read, its reader refuses it for want of memory alone.
use Rattle.std.proofs.Common.{◌≡◌, ◌≢◌, true, false, Result, Ok, Err, refl}
use Rattle.toml.specs.Data.{Members, members_have_valid_dates}
use Rattle.toml.specs.declared.ser.error.Error.{Error}
use Rattle.toml.specs.declared.ser.error.Error.TheVariants as of_printing
use Rattle.launcher.specs.call_table.Table as calls
use Rattle.launcher.specs.call_table.declared.causes.CallsError.{CallsError}
use Rattle.launcher.specs.call_table.declared.causes.CallsError.TheVariants as of_calls
use Rattle.launcher.specs.unit_grammar.declared.unit.UnitText.{UnitText}
use Rattle.launcher.specs.unit_grammar.declared.unit.UnitError.{UnitError}
use Rattle.launcher.specs.unit_grammar.declared.unit.UnitError.TheVariants as of_unit
use Rattle.launcher.specs.site_table.Table.{Site}
use Rattle.launcher.specs.site_table.declared.error.SiteError.{SiteError}
use Rattle.launcher.specs.site_table.declared.error.SiteError.TheVariants as of_site

-- an error of another kind would be the answer to the text
other_answer : {T E : Type 0} (wanted : Result T E) (value : T) (error : E) → wanted ≡ Ok value → wanted ≡ Err error → ⊥
other_answer wanted value error read refused = cc

pub memory_of_calls : (wanted : Result calls.Table CallsError) (table : calls.Table) (error : CallsError) → wanted ≡ Ok table
    → (error ≢ of_calls.Memory → wanted ≡ Err error) → error ≡ of_calls.Memory
memory_of_calls wanted table of_calls.Memory read refused = refl
memory_of_calls wanted table of_calls.NotText read refused = absurd (other_answer wanted table of_calls.NotText read (refused (λ same. cc)))
memory_of_calls wanted table (of_calls.Line number cause) read refused =
    absurd (other_answer wanted table (of_calls.Line number cause) read (refused (λ same. cc)))
memory_of_calls wanted table of_calls.NoAbi read refused = absurd (other_answer wanted table of_calls.NoAbi read (refused (λ same. cc)))
memory_of_calls wanted table (of_calls.NoCall name) read refused =
    absurd (other_answer wanted table (of_calls.NoCall name) read (refused (λ same. cc)))

pub memory_of_unit : (wanted : Result UnitText UnitError) (said : UnitText) (error : UnitError) → wanted ≡ Ok said
    → (error ≢ of_unit.Memory → wanted ≡ Err error) → error ≡ of_unit.Memory
memory_of_unit wanted said of_unit.Memory read refused = refl
memory_of_unit wanted said of_unit.NotText read refused = absurd (other_answer wanted said of_unit.NotText read (refused (λ same. cc)))
memory_of_unit wanted said (of_unit.BadHeader number) read refused =
    absurd (other_answer wanted said (of_unit.BadHeader number) read (refused (λ same. cc)))
memory_of_unit wanted said of_unit.TooMany read refused = absurd (other_answer wanted said of_unit.TooMany read (refused (λ same. cc)))

pub memory_of_site : (wanted : Result Site SiteError) (site : Site) (error : SiteError) → wanted ≡ Ok site
    → (error ≢ of_site.Memory → wanted ≡ Err error) → error ≡ of_site.Memory
memory_of_site wanted site of_site.Memory read refused = refl
memory_of_site wanted site of_site.NotToml read refused = absurd (other_answer wanted site of_site.NotToml read (refused (λ same. cc)))
memory_of_site wanted site of_site.Top read refused = absurd (other_answer wanted site of_site.Top read (refused (λ same. cc)))
memory_of_site wanted site of_site.TooMany read refused = absurd (other_answer wanted site of_site.TooMany read (refused (λ same. cc)))
memory_of_site wanted site (of_site.Row number cause) read refused =
    absurd (other_answer wanted site (of_site.Row number cause) read (refused (λ same. cc)))
memory_of_site wanted site (of_site.User number) read refused =
    absurd (other_answer wanted site (of_site.User number) read (refused (λ same. cc)))
memory_of_site wanted site (of_site.Group number) read refused =
    absurd (other_answer wanted site (of_site.Group number) read (refused (λ same. cc)))

-- a tree without dates is printed
pub memory_of_printing : (tree : Members) (error : Error) → (error ≡ of_printing.DateInvalid → members_have_valid_dates tree ≡ false)
    → members_have_valid_dates tree ≡ true → error ≡ of_printing.OutOfMemory
memory_of_printing tree of_printing.OutOfMemory refused dates = refl
memory_of_printing tree of_printing.DateInvalid refused dates = let none = refused refl in cc
