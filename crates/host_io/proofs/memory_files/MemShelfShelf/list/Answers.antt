use Rattle.std.proofs.Common.{◌≡◌, map, length, ◌∙◌, ap, sym, arith, rules}
use Rattle.std.proofs.lemmas.List.{length-map}
use Rattle.std.proofs.lemmas.Bool.Decides.{nat_tests}
use Rattle.std.specs.Prelude.{string_bytes}
use Rattle.host_io.specs.Files.{names_in}
use Rattle.host_io.specs.MemoryFiles.{file_of}
use Rattle.host_io.proofs.FolderNames.{lists_names}
use Rattle.host_io.proofs.memory_files.MemShelfShelf.list.Goals as goal

pub returns-clause-answers_by_the_files : goal.returns-clause-answers_by_the_files
returns-clause-answers_by_the_files c files agree =
    let own : map file_of c.deref.result.now ≡ c.args.self.now.files =
    ap (λ items. map file_of items) c.deref.ensures.value ∙ ap (λ shelf. shelf.files) c.self.view_is in
    let same : files ≡ c.args.self.now.files = agree.its_own ∙ search rules in
    let is : map string_bytes c.in-Ok.names.items ≡ names_in files c.args.dir.now =
    c.in-Ok.ensures ∙ ap (λ files. names_in files c.args.dir.now) (own ∙ sym same) in
    let count : length (names_in files c.args.dir.now) ≡ length c.in-Ok.names.items = ap length (sym is) ∙ length-map c.in-Ok.names.items string_bytes in
    lists_names files c.args.dir.now c.in-Ok.names agree.is_a_map is (grind (arith, nat_tests, count)) (grind (arith, count))
