use Rattle.std.proofs.Common.{◌++◌, nat_cmp, rules}
use Rattle.std.specs.Cmp.Lexicographic.{slice_cmp}
use Rattle.std.proofs.lemmas.Fn.{always_returns_same}
use Rattle.abs_path.specs.Paths.{tail_of}
use Rattle.site_table.specs.declared.row.Row.{Row}
use Rattle.site_table.proofs.Finding.{searched}
use Rattle.site_table.proofs.find.search_text.Goals as goal

pub returns : goal.returns
returns c =
    let facts = c.binary_search_by.ensures in
    let text = c.args.front.now ++ c.args.rest.now in
    record {
      searches =
          searched c.args.rows.now text c.binary_search_by.result c.requires.ascending facts.bound
          (facts.position (λ (row : Row). slice_cmp nat_cmp (tail_of row.path) text)
          (always_returns_same _ _ _ (λ a r f called. (search rules, search rules))));
    }
