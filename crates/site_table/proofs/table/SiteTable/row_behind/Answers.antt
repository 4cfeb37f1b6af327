use Rattle.std.proofs.Common.{◌++◌, ◌∙◌, sym}
use Rattle.abs_path.specs.Paths.{parts_of}
use Rattle.site_table.proofs.Found.{row_of_the_place, no_place_no_row}
use Rattle.site_table.proofs.table.SiteTable.row_behind.Goals as goal

pub returns-in-None : goal.returns-in-None
returns-in-None c = record { the_row = sym (no_place_no_row c.args.self.now.rows (c.args.front.now ++ parts_of c.args.rest.now) (sym (c.in-None.ensures.place_of_the_path c.requires))) }

pub returns-in-Some : goal.returns-in-Some
returns-in-Some c = record {
  the_row =
      sym c.row.ensures.row
      ∙ row_of_the_place c.args.self.now.rows (c.args.front.now ++ parts_of c.args.rest.now) c.in-Some.at
      (sym (c.in-Some.ensures.place_of_the_path c.requires));
}
