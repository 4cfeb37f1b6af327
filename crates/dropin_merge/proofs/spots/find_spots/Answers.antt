use Rattle.std.proofs.Common.{length, refl}
use Rattle.std.proofs.lemmas.Option.{slice_get_read}
use Rattle.dropin_merge.proofs.Left.{drop_read}
use Rattle.dropin_merge.proofs.Spotting.{files_more}
use Rattle.dropin_merge.proofs.spots.find_spots.Goals as goal

pub loop-number-preserved : goal.loop-number-preserved
loop-number-preserved c =
    files_more c.args.files.now c.loop-number.buckets.items c.add_file.new.buckets.items c.loop-number.number c.index-files-number.result
    (drop_read c.args.files.now c.loop-number.number c.index-files-number.result c.loop-number-test.true c.index-files-number.is)
    c.loop-number.invariant
    (λ ones holds. c.in_ok-add_file.ensures c.args.files.now ones
    (slice_get_read c.args.files.now (length c.args.files.now) c.loop-number.number c.index-files-number.result refl
    c.loop-number-test.true c.index-files-number.is) holds)
