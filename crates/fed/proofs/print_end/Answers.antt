-- `fed::print_end` is safe: the last lines fit.
use mathlib.Core.Path.{sym}
use Prim.Native.Nat.{◌≤◌}
use lib.ListN.{length}
use lib.Seq.{length-take-le}
use Rattle.text.proofs.Written.{put_fits}
use Rattle.fed.proofs.print_end.Goals as goal

pub slice_bounds-line-end : goal.slice_bounds-line-end
slice_bounds-line-end g c = let put = c.end-last.ensures in rw (put.out, put.printed) (put_fits _ _)

pub slice_bounds-write_all-end : goal.slice_bounds-write_all-end
slice_bounds-write_all-end g c =
    let put = c.end-last.ensures in
    let fits : c.end-last.result.printed ≤ length c.end-last.new.out = rw (put.out, put.printed) (put_fits _ _) in
    sym (length-take-le _ _ fits)
