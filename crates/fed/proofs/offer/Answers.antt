-- `fed::offer` is safe, and takes no more than there is.
use mathlib.Core.Path.{sym}
use Prim.Native.Nat.{◌≤◌}
use lib.ListN.{length}
use lib.Seq.{length-take-le}
use Rattle.text.proofs.Written.{put_fits}
use Rattle.portions.proofs.Taken.{feeds_no_more}
use Rattle.fed.proofs.offer.Goals as goal

pub slice_bounds-line-end : goal.slice_bounds-line-end
slice_bounds-line-end g c = let put = c.feed-fed.ensures in rw (put.out, put.printed) (put_fits _ _)

pub slice_bounds-write_all-end : goal.slice_bounds-write_all-end
slice_bounds-write_all-end g c =
    let put = c.feed-fed.ensures in
    let fits : c.feed-fed.result.printed ≤ length c.feed-fed.new.out = rw (put.out, put.printed) (put_fits _ _) in
    sym (length-take-le _ _ fits)

pub returns : goal.returns
returns g c = let a = c.args in rw c.feed-fed.ensures.taken (feeds_no_more a.link a.head.now a.rows.now a.bytes.now)
