-- `rowrun::print_end` is safe: the last text fits; and it is written.
use Rattle.std.proofs.Common.{OnOk, subst}
use Rattle.std.specs.Io.KnownBytes.{Appends}
use Rattle.rowrun.proofs.Put.{text_fits, text_shape, text_first}
use Rattle.rowrun.proofs.print_end.Goals as goal

pub slice_bounds-last-end : goal.slice_bounds-last-end
slice_bounds-last-end g c = let put = c.end-fed.ensures in text_fits _ _ _ put.printed put.out

pub slice_bounds-write_whole-end : goal.slice_bounds-write_whole-end
slice_bounds-write_whole-end g c = let put = c.end-fed.ensures in text_shape _ _ _ put.printed put.out

pub returns : goal.returns
returns g c =
    let put = c.end-fed.ensures in
    let before = g.W.Write.contents c.args.sink.now in
    let after = g.W.Write.contents c.write_whole.new.sink in
    subst (λ t. OnOk c.write_whole.result (Appends before after t)) (text_first _ _ _ put.printed put.out) c.write_whole.ensures
