-- `text::spell` meets its contract. The loop's invariant: the digits of what is left, and behind them those spelled, are the number's.
use mathlib.Core.Path.{◌≡◌}
use Prim.Native.Nat.{◌+◌, ◌*◌, ◌-◌, ◌%◌, ◌<◌}
use native.Mathlib.Omega.{arith}
use native.Mathlib.Numerals.{add-one}
use borrow.Author.Rules.{rules}
use lib.ListN.{length-set}
use Rattle.text.specs.Sizes.{longest_decimal}
use Rattle.text.proofs.Decimal.{none_spelled, place_left, one_more_spelled, all_spelled}
use Rattle.text.proofs.spell.Goals as goal

pub loop-rest-init : goal.loop-rest-init
unfolding longest_decimal
loop-rest-init c =
    let a = c.args in
    (search rules, search rules, search rules, omega arith, none_spelled a.n a.digits.now (omega arith))

pub loop-rest-preserved : goal.loop-rest-preserved
loop-rest-preserved c =
    let next = c.tenth-next in
    let l = c.loop-rest in
    let a = c.args in
    let left : 0 < l.at = place_left l.rest l.at (omega arith) (omega arith) in
    let fits = rw (add-one l.at) at l.invariant.3 in
    let back : l.at - 1 + 1 ≡ l.at = omega arith in
    let last : l.rest - 10 * next.result ≡ l.rest % 10 = omega arith in
    let spelled = one_more_spelled a.n l.rest l.at l.digits (omega arith) l.invariant.4 (omega arith) in
    (omega arith, simp length-set (omega arith), omega arith, rw back (omega arith), rw (back, last, next.ensures) spelled)

pub returns-clause-digits : goal.returns-clause-digits
unfolding longest_decimal
returns-clause-digits c =
    let l = c.loop-rest in
    let a = c.args in
    all_spelled a.n l.rest l.at l.digits (omega arith) l.invariant.4 (omega arith)
