-- `text::put_hex` meets its contract. The loop's invariant: the first i digits are copied, and what is left gives the others.
use mathlib.Core.Path.{◌≡◌, refl, ◌∙◌}
use native.Mathlib.Omega.{arith}
use native.Mathlib.Numerals.{add-one}
use borrow.Author.Rules.{rules}
use lib.ListN.{length}
use lib.Seq.{paste-zero, paste-suc}
use Rattle.text.specs.Text.{hex}
use Rattle.text.proofs.Written.{copied_all}
use Rattle.text.proofs.Hex.{hex-length, next_digit, next_rest}
use Rattle.text.proofs.put_hex.Goals as goal

pub loop-i-init : goal.loop-i-init
unfolding hex
loop-i-init c = let a = c.args in (search rules, paste-zero a.out.now a.at (hex a.n), refl)

pub loop-i-preserved : goal.loop-i-preserved
loop-i-preserved c =
    let l = c.loop-i in
    let a = c.args in
    let copied = paste-suc a.out.now a.at (hex a.n) l.i 0 (omega arith) (omega (arith, hex-length a.n)) in
    let digit = next_digit a.n l.rest l.i (omega arith) l.invariant.2 in (
      omega arith,
      rw (l.invariant.1, add-one l.i, c.glyph.ensures, ← digit) copied,
      next_rest a.n l.rest l.i (omega arith) l.invariant.2,
    )

pub returns-clause-end : goal.returns-clause-end
returns-clause-end c = omega (arith, hex-length c.args.n)

pub returns-clause-out : goal.returns-clause-out
returns-clause-out c =
    let l = c.loop-i in
    let a = c.args in
    let all : l.i ≡ length (hex a.n) = omega (arith, hex-length a.n) in
    l.invariant.1 ∙ rw all (copied_all a.out.now a.at (hex a.n))
