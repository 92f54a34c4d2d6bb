-- Laws of text written into lent bytes: all of it copied is all of it written, and two texts, one behind the other, are one.
use mathlib.Core.Path.{◌≡◌, sym, ap, ◌∙◌}
use mathlib.Core.List.{List, ◌++◌, append_assoc}
use Prim.Native.Nat.{ℕ, ◌+◌, ◌≤◌}
use native.Mathlib.Nat.{add_assoc}
use native.Mathlib.Omega.{arith}
use lib.ListN.{length, take, drop, length-append}
use lib.Seq.{length-take-le, take_at, drop_at, drop-drop, take-length, paste}
use Rattle.text.specs.Text.{written}

pub copied_all : (out : List ℕ) (at : ℕ) (text : List ℕ) → paste out at text (length text) ≡ written out at text
unfolding written
copied_all out at text = rw take-length

module _ (out : List ℕ) (at : ℕ) (s t : List ℕ) (fits : at + length s + length t ≤ length out) where
  front_length : length (take at out ++ s) ≡ at + length s
  front_length =
      let before : at ≤ length out = omega arith in
      simp length-append (omega (arith, length-take-le at out before))

  written-written : written (written out at s) (at + length s) t ≡ written out at (s ++ t)
  unfolding written
  written-written =
      let k = at + length s in
      let mid = take at out ++ s ++ drop k out in
      let front : take k mid ≡ take at out ++ s = take_at (take at out ++ s) (drop k out) k front_length in
      let back : drop (k + length t) mid ≡ drop (k + length t) out =
      sym (drop-drop (length t) k mid) ∙ ap (drop (length t)) (drop_at (take at out ++ s) (drop k out) k front_length) ∙ drop-drop (length t) k out in
      rw (front, back, length-append, append_assoc (take at out) s t, add_assoc)

-- what a function that puts a text into `out` ensures of what it leaves and answers
abbrev pub Put : List ℕ → ℕ → List ℕ → List ℕ → ℕ → Type 0
Put out at text left end = (end ≡ at + length text) × (left ≡ written out at text)

pub then_put : (out : List ℕ) (at : ℕ) (s t : List ℕ) {mid left : List ℕ} {m end : ℕ} → at + length s + length t ≤ length out
    → Put out at s mid m → Put mid m t left end → Put out at (s ++ t) left end
then_put out at s t fits first second = (simp length-append (omega arith), second.1 ∙ rw (first.1, first.0) (written-written out at s t fits))

pub then_two_put : (out : List ℕ) (at : ℕ) (s t u : List ℕ) {mid more left : List ℕ} {m k end : ℕ} → at + length s + length t + length u ≤ length out
    → Put out at s mid m → Put mid m t more k → Put more k u left end → Put out at (s ++ t ++ u) left end
then_two_put out at s t u fits first second third =
    then_put out at (s ++ t) u (simp length-append (omega arith)) (then_put out at s t (omega arith) first second) third

-- the same, as the two clauses of such a function's contract have it
abbrev pub Ensured : List ℕ → ℕ → List ℕ → List ℕ → ℕ → Type 0
Ensured bytes at text left after = record { end : after ≡ at + length text; out : left ≡ written bytes at text }

pub then_ensured : (bytes : List ℕ) (at : ℕ) (s t : List ℕ) {mid left : List ℕ} {m after : ℕ} → at + length s + length t ≤ length bytes
    → Ensured bytes at s mid m → Ensured mid m t left after → Ensured bytes at (s ++ t) left after
then_ensured bytes at s t fits first second =
    let put = then_put bytes at s t fits (first.end, first.out) (second.end, second.out) in record { end = put.0; out = put.1 }

pub then_two_ensured : (bytes : List ℕ) (at : ℕ) (s t u : List ℕ) {mid more left : List ℕ} {m k after : ℕ}
    → at + length s + length t + length u ≤ length bytes
    → Ensured bytes at s mid m → Ensured mid m t more k → Ensured more k u left after → Ensured bytes at (s ++ t ++ u) left after
then_two_ensured bytes at s t u fits first second third =
    let put = then_two_put bytes at s t u fits (first.end, first.out) (second.end, second.out) (third.end, third.out) in
    record { end = put.0; out = put.1 }

-- a text at the start of lent bytes is no longer than they are
pub put_fits : (out text : List ℕ) → length text ≤ length (written out 0 text)
unfolding written
put_fits out text = simp length-append (omega arith)
