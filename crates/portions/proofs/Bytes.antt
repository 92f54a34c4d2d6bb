-- Bytes, one after the other: what those of two portions leave and print.
use mathlib.Core.Path.{◌≡◌, refl}
use mathlib.Core.List.{List, [], ◌∷◌, ◌++◌, append_assoc}
use Prim.Native.Nat.{ℕ}
use Rattle.reader.specs.Reader.{State, after, after_all, texts}

pub after_all-append : (s : State) (xs ys : List ℕ) → after_all s (xs ++ ys) ≡ after_all (after_all s xs) ys
unfolding after_all
after_all-append s [] ys = refl
after_all-append s (b ∷ xs) ys = after_all-append (after s b) xs ys

pub texts-append : (s : State) (xs ys : List ℕ) → texts s (xs ++ ys) ≡ texts s xs ++ texts (after_all s xs) ys
unfolding after_all texts
texts-append s [] ys = refl
texts-append s (b ∷ xs) ys = rw (append_assoc, texts-append (after s b) xs ys)
