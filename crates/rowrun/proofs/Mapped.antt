-- A result whose error `map_err` turns into another: an `Ok` stays what it was.
use mathlib.Core.Path.{◌≡◌}
use Rattle.std.proofs.Common.{Ok, Err, OnOk, is_ok}
use Rattle.std.specs.declared.result.Result.{Result}
use Rattle.std.specs.Result.{MatchResult}

-- by what `map_err` ensures of its answer `s`
pub was_ok : {T E D : Type 0} (r : Result T E) (s : Result T D) (P : E → Type 0) (n : T) → MatchResult r (λ x. s ≡ Ok x) P → is_ok s ≡ is_ok r
    → s ≡ Ok n → r ≡ Ok n
was_ok (Ok x) s P n same ok e = cc
was_ok (Err x) s P n same ok e = let impossible = rw e at ok in cc

pub on_ok_mapped : {T E D P Q : Type 0} (r : Result T E) (s : Result T D) → is_ok s ≡ is_ok r → (P → Q) → OnOk r P → OnOk s Q
on_ok_mapped (Ok x) (Ok y) ok f p = f p
on_ok_mapped (Err x) (Ok y) ok f p = absurd (cc)
on_ok_mapped r (Err y) ok f p = tt
