-- Two records that begin alike: where all the bytes that are held are the same, and the floats of the rows, so is what comes of them.
use mathlib.Core.Path.{◌≡◌, refl, sym, ap, ap₂, ◌∙◌}
use mathlib.Core.Logic.{◌≢◌}
use mathlib.Core.Bool.{true}
use mathlib.Core.List.{List, ◌∷◌, ◌++◌}
use Prim.Native.Nat.{ℕ, zero, suc, ◌+◌, ◌*◌, ◌≤◌}
use native.Mathlib.Omega.{arith}
use lib.ListN.{length, take, drop}
use lib.Seq.{take_all, take-append-le}
use lib.Ieee.{Float, binary64, of_bits}
use Rattle.std.specs.Prelude.{Option, Some, None, Err}
use Rattle.rows.specs.declared.Refusal.{Refusal}
use Rattle.rows.specs.declared.Refusal.TheVariants.{TooMany}
use Rattle.solve.specs.declared.Unsolved.TheVariants.{Refused}
use Rattle.solve.specs.Solve.{Ended, Outcome, solve, unless_refused}
use Rattle.record.specs.Sizes.{header_bytes, field_bytes, rows_at}
use Rattle.record.specs.Bytes.{float, floats}
use Rattle.record.specs.Record.{body_length, kind, size, normalize_byte, task, allowance, float_count, row_floats, refusal, answered, outcome}
use Rattle.record.proofs.Bytes.{length-floats}
use Rattle.record.proofs.Refusals.{solved-length, solved-without, refused_alike}
use Rattle.reader.specs.Reader.{kept, keeps_rows}
use Rattle.reader.proofs.Kept.{refusal_by_header, by_kept, kept_between, rows-kept}
use Rattle.reader.proofs.Alike.{alike_less, alike_later, same_field, same_header, same_told}

-- ---- two lists that begin alike

module _ (n : ℕ) (a b : List ℕ) (alike : take n a ≡ take n b) where
  same_float : (at : ℕ) → at + 8 ≤ n → float at a ≡ float at b
  unfolding float
  same_float at h = ap (of_bits binary64) (same_field n a b alike 8 at h)

  same_float_count : header_bytes ≤ n → float_count a ≡ float_count b
  unfolding float_count
  same_float_count h = rw (same_header n a b alike h).0

  same_fields : rows_at ≤ n → (task a ≡ task b) × (allowance a ≡ allowance b) × (normalize_byte a ≡ normalize_byte b)
  unfolding task allowance normalize_byte rows_at
  same_fields h = (
    rw (
      same_float 6 (omega arith),
      same_float 14 (omega arith),
      same_float 22 (omega arith),
      same_float 30 (omega arith),
      same_field n a b alike 8 38 (omega arith),
      same_field n a b alike 1 54 (omega arith),
    ),
    same_field n a b alike 8 46 (omega arith),
    same_field n a b alike 1 54 (omega arith),
  )

same_floats : (k n : ℕ) (a b : List ℕ) → take n a ≡ take n b → 8 * k ≤ n → floats k a ≡ floats k b
unfolding floats
same_floats zero n a b alike h = refl
same_floats (suc k) n a b alike h =
    let rest = same_floats k (8 * k) (drop 8 a) (drop 8 b) (alike_later n a b alike (8 * k) 8 (omega arith)) (omega arith) in
    ap₂ {C = List Float} (λ x xs. x ∷ xs) (same_float n a b alike 0 (omega arith)) rest

-- ---- what comes of them

-- the floats of the rows are no more than they are
all_rows : (a : List ℕ) → take (float_count a) (row_floats a) ≡ row_floats a
unfolding row_floats
all_rows a = take_all (float_count a) (floats (float_count a) (drop rows_at a)) (omega (arith, length-floats (float_count a) (drop rows_at a)))

-- the refusal, by the normalise byte too
abbrev refused_by : List ℕ → Option Refusal
refused_by a = refusal (kind a) (body_length a) (normalize_byte a)

outcome_of : (why : Option Refusal) (rows rows' : List Float) (e e' : Ended (List Float)) → e.outcome ≡ e'.outcome
    → (unless_refused why rows e).outcome ≡ (unless_refused why rows' e').outcome
outcome_of None rows rows' e e' same = same
outcome_of (Some why) rows rows' e e' same = refl

-- by the floats that are solved
abbrev comes_to : List ℕ → List Float → Outcome
comes_to a rows = (unless_refused (refused_by a) rows (solve (task a) (allowance a) rows)).outcome

by_solved : (a : List ℕ) (rows : List Float) → (answered a rows).outcome ≡ comes_to a (take (float_count a) rows)
unfolding answered
by_solved a rows = outcome_of (refused_by a) rows (take (float_count a) rows) _ _ refl

-- one that its header refuses is refused, and leaves what is lent as it was
pub refused : (a : List ℕ) (rows : List Float) → refusal_by_header a ≢ None
    → (why : Refusal) × (refused_by a ≡ Some why) × (answered a rows ≡ record { outcome = Err (Refused why); rows = rows })
unfolding answered
refused a rows some = go (refused_by a) refl
  where
    go : (given : Option Refusal) → refused_by a ≡ given
        → (why : Refusal) × (refused_by a ≡ Some why) × (answered a rows ≡ record { outcome = Err (Refused why); rows = rows })
    go None e = absurd (some (solved-without (kind a) (body_length a) (normalize_byte a) e))
    go (Some why) e = (why, e, rw e)

module _ (a b : List ℕ) (rows : List Float) where
  solved_alike : take (float_count b) rows ≡ row_floats b → take rows_at a ≡ take rows_at b → (answered a rows).outcome ≡ outcome b
  unfolding outcome rows_at
  solved_alike same alike =
      let header = same_header rows_at a b alike (omega arith) in
      let fields = same_fields rows_at a b alike (omega arith) in
      let alone : comes_to a (take (float_count a) rows) ≡ comes_to b (row_floats b)
      = rw (same_float_count rows_at a b alike (omega arith), same, comes_to, header.0, header.1, fields.0, fields.1, fields.2) in
      by_solved a rows ∙ alone ∙ sym (by_solved b (row_floats b) ∙ ap (comes_to b) (all_rows b))

  module _ (alike : take header_bytes a ≡ take header_bytes b) where
    abbrev header : (body_length a ≡ body_length b) × (kind a ≡ kind b)
    header = same_header header_bytes a b alike (omega arith)

    same_refusal : refusal_by_header a ≡ refusal_by_header b
    same_refusal = rw (header.0, header.1)

    both_refused : refusal_by_header b ≢ None → refused_by a ≡ refused_by b → (answered a rows).outcome ≡ outcome b
    unfolding outcome
    both_refused some same =
        let in-a = refused a rows (λ none. some (sym same_refusal ∙ none)) in
        let in-b = refused b (row_floats b) some in
        let why : in-a.0 ≡ in-b.0 = let told = sym in-a.1 ∙ same ∙ in-b.1 in cc in
        ap (λ (e : Ended (List Float)). e.outcome) in-a.2
        ∙ ap (λ (why : Refusal). Err (Refused why)) why
        ∙ sym (ap (λ (e : Ended (List Float)). e.outcome) in-b.2)

    other_alike : refusal_by_header b ≢ None → refusal_by_header b ≢ Some TooMany → (answered a rows).outcome ≡ outcome b
    other_alike some other =
        let of-a =
        refused_alike (kind a) (body_length a) (normalize_byte a) (λ e. some (sym same_refusal ∙ e)) (λ e. other (sym same_refusal ∙ e)) in
        let of-b = refused_alike (kind b) (body_length b) (normalize_byte b) some other in
        both_refused some (of-a ∙ same_refusal ∙ sym of-b)

  many_alike : refusal_by_header b ≡ Some TooMany → take rows_at a ≡ take rows_at b → (answered a rows).outcome ≡ outcome b
  unfolding rows_at
  many_alike e alike =
      let six = alike_less rows_at a b alike header_bytes (omega arith) in
      both_refused six (λ none. absurd (cc)) (rw ((header six).0, (header six).1, (same_fields rows_at a b alike (omega arith)).2))

  pub same_outcome : (keeps_rows b ≡ true → take (float_count b) rows ≡ row_floats b) → take (kept b) a ≡ take (kept b) b
      → (answered a rows).outcome ≡ outcome b
  unfolding keeps_rows
  same_outcome same =
      by_kept b (λ k. take k a ≡ take k b → (answered a rows).outcome ≡ outcome b)
      (λ e alike. solved_alike (same (rw e)) alike)
      many_alike
      (λ some other alike. other_alike alike some other)

-- ---- more bytes change nothing that the first ones tell

module _ (bytes more : List ℕ) where
  pub more_told : header_bytes ≤ length bytes
      → (size (bytes ++ more) ≡ size bytes) × (kept (bytes ++ more) ≡ kept bytes) × (keeps_rows (bytes ++ more) ≡ keeps_rows bytes)
  more_told there = same_told header_bytes (bytes ++ more) bytes (take-append-le header_bytes bytes more there) (omega arith)

  module _ (all : size bytes ≤ length bytes) where
    more_rows : keeps_rows bytes ≡ true → take (float_count bytes) (row_floats (bytes ++ more)) ≡ row_floats bytes
    unfolding row_floats float_count size header_bytes field_bytes rows_at
    more_rows keeps =
        let n = float_count bytes in
        let solved = solved-length (kind bytes) (body_length bytes) 0 (rows-kept bytes keeps) in
        let alike = take-append-le (size bytes) bytes more all in
        let count = same_float_count (size bytes) (bytes ++ more) bytes alike (omega arith) in
        let rest = alike_later (size bytes) (bytes ++ more) bytes alike (8 * n) rows_at (omega arith) in
        ap (λ k. take k (row_floats (bytes ++ more))) (sym count)
        ∙ all_rows (bytes ++ more)
        ∙ ap (λ k. floats k (drop rows_at (bytes ++ more))) count
        ∙ same_floats n (8 * n) (drop rows_at (bytes ++ more)) (drop rows_at bytes) rest (omega arith)

    pub more_outcome : outcome (bytes ++ more) ≡ outcome bytes
    unfolding outcome
    more_outcome =
        let alike = take-append-le (kept bytes) bytes more (omega (arith, (kept_between bytes).2)) in
        same_outcome (bytes ++ more) bytes (row_floats (bytes ++ more)) more_rows alike
