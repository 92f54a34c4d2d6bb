-- The entry, case by case. The readings that it has left are more than recovery takes.
use Rattle.std.specs.Prelude.{Option, Some, None, Result, Ok, Err}
use Rattle.std.specs.Option.{ok_or}
use Rattle.std.specs.Result.{result_unwrap_or}
use mathlib.Core.Path.{◌≡◌, sym, ap, ◌∙◌}
use mathlib.Core.List.{List}
use Prim.Native.Nat.{ℕ, ◌-◌, ◌/◌, ◌≤◌, ◌<◌}
use native.Mathlib.Omega.{arith}
use borrow.Author.Tests.{lt-ltb, le-ltb}
use lib.ListN.{length}
use lib.Ieee.{Float}
use Rattle.float.specs.Operators.{when◌then◌else◌}
use Rattle.readings.specs.Readings.{Counted, Paid, paid, within}
use Rattle.readings.proofs.Laws.{within_fits}
use Rattle.rows.specs.declared.Point.{Point}
use Rattle.rows.specs.declared.Refusal.{Refusal}
use Rattle.rows.specs.declared.Refusal.TheVariants.{NothingFound, PrefixTooLong}
use Rattle.rows.specs.Refusals.{unless}
use Rattle.rows.specs.Rows.{refusal, rows_of}
use Rattle.rows.proofs.Lengths.{length-rows_of}
use Rattle.rows.proofs.Refusals.{taken, was_taken, was_refused}
use Rattle.active.specs.declared.Active.{Active}
use Rattle.active.specs.Collector.{held, collected}
use Rattle.step.specs.declared.Frame.{Frame}
use Rattle.step.specs.declared.State.{State}
use Rattle.recover.specs.declared.Recovered.{Recovered}
use Rattle.recover.specs.Recover.{recover, recovered, recovering}
use Rattle.recover.proofs.Count.{recover_fits}

-- the readings that the entry has left, as many as a u64 counts
abbrev most : ℕ
most = 18446744073709551615

-- what the code makes of a point that recovery found, or of none
nothing : (coll : Option Active) (found : Option State) {why : Refusal} → ok_or found NothingFound ≡ Err why → recovered coll found ≡ Err why
unfolding recovered
nothing coll None {why} h = let same : NothingFound ≡ why = cc in ap Err same
nothing coll (Some t) h = absurd (cc)

something : (coll : Option Active) (found : Option State) {t : State} → ok_or found NothingFound ≡ Ok t
    → recovered coll found ≡ Ok (record { at = t.at; collector = collected coll t.active })
unfolding recovered
something coll None h = absurd (cc)
something coll (Some s) {t} h = let same : s ≡ t = cc in rw same

module _ (flat : List Float) (upto : ℕ) (p : Point) (F : Frame) (coll : Option Active) where
  abbrev entry : Result Recovered Refusal
  entry = recovering flat upto p F coll

  abbrev start : State
  start = record { at = p; active = held coll }

  module _ {count : Result ℕ Refusal} (counting : count ≡ unless (refusal 3 (length flat)) (length flat / 3)) where
    pub entry_refuses : {why : Refusal} → count ≡ Err why → Err why ≡ entry
    unfolding recovering
    entry_refuses e = rw (was_refused _ _ (sym counting ∙ e))

    module _ {n : ℕ} (accepted : count ≡ Ok n) where
      was : (refusal 3 (length flat) ≡ None) × (length flat / 3 ≡ n)
      was = was_taken _ (sym counting ∙ accepted)

      pub prefix_too_long : n < upto → Err PrefixTooLong ≡ entry
      unfolding recovering when◌then◌else◌
      prefix_too_long h = rw (was.0, was.1, lt-ltb _ _ h)

      module _ (inside : upto ≤ n) {begun : State} (begins : begun ≡ start)
          {answer : Paid (Option State)} (call : answer ≡ within most (recover (rows_of flat) F upto begun))
          {got : Option State × ℕ} (taken_out : got ≡ result_unwrap_or answer (None, 0)) where
        abbrev recovery : Counted (Option State)
        recovery = recover (rows_of flat) F upto start

        never_spent : recovery.readings ≤ most
        never_spent = let few = (taken 3 (length flat) was.0).1 in omega (arith, recover_fits (rows_of flat) F upto start (rw length-rows_of few))

        found : got.0 ≡ recovery.value
        found =
            let answered : answer ≡ paid recovery.value (most - recovery.readings) = (rw begins at call) ∙ within_fits most recovery never_spent in
            ap (λ (p : Option State × ℕ). p.0) (taken_out ∙ ap (λ (a : Paid (Option State)). result_unwrap_or a (None, 0)) answered)

        comes : recovered coll got.0 ≡ entry
        unfolding recovering when◌then◌else◌
        comes = rw (was.0, was.1, le-ltb _ _ inside) (ap (recovered coll) found)

        pub entry_fails : {why : Refusal} → ok_or got.0 NothingFound ≡ Err why → Err why ≡ entry
        entry_fails h = sym (nothing coll got.0 h) ∙ comes

        pub entry_finds : {t : State} → ok_or got.0 NothingFound ≡ Ok t → Ok (record { at = t.at; collector = collected coll t.active }) ≡ entry
        entry_finds h = sym (something coll got.0 h) ∙ comes
