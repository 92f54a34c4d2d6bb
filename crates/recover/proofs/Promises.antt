-- What the entry promises, in the terms of its contract: `recover_2d_prefix` gives back `recovering flat upto p F coll`. Assumes nothing.
use Rattle.std.specs.Prelude.{Option, Some, None, Result, Ok, Err}
use mathlib.Core.Path.{◌≡◌, ap, ◌∙◌}
use mathlib.Core.Logic.{◌≢◌}
use mathlib.Core.List.{List}
use Prim.Native.Nat.{ℕ, ◌/◌, ◌%◌, ◌≤◌, ◌<◌}
use borrow.Author.Tests.{lt-ltb, le-ltb}
use lib.ListN.{length}
use lib.Ieee.{Float}
use Rattle.float.specs.Operators.{when◌then◌else◌}
use Rattle.rows.specs.Constants.{most_rows}
use Rattle.rows.specs.declared.Point.{Point}
use Rattle.rows.specs.declared.Refusal.{Refusal}
use Rattle.rows.specs.declared.Refusal.TheVariants.{Uneven, TooMany, NothingFound, PrefixTooLong}
use Rattle.rows.specs.Rows.{refusal, rows_of}
use Rattle.rows.proofs.Refusals.{refusal_0, refusal_1, refusal_2}
use Rattle.active.specs.declared.Active.{Active}
use Rattle.active.specs.Collector.{held, collected}
use Rattle.step.specs.declared.Frame.{Frame}
use Rattle.step.specs.declared.State.{State}
use Rattle.recover.specs.declared.Recovered.{Recovered}
use Rattle.recover.specs.Recover.{recover, recovered, recovering}

module _ (flat : List Float) (upto : ℕ) (p : Point) (F : Frame) (coll : Option Active) where
  abbrev answer : Result Recovered Refusal
  answer = recovering flat upto p F coll

  abbrev lent : ℕ
  lent = length flat / 3

  -- what comes of recovery from the point and the rows that the caller's collector holds
  abbrev found : Option State
  found = (recover (rows_of flat) F upto (record { at = p; active = held coll })).value

  refuses : {why : Refusal} → refusal 3 (length flat) ≡ Some why → answer ≡ Err why
  unfolding recovering
  refuses e = rw e

  module _ (even : length flat % 3 ≡ 0) (few : lent ≤ most_rows) where
    accepted : refusal 3 (length flat) ≡ None
    accepted = (refusal_0 3 (length flat)).1 (even, few)

    too_long : lent < upto → answer ≡ Err PrefixTooLong
    unfolding recovering when◌then◌else◌
    too_long h = rw (accepted, lt-ltb _ _ h)

    recovers : upto ≤ lent → answer ≡ recovered coll found
    unfolding recovering when◌then◌else◌
    recovers inside = rw (accepted, le-ltb _ _ inside)

  -- Refusals 1, 2, 7 and 6, in that order: each is given where its own case holds and none before it does, and the point with the collector where
  -- none holds.
  pub refuses_in_order :
      (length flat % 3 ≢ 0 → answer ≡ Err Uneven)
      × (length flat % 3 ≡ 0 → most_rows < lent → answer ≡ Err TooMany)
      × (length flat % 3 ≡ 0 → lent ≤ most_rows → lent < upto → answer ≡ Err PrefixTooLong)
      × (length flat % 3 ≡ 0 → lent ≤ most_rows → upto ≤ lent → found ≡ None → answer ≡ Err NothingFound)
      × (length flat % 3 ≡ 0 → lent ≤ most_rows → upto ≤ lent → (s : State) → found ≡ Some s
      → answer ≡ Ok (record { at = s.at; collector = collected coll s.active }))
  unfolding recovered
  refuses_in_order = (
    λ h. refuses ((refusal_1 3 (length flat)).1 h),
    λ even h. refuses ((refusal_2 3 (length flat)).1 (even, h)),
    λ even few h. too_long even few h,
    λ even few inside e. recovers even few inside ∙ ap (recovered coll) e,
    λ even few inside s e. recovers even few inside ∙ ap (recovered coll) e,
  )
