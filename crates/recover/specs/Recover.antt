-- `recover_2d_prefix`, as the solve uses it and as an entry. Assumes nothing.
use Rattle.std.specs.Prelude.{ℕ, ◌/◌, Option, Some, None, Result, Ok, Err, List, ltb, length, take, Float, true}
use Rattle.std.specs.Float.{inf}
use Rattle.float.specs.Operators.{when◌then◌else◌, ◌⊖◌, ◌≈◌}
use Rattle.readings.specs.Readings.{Counted, pure, ◌>>=◌}
use Rattle.rows.specs.declared.Row.{Row}
use Rattle.rows.specs.declared.Point.{Point}
use Rattle.rows.specs.declared.Refusal.{Refusal}
use Rattle.rows.specs.declared.Refusal.TheVariants.{NothingFound, PrefixTooLong}
use Rattle.rows.specs.Refusals.{refused_or}
use Rattle.rows.specs.Rows.{refusal, rows_of}
use Rattle.active.specs.declared.Active.{Active}
use Rattle.step.specs.declared.Frame.{Frame}
use Rattle.step.specs.declared.State.{State}
use Rattle.active.specs.Collector.{held, collected}
use Rattle.project.specs.Project.{project}
use Rattle.rebuild.specs.Rebuild.{rebuild}
use Rattle.recover.specs.declared.Recovered.{Recovered}

-- where candidates start from, and the level below which none counts
unfoldable pub seed_of : Point → Option Float → Point
seed_of p None = p
seed_of p (Some x) = record { x = x; y = p.y }

unfoldable pub floor_of : Frame → Point → Option Float → Float
floor_of F p None = inf true
floor_of F p (Some x) = p.y ⊖ F.epsilon

-- the point as it was, with its active rows, where projection did not move it
unfoldable pub unmoved : State → Option Float → Option State
unmoved s None = None
unmoved s (Some x) = when x ≈ s.at.x then Some s else None

unfoldable pub rebuilt : State → Option Float → Option State → Option State
rebuilt s fixed None = unmoved s fixed
rebuilt s fixed (Some t) = Some t

unfoldable pub on_boundaries : List Row → Frame → ℕ → State → Option Float → Counted (Option State)
on_boundaries R F upto s fixed = do
  found ← rebuild R F upto (seed_of s.at fixed) (floor_of F s.at fixed) (take upto R) 0 None
  pure (rebuilt s fixed found)

-- the rows before `upto` recovered: on another boundary, or else at the point as it was
unfoldable pub recover : List Row → Frame → ℕ → State → Counted (Option State)
recover R F upto s = project R upto s.at F.epsilon >>= on_boundaries R F upto s

-- ---- the entry

unfoldable pub recovered : Option Active → Option State → Result Recovered Refusal
recovered coll None = Err NothingFound
recovered coll (Some s) = Ok (record { at = s.at; collector = collected coll s.active })

-- refusals 1, 2, 7 and 6, in that order
unfoldable pub recovering : List Float → ℕ → Point → Frame → Option Active → Result Recovered Refusal
recovering flat upto p F coll =
    let found = (recover (rows_of flat) F upto (record { at = p; active = held coll })).value in
    refused_or (refusal 3 (length flat)) (when ltb (length flat / 3) upto then Err PrefixTooLong else recovered coll found)
