-- `link::end` meets its contract.
use mathlib.Core.Path.{refl, sym, ◌∙◌}
use native.Mathlib.Nat.{zero-add}
use native.Mathlib.Omega.{arith}
use Rattle.text.specs.Sizes.{longest_line, longest_end}
use Rattle.text.specs.Text.{written}
use Rattle.reader.specs.Reader.{most_bytes, closed}
use Rattle.reader.proofs.Listening.{was_listening}
use Rattle.portions.proofs.Demands.{refused_by_12, no_last-text, stays_ended}
use Rattle.link.proofs.Entries.{not_refused, last-text, is_closed}
use Rattle.link.proofs.end.Goals as goal

pub returns-then-not-is_listening : goal.returns-then-not-is_listening
unfolding written
returns-then-not-is_listening c =
    let a = c.args in
    let deaf = sym c.is_listening.ensures ∙ c.if-not-is_listening.true in
    rw (c.refused.ensures, no_last-text a.link a.head.now deaf) record {
      refusal = sym (refused_by_12 a.link a.head.now deaf);
      taken = refl;
      link = sym (stays_ended a.link a.head.now deaf);
      printed = refl;
      out = refl;
    }

pub finish-printed-requires : goal.finish-printed-requires
unfolding longest_line longest_end most_bytes
finish-printed-requires c =
    let a = c.args in
    let hears = sym c.is_listening.ensures ∙ c.if-not-is_listening.false in
    record { lines_bound = omega (arith, (was_listening a.link a.head.now hears).1); longest_end_in_bounds = omega arith }

pub returns : goal.returns
unfolding closed
returns c =
    let a = c.args in
    let hears = sym c.is_listening.ensures ∙ c.if-not-is_listening.false in
    let put = c.finish-printed.ensures in
    rw (← last-text a.link a.head.now hears) record {
      refusal = not_refused a.link a.head.now hears;
      taken = refl;
      link = is_closed a.link a.head.now hears;
      printed = put.end ∙ zero-add _;
      out = put.out;
    }
