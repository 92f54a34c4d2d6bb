-- `link::feed` meets its contract.
use mathlib.Core.Path.{refl, sym, ◌∙◌}
use native.Mathlib.Nat.{zero-add}
use native.Mathlib.Omega.{arith}
use Rattle.text.specs.Sizes.{longest_line}
use Rattle.text.specs.Text.{written}
use Rattle.reader.specs.Reader.{state, after_all, texts, fed, said}
use Rattle.portions.proofs.Demands.{refused_by_12, takes_nothing}
use Rattle.link.proofs.Entries.{not_refused, taken_to_end}
use Rattle.link.proofs.feed.Goals as goal

pub returns-then-not-is_listening : goal.returns-then-not-is_listening
unfolding written state after_all texts fed said
returns-then-not-is_listening c =
    let a = c.args in
    let deaf = sym c.is_listening.ensures ∙ c.if-not-is_listening.true in
    rw c.refused.ensures record {
      refusal = sym (refused_by_12 a.link a.head.now deaf);
      taken = sym (takes_nothing a.link a.head.now deaf a.rows.now a.bytes.now);
      link = refl;
      printed = refl;
      head = refl;
      rows = refl;
      out = refl;
    }

pub turn-took-requires : goal.turn-took-requires
unfolding longest_line
turn-took-requires c =
    record { head_value = sym c.is_listening.ensures ∙ c.if-not-is_listening.false; longest_line_in_bounds = omega arith }

pub returns : goal.returns
returns c =
    let a = c.args in
    let hears = sym c.is_listening.ensures ∙ c.if-not-is_listening.false in
    let took = c.turn-took.ensures in
    record {
      refusal = not_refused a.link a.head.now hears;
      taken = took.taken ∙ taken_to_end a.link a.head.now hears a.rows.now a.bytes.now;
      link = took.link;
      printed = took.end ∙ zero-add _;
      head = took.head;
      rows = took.rows;
      out = took.out;
    }
