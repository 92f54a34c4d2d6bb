-- The contracts of the entries leave no choice: whatever two results and exit states they allow of one call, the results are equal, and so is what the
-- lent memory is left with.
use mathlib.Core.Path.{◌≡◌, sym, ◌∙◌}
use mathlib.Core.List.{List}
use Prim.Native.Nat.{ℕ}
use lib.Ieee.{Float}
use lib.ListN.{length}
use Rattle.float.proofs.One.{One}
use Rattle.text.specs.Text.{written}
use Rattle.reader.specs.declared.Link.{Link}
use Rattle.reader.specs.Reader.{fed, said}
use Rattle.link.specs.declared.Fed.{Fed}
use Rattle.link.proofs.start.Kinds as start
use Rattle.link.proofs.start.Reads as start-contract
use Rattle.link.proofs.feed.Kinds as feed
use Rattle.link.proofs.feed.Reads as feed-contract
use Rattle.link.proofs.end.Kinds as end
use Rattle.link.proofs.end.Reads as end-contract
use Rattle.link.proofs.fill.Kinds as fill
use Rattle.link.proofs.fill.Reads as fill-contract

pub start_one : One 0 start.ps start.r start-contract.Post (λ κs z e. z)
start_one κs args z z' e e' h k = h ∙ sym k

-- ---- `feed` and `fill`, which differ in how many bytes they take

-- the answer, and in lent memory what stands before the rows, the rows, and the text
abbrev pub Left : Type 0
Left = Fed × List ℕ × List Float × List ℕ

-- by the refusal and by how many bytes should be taken
module _ (number n : ℕ) (link : Link) (head : List ℕ) (rows : List Float) (bytes out : List ℕ) where
  abbrev Says : Left → Type 0
  Says (f, head', rows', out') =
      let all = fed link head rows f.taken bytes in
      let text = said link head rows f.taken bytes in
      (f.refusal ≡ number)
      × ((f.taken ≡ n)
      × ((f.link ≡ all.link) × ((f.printed ≡ length text) × ((head' ≡ all.head) × ((rows' ≡ all.rows) × (out' ≡ written out 0 text))))))

  abbrev only : Left
  only =
      let all = fed link head rows n bytes in
      let text = said link head rows n bytes in
      (record { refusal = number; taken = n; printed = length text; link = all.link }, all.head, all.rows, written out 0 text)

  is_only : (left : Left) → Says left → left ≡ only
  is_only (f, head', rows', out') h =
      let left : Left = (record { refusal = f.refusal; taken = f.taken; printed = f.printed; link = f.link }, head', rows', out') in
      let rest = h.1.1 in
      let same : left ≡ only = rw (h.0, rest.0, rest.1.0, rest.1.1.0, rest.1.1.1.0, rest.1.1.1.1, h.1.0) in
      same

  pub fed_alike : (left left' : Left) → Says left → Says left' → left ≡ left'
  fed_alike left left' h k = is_only left h ∙ sym (is_only left' k)

pub feed_one : One 4 feed.ps feed.r feed-contract.Post {A = Left} (λ κs z e. (z, e.1.0.now, e.1.1.0.now, e.1.1.1.1.0.now))
feed_one κs args z z' e e' h k = fed_alike _ _ _ _ _ _ _ _ _ h k

pub fill_one : One 4 fill.ps fill.r fill-contract.Post {A = Left} (λ κs z e. (z, e.1.0.now, e.1.1.0.now, e.1.1.1.1.0.now))
fill_one κs args z z' e e' h k = fed_alike _ _ _ _ _ _ _ _ _ h k

-- ---- `end`: the answer and the text

module _ (number : ℕ) (link : Link) (text out : List ℕ) where
  abbrev Ends : Fed × List ℕ → Type 0
  Ends (f, out') = (f.refusal ≡ number) × ((f.taken ≡ 0) × ((f.link ≡ link) × ((f.printed ≡ length text) × (out' ≡ written out 0 text))))

  abbrev last : Fed × List ℕ
  last = (record { refusal = number; taken = 0; printed = length text; link = link }, written out 0 text)

  is_last : (left : Fed × List ℕ) → Ends left → left ≡ last
  is_last (f, out') h =
      let left : Fed × List ℕ = (record { refusal = f.refusal; taken = f.taken; printed = f.printed; link = f.link }, out') in
      let same : left ≡ last = rw (h.0, h.1.0, h.1.1.0, h.1.1.1.0, h.1.1.1.1) in
      same

  pub ends_alike : (left left' : Fed × List ℕ) → Ends left → Ends left' → left ≡ left'
  ends_alike left left' h k = is_last left h ∙ sym (is_last left' k)

pub end_one : One 2 end.ps end.r end-contract.Post {A = Fed × List ℕ} (λ κs z e. (z, e.1.1.0.now))
end_one κs args z z' e e' h k = ends_alike _ _ _ _ _ _ h k
