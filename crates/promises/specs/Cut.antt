-- A block cut into rectangles, each predicted by a call of its own on the output from its own first sample on: document 01, 'Lent tables' and
-- 'What each promise has to say' (demand 3). Assumes nothing.
use Rattle.std.specs.Prelude.{ℕ, ◌+◌, ◌*◌, ◌<◌, ◌≤◌, ◌≡◌, Bool, true, ◌&&◌, cond, List, [], ◌∷◌, ◌++◌, leb, ltb, take, drop}
use Rattle.samples.specs.Call.{Ref, Call, Outcome}
use Rattle.samples.specs.Reach.{SamePlane, Moved}

-- a rectangle of a block: its first row and column there, and the call made for it, whose shape is the rectangle's
pub record Part : Type 0 where
  pub r0 : ℕ
  pub c0 : ℕ
  pub call : Call

abbrev pub part : ℕ → ℕ → Call → Part
part r0 c0 a = record { r0 = r0; c0 = c0; call = a }

-- p is a's reference for a rectangle: the same plane, parted into bands anywhere, started r0 rows and c0 columns on
pub record Onward (a p : Ref) (r0 c0 : ℕ) : Type 0 where
  pub plane : SamePlane p.lent a.lent
  pub from : Moved a.from p.from r0 c0

-- q is a rectangle in a's block, and its call asks for that part of the block: "anything of list 1 only when averaging"
pub record Within (a : Call) (q : Part) : Type 0 where
  pub rows : q.r0 + q.call.shape.h ≤ a.shape.h
  pub cols : q.c0 + q.call.shape.w ≤ a.shape.w
  pub stride : q.call.stride ≡ a.stride
  pub filter : q.call.shape.filter ≡ a.shape.filter
  pub depth : q.call.shape.depth ≡ a.shape.depth
  pub average : q.call.shape.average ≡ a.shape.average
  pub one : Onward a.one q.call.one q.r0 q.c0
  pub two : a.shape.average ≡ true → Onward a.two q.call.two q.r0 q.c0

abbrev pub Each : (Part → Type 0) → List Part → Type 0
Each P [] = Unit
Each P (q ∷ qs) = P q × Each P qs

-- the rectangle has the sample at row r and column c of the block
unfoldable pub has : Part → ℕ → ℕ → Bool
has q r c =
    leb q.r0 r && ltb r (q.r0 + q.call.shape.h) && leb q.c0 c && ltb c (q.c0 + q.call.shape.w)

-- how many of the rectangles have it
unfoldable pub count : List Part → ℕ → ℕ → ℕ
count [] r c = 0
count (q ∷ qs) r c = cond (has q r c) 1 0 + count qs r c

-- rectangles of a's block that have each of its samples at least once
pub record Cover (a : Call) (qs : List Part) : Type 0 where
  pub within : Each (Within a) qs
  pub all : (r c : ℕ) → r < a.shape.h → c < a.shape.w → 0 < count qs r c

-- and exactly once
pub record Tiling (a : Call) (qs : List Part) : Type 0 where
  pub within : Each (Within a) qs
  pub once : (r c : ℕ) → r < a.shape.h → c < a.shape.w → count qs r c ≡ 1

-- "A rectangle of demand 3 gets the output from its own first sample on"
abbrev pub first : ℕ → Part → ℕ
first stride q = q.r0 * stride + q.c0

-- the rectangles' calls were made, in the list's order, on rows that lie `stride` apart, and took the output to last: each has a working room of
-- its own, each did what its contract permits and was accepted
pub data Made (stride : ℕ) : List Part → List ℕ → List ℕ → Type 0 where
  done : {out : List ℕ} → Made stride [] out out
  next : {q : Part} {qs : List Part} {out last : List ℕ} (room got room' : List ℕ)
      → Outcome q.call (drop (first stride q) out) room 0 got room'
      → Made stride qs (take (first stride q) out ++ got) last
      → Made stride (q ∷ qs) out last
