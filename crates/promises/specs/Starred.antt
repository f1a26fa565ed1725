-- The starred examples of document 01, 'Examples on both sides', as one table about the definitions: a row a starred line, in the document's
-- order and with its words, what a definition gives beside what the document says. Assumes nothing.
use Rattle.std.specs.Prelude.{ℕ, ◌≡◌, true, false, List, [], ◌∷◌, ◌++◌, ℤ, pos, negsuc}
use mathlib.Core.List as L
use Rattle.base.specs.Example.{Example, example}
use Rattle.base.specs.Vector.{sixteenth, plane_mv}
use Rattle.base.specs.declared.units.Mv.{Mv}
use Rattle.records.specs.Tables.{tables}
use Rattle.candidates.specs.Search.{context}
use Rattle.records.specs.declared.geometry.MvRefGeometry.{MvRefGeometry}
use Rattle.vectors.specs.Select.{halved, quartered}
use Rattle.lists.specs.MvRef.{clamp_part, sub_list}
use Rattle.vectors.specs.Scale.{scale_mv}
use Rattle.vectors.specs.declared.inter_mv.ScaledMv.{ScaledMv}
use Rattle.blocks.specs.Sample.{blend}
use Rattle.planes.specs.Plane.{lent}
use Rattle.samples.specs.Call.{ref, from_ref}

-- "Halving: -3, -2, -1, 0, 1, 2, 3 give -2, -1, -1, 0, 1, 1, 2."
unfoldable pub halving : Example
halving =
    example
    (L.map halved (negsuc 2 ∷ negsuc 1 ∷ negsuc 0 ∷ pos 0 ∷ pos 1 ∷ pos 2 ∷ pos 3 ∷ []))
    (negsuc 1 ∷ negsuc 0 ∷ negsuc 0 ∷ pos 0 ∷ pos 1 ∷ pos 1 ∷ pos 2 ∷ [])

-- "Quartering: -6, -2, -1, 1, 2, 5, 6 give -2, -1, 0, 0, 1, 1, 2."
unfoldable pub quartering : Example
quartering =
    example
    (L.map quartered (negsuc 5 ∷ negsuc 1 ∷ negsuc 0 ∷ pos 1 ∷ pos 2 ∷ pos 5 ∷ pos 6 ∷ []))
    (negsuc 1 ∷ negsuc 0 ∷ pos 0 ∷ pos 0 ∷ pos 1 ∷ pos 1 ∷ pos 2 ∷ [])

-- "mi_rows 1, height 8, mi_row 0, border 128: 0 gives -320; -200 gives -128."
unfoldable pub ends_crossed : Example
ends_crossed = example (L.map (clamp_part (pos 128) (pos 1) (pos 8) (pos 0)) (pos 0 ∷ negsuc 199 ∷ [])) (negsuc 319 ∷ negsuc 127 ∷ [])

-- "mi_rows 8, height 8, mi_row 0, border 128: 200 gives 128; 128 stays."
unfoldable pub held_high : Example
held_high = example (L.map (clamp_part (pos 128) (pos 8) (pos 8) (pos 0)) (pos 200 ∷ pos 128 ∷ [])) (pos 128 ∷ pos 128 ∷ [])

-- an 8x8 block at a row and column of two by two cells
abbrev cell : ℤ → ℤ → MvRefGeometry
cell row col =
    record {
      mi_row = row;
      mi_col = col;
      mi_rows = pos 2;
      mi_cols = pos 2;
      mi_size = 3;
      mi_col_start = pos 0;
      mi_col_end = pos 2;
    }

-- the context at such a block, where the cell above the last one has mode m and the cell to its left mode n
abbrev context_of : ℤ → ℤ → ℕ → ℕ → ℤ
context_of row col m n = pos (context (tables (0 ∷ m ∷ n ∷ 0 ∷ []) [] [] [] [] []) (cell row col))

-- places one and two of the last cell are the one above it and the one to its left
abbrev both : ℕ → ℕ → ℤ
both = context_of (pos 1) (pos 1)

-- "Modes of places one and two: 12 and 12 give context 0; 12 and 10, 1; 12 and 13, 3; 13 and 13, 4; 0 and 13, 5; 5 and 5, 6. None inside: 2."
unfoldable pub modes : Example
modes =
    example
    (both 12 12 ∷ both 12 10 ∷ both 12 13 ∷ both 13 13 ∷ both 0 13 ∷ both 5 5 ∷ context_of (pos 0) (pos 0) 12 12 ∷ [])
    (pos 0 ∷ pos 1 ∷ pos 3 ∷ pos 4 ∷ pos 5 ∷ pos 6 ∷ pos 2 ∷ [])

abbrev parts : Mv → List ℤ
parts v = v.row.0 ∷ v.col.0 ∷ []

-- "Sub-block 3, block vectors and search pair all equal to c: c and zero.", for every c
unfoldable pub sub_three : Mv → Example
sub_three c =
    let list = sub_list 3 (c ∷ c ∷ c ∷ c ∷ []) c c in
    example (parts list.first ++ parts list.second) (parts c ++ (pos 0 ∷ pos 0 ∷ []))

-- the scaling of a zero vector at luma column x, for a square reference and a square frame
abbrev scaled : ℤ → ℤ → ℤ → ScaledMv
scaled reference frame x =
    scale_mv
    (record {
      ref_frame_width = reference;
      ref_frame_height = reference;
      frame_width = frame;
      frame_height = frame;
      subsampling_x = false;
      subsampling_y = false;
    })
    0 x (pos 0) (plane_mv (pos 0) (pos 0))

abbrev answer_and_step : ℤ → ℤ → List ℤ
answer_and_step reference frame = let s = scaled reference frame (pos 0) in pos s.answer ∷ s.step_x.0 ∷ []

-- "Reference 200, frame 100: step 32. 199: step 31. 1 to 16: step 1. 201 to 100 and 1 to 17: refusal 5."
unfoldable pub steps : Example
steps =
    example
    (answer_and_step (pos 200) (pos 100) ++ (answer_and_step (pos 199) (pos 100) ++ (answer_and_step (pos 1) (pos 16)
    ++ (answer_and_step (pos 201) (pos 100) ++ answer_and_step (pos 1) (pos 17)))))
    (pos 0 ∷ pos 32 ∷ pos 0 ∷ pos 31 ∷ pos 0 ∷ pos 1 ∷ pos 5 ∷ pos 0 ∷ pos 5 ∷ pos 0 ∷ [])

-- the sample at column c of a block that starts at `start` and steps by `step` in a plane of one row of n samples
abbrev along : ℕ → ℕ → List ℕ → ℤ → ℤ → ℕ → ℤ
along filter n samples start step c =
    pos
    (from_ref
    (record { w = 2; h = 1; filter = filter; depth = 8; average = false })
    (ref (lent (record { width = pos n; height = pos 1; stride = n; upper_rows = 0 }) [] samples)
    (record { start_x = sixteenth start; start_y = sixteenth (pos 0); step_x = sixteenth step; step_y = sixteenth (pos 16) }))
    0 c)

-- "One row 10, 20; filter 3, start 8, step 16, two wide: 15, 20. Start -8, one wide: 10."
unfoldable pub one_row : Example
one_row =
    let at = along 3 2 (10 ∷ 20 ∷ []) in
    example (at (pos 8) (pos 16) 0 ∷ at (pos 8) (pos 16) 1 ∷ at (negsuc 7) (pos 16) 0 ∷ []) (pos 15 ∷ pos 20 ∷ pos 10 ∷ [])

-- "Row 1, 2, 3, 4, 5; start 0, step 32, two wide: 1, 3.", by each of the four filters
unfoldable pub every_second : Example
every_second =
    let at : ℕ → ℕ → ℤ = λ f c. along f 5 (1 ∷ 2 ∷ 3 ∷ 4 ∷ 5 ∷ []) (pos 0) (pos 32) c in
    example
    (at 0 0 ∷ at 0 1 ∷ at 1 0 ∷ at 1 1 ∷ at 2 0 ∷ at 2 1 ∷ at 3 0 ∷ at 3 1 ∷ [])
    (pos 1 ∷ pos 3 ∷ pos 1 ∷ pos 3 ∷ pos 1 ∷ pos 3 ∷ pos 1 ∷ pos 3 ∷ [])

-- "Average of 3 and 4: 4."
unfoldable pub average : Example
average = example (pos (blend true 3 4) ∷ []) (pos 4 ∷ [])

-- "Depth 8, sample 300, start 0: 255 (the Rust's copy: 300).", by each of the four filters
unfoldable pub above_depth : Example
above_depth =
    let at : ℕ → ℤ = λ f. along f 1 (300 ∷ []) (pos 0) (pos 16) 0 in
    example (at 0 ∷ at 1 ∷ at 2 ∷ at 3 ∷ []) (pos 255 ∷ pos 255 ∷ pos 255 ∷ pos 255 ∷ [])

-- "Unscaled luma x 9000, zero vector: start 144,000."
unfoldable pub far : Example
far = let s = scaled (pos 9999) (pos 9999) (pos 9000) in example (pos s.answer ∷ s.start_x.0 ∷ []) (pos 0 ∷ pos 144000 ∷ [])

unfoldable pub starred_rows : Mv → List Example
starred_rows c =
    halving ∷ quartering ∷ ends_crossed ∷ held_high ∷ modes ∷ sub_three c ∷ steps ∷ one_row ∷ every_second ∷ average ∷ above_depth ∷ far ∷ []

-- each row gives what the document says
abbrev pub Right : List Example → Type 0
Right [] = Unit
Right (e ∷ rows) = (e.gives ≡ e.says) × Right rows
