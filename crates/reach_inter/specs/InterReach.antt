-- How far a whole prediction can reach in the plane of one list's reference: document 02, Req 11, for the call that finds the start and the steps
-- by itself. Assumes nothing.
use Rattle.std.specs.Prelude.{Bool, ◌&&◌, cond, List, [], ◌∷◌, eqb, ℤ}
use Rattle.base.specs.Answer.{Row, row, answer, BLOCK, GRID, SIZE, START, VECTOR}
use Rattle.base.specs.Number.{within}
use Rattle.vectors.specs.BlockMvs.{BlockMvs, legal_list}
use Rattle.vectors.specs.Select.{list_number}
use Rattle.vectors.specs.Clamp.{on_axis}
use Rattle.vectors.specs.Scale.{placed}
use Rattle.vectors.specs.declared.inter_mv.BlockGrid.{BlockGrid}
use Rattle.judgement.specs.Whole.{extent, stepping, allowed_ref, block_ok}
use Rattle.judgement.specs.declared.judging.InterPredArgs.{InterPredArgs}
use Rattle.judgement.specs.declared.judging.FrameGeom.{FrameGeom}
use Rattle.judgement.specs.declared.judging.RefGeom.{RefGeom}
use Rattle.reach.specs.Rectangle.{readable, nothing}
use Rattle.reach.specs.declared.reaching.Reach.{Reach}

-- a reference of which only its frame's size is told
abbrev pub of_size : ℤ → ℤ → RefGeom
of_size width height = record { frame_width = width; frame_height = height; stride = 0; upper_rows = 0 }

-- those rows of the whole prediction that need no buffer, filter or depth, 5 and 9 of the one list that is asked for
abbrev pub inter_rows : InterPredArgs → BlockGrid → FrameGeom → BlockMvs → Bool → ℤ → ℤ → List Row
inter_rows b g f mvs second width height =
    row BLOCK (block_ok b g f && within 1 64 b.w && within 1 64 b.h)
    ∷ row GRID (on_axis g.mi_rows g.mi_row && on_axis g.mi_cols g.mi_col)
    ∷ row SIZE (allowed_ref f (of_size width height))
    ∷ row START (placed b.x && placed b.y)
    ∷ row VECTOR (legal_list mvs (list_number second))
    ∷ []

-- the rectangle of the whole block, w by h, from where the list leads, in a reference's plane of that size
abbrev pub readable_by : InterPredArgs → BlockGrid → FrameGeom → BlockMvs → Bool → ℤ → ℤ → Reach
readable_by b g f mvs second width height =
    readable b.w b.h
    (extent b.plane f.subsampling_x width)
    (extent b.plane f.subsampling_y height)
    (stepping b g f mvs second (of_size width height))

-- the call's result: the rectangle, or zeros beside the number
unfoldable pub inter_reach : InterPredArgs → BlockGrid → FrameGeom → BlockMvs → Bool → ℤ → ℤ → Reach
inter_reach b g f mvs second width height =
    let no = answer (inter_rows b g f mvs second width height) in
    cond (eqb no 0) (readable_by b g f mvs second width height) (nothing no)
