-- A call of the whole prediction, what it is handed and what it is told: the standard's 8.5.2, steps 2 to 4, and document 01, 'Answer numbers' and
-- 'Lent tables'. What it writes stands above, in `prediction`. Assumes nothing.
use Rattle.std.specs.Prelude.{ℕ, ◌+◌, ◌-◌, ◌/◌, min, Bool, ◌&&◌, cond, List, [], ◌∷◌, leb, eqb, ℤ, pos}
use Rattle.base.specs.Answer.{Row, row, answer, BLOCK, GRID, FILTER, SIZE, START, SHORT, VECTOR}
use Rattle.base.specs.Number.{within}
use Rattle.base.specs.Position.{to_n}
use Rattle.vectors.specs.BlockMvs.{BlockMvs, legal_list}
use Rattle.vectors.specs.Select.{chosen, list_number, partnered}
use Rattle.vectors.specs.Clamp.{clamp_mv, on_axis}
use Rattle.vectors.specs.Scale.{scale_mv, usable, placed}
use Rattle.vectors.specs.declared.inter_mv.BlockGrid.{BlockGrid}
use Rattle.vectors.specs.declared.inter_mv.ScaleGeom.{ScaleGeom}
use Rattle.planes.specs.Plane.{Lent, lent, holds, fits}
use Rattle.blocks.specs.Block.{kind, also}
use Rattle.blocks.specs.declared.block.BlockShape.{BlockShape}
use Rattle.base.specs.declared.units.Stepping.{Stepping}
use Rattle.planes.specs.declared.plane.PlaneGeom.{PlaneGeom}
use Rattle.judgement.specs.declared.judging.InterPredArgs.{InterPredArgs}
use Rattle.judgement.specs.declared.judging.FrameGeom.{FrameGeom}
use Rattle.judgement.specs.declared.judging.RefGeom.{RefGeom}
use Rattle.judgement.specs.declared.judging.DestGeom.{DestGeom}

-- a reference as it is lent: its numbers, and its plane in two bands
pub record Source : Type 0 where
  pub geom : RefGeom
  pub upper : List ℕ
  pub lower : List ℕ

abbrev pub source : RefGeom → List ℕ → List ℕ → Source
source g upper lower = record { geom = g; upper = upper; lower = lower }

-- the arguments but the destination's samples and the working room
pub record Whole : Type 0 where
  pub args : InterPredArgs
  pub grid : BlockGrid
  pub frame : FrameGeom
  pub mvs : BlockMvs
  pub one : Source
  pub two : Source
  pub dest : DestGeom

abbrev pub whole : InterPredArgs → BlockGrid → FrameGeom → BlockMvs → Source → Source → DestGeom → Whole
whole args grid frame mvs one two dest =
    record { args = args; grid = grid; frame = frame; mvs = mvs; one = one; two = two; dest = dest }

-- one side of a reference's plane: "a reference's chroma size, where halved, is rounded up"
unfoldable pub extent : ℕ → Bool → ℤ → ℕ
extent plane sub frame = cond (eqb plane 0) (to_n frame) (cond sub ((to_n frame + 1) / 2) (to_n frame))

abbrev pub plane_geom : InterPredArgs → FrameGeom → RefGeom → PlaneGeom
plane_geom b f g =
    record {
      width = pos (extent b.plane f.subsampling_x g.frame_width);
      height = pos (extent b.plane f.subsampling_y g.frame_height);
      stride = g.stride;
      upper_rows = g.upper_rows;
    }

abbrev pub plane_of : Whole → Source → Lent
plane_of a s = lent (plane_geom a.args a.frame s.geom) s.upper s.lower

-- the sizes that the scaling of 8.5.2.3 asks for
abbrev pub scale_geom : FrameGeom → RefGeom → ScaleGeom
scale_geom f g =
    record {
      ref_frame_width = g.frame_width;
      ref_frame_height = g.frame_height;
      frame_width = f.width;
      frame_height = f.height;
      subsampling_x = f.subsampling_x;
      subsampling_y = f.subsampling_y;
    }

-- 8.5.2, steps 2 to 4 for one list: its vector selected, clamped and scaled
unfoldable pub stepping : InterPredArgs → BlockGrid → FrameGeom → BlockMvs → Bool → RefGeom → Stepping
stepping b g f mvs second s =
    let sx = f.subsampling_x in
    let sy = f.subsampling_y in
    let v = chosen mvs (list_number second) b.plane g.mi_size b.block sx sy in
    let p = (clamp_mv g v b.plane sx sy).mv in
    let q = scale_mv (scale_geom f s) b.plane b.x b.y p in
    record { start_x = q.start_x; start_y = q.start_y; step_x = q.step_x; step_y = q.step_y }

abbrev pub stepping_of : Whole → Bool → Source → Stepping
stepping_of a second s = stepping a.args a.grid a.frame a.mvs second s.geom

-- "It writes only the part of the block inside the destination": of n samples from place at on, those before the end
abbrev pub count_inside : ℤ → ℕ → ℕ → ℕ
count_inside at n end = min n (end - to_n at)

abbrev pub shape_in : InterPredArgs → DestGeom → BlockShape
shape_in b d =
    record {
      w = count_inside b.x b.w d.width;
      h = count_inside b.y b.h d.height;
      filter = b.filter;
      depth = b.depth;
      average = b.average;
    }

abbrev pub shape_of : Whole → BlockShape
shape_of a = shape_in a.args a.dest

-- one reference of row 5: both dimensions usable, that of the frame among them
unfoldable pub allowed_ref : FrameGeom → RefGeom → Bool
allowed_ref f g = usable g.frame_width f.width && usable g.frame_height f.height

-- row 7: "the destination plane, whose stride is its width (width and height 1..65536, else 7)"
unfoldable pub dest_fits : DestGeom → ℕ → Bool
dest_fits d n = within 1 65536 d.width && within 1 65536 d.height && holds d.height d.width d.width n

-- row 1: "block size above 12", "sub-block not -1..3 in the search or 0..3 elsewhere", "plane above 2", "a partner sub-block that doesn't exist"
unfoldable pub block_ok : InterPredArgs → BlockGrid → FrameGeom → Bool
block_ok b g f =
    leb g.mi_size 12 && leb b.block 3 && leb b.plane 2
    && partnered b.plane g.mi_size b.block f.subsampling_x f.subsampling_y

-- rows 1, 2, 4, 5, 6, 7 and 9, "anything of list 1 only when averaging", for a destination of n samples and a room of m
abbrev pub predict_rows : Whole → ℕ → ℕ → List Row
predict_rows a n m =
    row BLOCK (block_ok a.args a.grid a.frame && within 1 64 a.args.w && within 1 64 a.args.h)
    ∷ row GRID (on_axis a.grid.mi_rows a.grid.mi_row && on_axis a.grid.mi_cols a.grid.mi_col)
    ∷ row FILTER (kind (shape_of a))
    ∷ row SIZE (allowed_ref a.frame a.one.geom && also a.args.average (allowed_ref a.frame a.two.geom))
    ∷ row START (placed a.args.x && placed a.args.y)
    ∷ row SHORT (fits (plane_of a a.one) && also a.args.average (fits (plane_of a a.two)) && dest_fits a.dest n && leb 8576 m)
    ∷ row VECTOR (legal_list a.mvs 0 && also a.args.average (legal_list a.mvs 1))
    ∷ []

unfoldable pub number_of : Whole → ℕ → ℕ → ℕ
number_of a n m = answer (predict_rows a n m)
