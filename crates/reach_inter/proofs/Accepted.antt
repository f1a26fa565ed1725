-- What each row of the table says of an accepted call, and what a call gives whose tests pass. Assumes nothing.
use mathlib.Core.Path.{◌≡◌, sym, ap, ◌∙◌}
use mathlib.Core.Bool.{Bool, true, ◌&&◌}
use mathlib.Core.List.{[]}
use Prim.Native.Nat.{ℕ, ◌≤◌}
use lib.ListN.{get_or}
use lib.IntN.{ℤ, pos}
use Rattle.base.specs.Answer.{unless, answer}
use Rattle.base.specs.Number.{between, within}
use Rattle.base.specs.Refused.{number}
use Rattle.base.specs.declared.refusal.Refusal.{Refusal}
use Rattle.base.specs.declared.units.Stepping.{Stepping}
use Rattle.base.proofs.Answered.{unless_zero}
use Rattle.base.proofs.Numbered.{not_zero}
use Rattle.base.proofs.Tests.{and_both, and_three, within_both}
use Rattle.vectors.specs.BlockMvs.{BlockMvs}
use Rattle.vectors.specs.Select.{list_number}
use Rattle.vectors.specs.declared.inter_mv.BlockGrid.{BlockGrid}
use Rattle.planes.specs.Plane.{sized}
use Rattle.blocks.proofs.Facts.{from_one}
use Rattle.judgement.specs.Whole.{extent, stepping, block_ok}
use Rattle.judgement.specs.Chain.{Lead, lead}
use Rattle.judgement.specs.declared.judging.InterPredArgs.{InterPredArgs}
use Rattle.judgement.specs.declared.judging.FrameGeom.{FrameGeom}
use Rattle.judgement.proofs.Joined.{ref_sized}
use Rattle.judgement.proofs.Accepted.{Looked, leads, starts_taken}
use Rattle.blocks.specs.Block.{starts}
use Rattle.reach.specs.Rectangle.{readable, nothing}
use Rattle.reach_inter.specs.Chain.{refusal}
use Rattle.reach_inter.proofs.Joined.{joined}
use Rattle.reach_inter.specs.InterReach.{of_size, inter_rows, readable_by, inter_reach}

module _ (b : InterPredArgs) (g : BlockGrid) (f : FrameGeom) (mvs : BlockMvs) (second : Bool) (x y : ℤ) where
  pub record Accepted : Type 0 where
    pub look : Looked b g f mvs second (of_size x y)
    pub w : (1 ≤ b.w) × (b.w ≤ 64)
    pub h : (1 ≤ b.h) × (b.h ≤ 64)
    pub width : 1 ≤ extent b.plane f.subsampling_x x
    pub height : 1 ≤ extent b.plane f.subsampling_y y

  pub accepted : answer (inter_rows b g f mvs second x y) ≡ 0 → Accepted
  unfolding sized
  accepted e =
      let r1 = unless_zero 0 _ _ e in
      let r2 = unless_zero 1 _ _ r1.1 in
      let r5 = unless_zero 4 _ _ r2.1 in
      let r6 = unless_zero 5 _ _ r5.1 in
      let r9 = unless_zero 8 _ _ r6.1 in
      let block = and_three (block_ok b g f) (within 1 64 b.w) (within 1 64 b.h) r1.0 in
      let X = extent b.plane f.subsampling_x x in
      let Y = extent b.plane f.subsampling_y y in
      let size = and_both (between (pos 1) (pos 65536) (pos X)) (between (pos 1) (pos 65536) (pos Y)) (ref_sized b f (of_size x y) r5.0) in
      record {
        look = record { block = block.0; grid = r2.0; size = r5.0; place = r6.0; vectors = r9.0 };
        w = within_both 1 64 b.w block.1.0;
        h = within_both 1 64 b.h block.1.1;
        width = (from_one 65536 (pos X) size.0).0;
        height = (from_one 65536 (pos Y) size.1).0;
      }

  -- a call whose tests pass gives the rectangle
  pub told : Looked b g f mvs second (of_size x y) → (within 1 64 b.w && within 1 64 b.h) ≡ true
      → inter_reach b g f mvs second x y ≡ readable_by b g f mvs second x y
  unfolding inter_reach unless
  told look wh =
      let t = and_both (within 1 64 b.w) (within 1 64 b.h) wh in
      rw (look.block, t.0, t.1, look.grid, look.size, look.place, look.vectors)

  -- ---- a call, by the answers of the calls on vectors

  module _ (l : Lead) (led : l ≡ lead b g f (of_size x y) (get_or mvs (list_number second) [])) where
    told_number : refusal b l ≡ answer (inter_rows b g f mvs second x y)
    told_number = ap (refusal b) led ∙ joined b g f mvs second x y

    -- refused: the number beside zeros
    pub refused : (r : Refusal) → number r ≡ refusal b l → nothing (number r) ≡ inter_reach b g f mvs second x y
    unfolding inter_reach
    refused r e = let n : number r ≡ answer (inter_rows b g f mvs second x y) = e ∙ told_number in rw (← n, not_zero r)

    module _ (zero : 0 ≡ refusal b l) where
      answered : answer (inter_rows b g f mvs second x y) ≡ 0
      answered = sym (zero ∙ told_number)

      pub passed : Accepted
      passed = accepted answered

      start_is : l.from ≡ stepping b g f mvs second (of_size x y)
      start_is = ap (λ (e : Lead). e.from) led ∙ leads b g f mvs second (of_size x y) passed.look

      pub start_taken : (s : Stepping) → s ≡ l.from → starts s ≡ true
      start_taken s e = rw (e ∙ start_is) (starts_taken b g f mvs second (of_size x y) passed.look)

      -- accepted: the rectangle from where the list leads
      pub given : (n m : ℕ) (s : Stepping) → n ≡ extent b.plane f.subsampling_x x → m ≡ extent b.plane f.subsampling_y y → s ≡ l.from
          → readable b.w b.h n m s ≡ inter_reach b g f mvs second x y
      unfolding inter_reach
      given n m s d e h = rw (answered, d, e, h ∙ start_is)
