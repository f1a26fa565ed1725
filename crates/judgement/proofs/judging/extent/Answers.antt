-- `extent` meets its contract: a side, halved or not, fits where the frame's did. Assumes nothing.
use Rattle.std.proofs.Common.{arith, ◌≡◌, pos, ℕ, ◌+◌, ◌/◌, Bool, true, false, refl, ap, ◌∙◌}
use mathlib.Core.Bool.{◌&&◌, not, cond}
use lib.Dec.{eqb}
use mir.Syntax.{w32}
use mir.Facts.{to_z-of_z, to_z_pos}
use Rattle.base.specs.Position.{to_n}
use Rattle.base.proofs.Casts.{small_nat}
use Rattle.judgement.specs.Whole.{extent}
use Rattle.judgement.proofs.judging.extent.Goals as goal
use Rattle.judgement.proofs.judging.extent.Goals.{then-plane-sub, else-plane-sub}

-- the choice as the code makes it
halved : (t u : Bool) (n : ℕ) → (not t && u) ≡ true → (n + 1) / 2 ≡ cond t n (cond u ((n + 1) / 2) n)
halved false true n e = refl
halved false false n e = absurd (cc)
halved true u n e = absurd (cc)

whole : (t u : Bool) (n : ℕ) → (not t && u) ≡ false → n ≡ cond t n (cond u ((n + 1) / 2) n)
whole true u n e = refl
whole false false n e = refl
whole false true n e = absurd (cc)

pub returns : goal.returns
unfolding extent
returns c =
    let n : c.natural-n.result ≡ to_n c.args.frame = rw (to_z-of_z c.ranges.frame) at c.natural-n.ensures in
    let small = small_nat c.args.frame c.ranges.frame.sfits in
    elim c.if-plane-sub.branch [
      | then-plane-sub w ↦
          let up : c.if-plane-sub.side ≡ (to_n c.args.frame + 1) / 2 = omega arith in
          to_z_pos w32 (omega arith) ∙ ap pos (up ∙ halved (eqb c.args.plane 0) c.args.sub _ w.if-plane-sub.true)
      | else-plane-sub w ↦
          let same : c.if-plane-sub.side ≡ to_n c.args.frame = omega arith in
          to_z_pos w32 (omega arith) ∙ ap pos (same ∙ whole (eqb c.args.plane 0) c.args.sub _ w.if-plane-sub.false)
    ]
