-- `candidates::negated` meets its contract: a component of 16 bits can be negated in 32. Assumes nothing.
use mathlib.Core.Path.{◌≡◌, ◌∙◌}
use Prim.Native.Nat.{◌^◌, ◌<◌}
use lib.IntN.{ℤ, pos, neg_ℤ, ◌-ℤ◌, +ℤ_idl}
use lib.Signed.{mag, nat_abs-le}
use mir.Syntax.{w32}
use mir.Val.{SFits, to_z, of_z}
use Rattle.base.proofs.Bd.{bd, lit, ◌⊖◌, fits, rd}
use Rattle.candidates.proofs.scan.negated.Goals as goal

module _ (z : ℤ) (h : mag z < 2 ^ 15) where
  negates : SFits w32 (pos 0 -ℤ to_z w32 (of_z w32 z))
  negates = rw (rd w32 (bd z (nat_abs-le z h)) tt) (fits (lit (pos 0) ⊖ bd z (nat_abs-le z h)) tt)

  is-negated : to_z w32 (of_z w32 (pos 0 -ℤ to_z w32 (of_z w32 z))) ≡ neg_ℤ z
  is-negated =
      rw (rd w32 (bd z (nat_abs-le z h)) tt) (rd w32 (lit (pos 0) ⊖ bd z (nat_abs-le z h)) tt) ∙ +ℤ_idl (neg_ℤ z)

pub overflow_sub-result : goal.overflow_sub-result
overflow_sub-result c = negates c.args.v.row.0 c.requires.row

pub overflow_sub-result-2 : goal.overflow_sub-result-2
overflow_sub-result-2 c =
    negates c.args.v.col.0 c.requires.col

pub returns : goal.returns
returns c =
    let v = c.args.v in
    rw (is-negated v.row.0 c.requires.row, is-negated v.col.0 c.requires.col)
