-- `evened` meets its contract: neither step wraps. Assumes nothing.
use native.Mathlib.Omega.{arith}
use lib.IntN.{pos}
use mir.Syntax.{w32}
use Rattle.base.proofs.Bd.{Bd, lit, quot, ◌⊛◌, fits, rd}
use Rattle.base.proofs.Legal.{legal_bd}
use Rattle.lists.specs.MvRef.{evened}
use Rattle.lists.proofs.mv_ref.evened.Goals as goal
use Rattle.lists.proofs.mv_ref.evened.Goals.{Start}

part : (c : Start) → Bd 32767 c.args.x.0
part c = legal_bd c.args.x c.requires

pub nonzero_div-result : goal.nonzero_div-result
nonzero_div-result c = let x = part c.before.before in (omega arith, rw (rd w32 x tt) (fits (quot 2 x) tt))

pub overflow_mul-result : goal.overflow_mul-result
overflow_mul-result c = let x = part c.before.before in rw (rd w32 x tt, rd w32 (quot 2 x) tt) (fits (quot 2 x ⊛ lit (pos 2)) tt)

pub returns : goal.returns
unfolding evened
returns c = let x = part c.before.before in rw (rd w32 x tt, rd w32 (quot 2 x) tt, rd w32 (quot 2 x ⊛ lit (pos 2)) tt)
