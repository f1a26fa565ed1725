-- `num_8x8_wide` meets its contract: the table is the definition's, and no entry of it is above 8. Assumes nothing.
use mathlib.Core.Path.{refl}
use mathlib.Core.Bool.{Bool}
use Prim.Native.Nat.{ℕ}
use native.Mathlib.Omega.{arith}
use borrow.Author.Tests.{leb-true}
use lib.Dec.{leb}
use lib.IntN.{ℤ, pos, nat_abs}
use lib.ListN.{get_or}
use mir.Syntax.{w32}
use Rattle.base.proofs.Bd.{Bd, bd, rd}
use Rattle.base.proofs.Table.{entry}
use Rattle.clamping.specs.Sizes.{wides}
use Rattle.clamping.proofs.partition.num_8x8_wide.Goals as goal

-- an entry is at most 8
small : ℕ → ℤ → Bool
small k z = leb (nat_abs z) 8

pub returns : goal.returns
unfolding small
returns c =
    let size = c.args.size in
    let b : Bd 8 (get_or wides size (pos 0)) = bd _ (leb-true _ 8 (entry small (pos 0) wides refl size (omega arith))) in
    rw (rd w32 b tt) (refl, b.le)
