-- `rounded` meets its contract: each step fits by its bound, and the machine reads back what fits. Assumes nothing.
use Prim.Native.Nat.{◌/◌}
use native.Mathlib.Omega.{arith}
use lib.IntN.{pos}
use mir.Syntax.{w32}
use mir.Facts.{to_z_pos}
use Rattle.base.proofs.Bd.{Bd, bd, ◌⊕◌, ◌⊖◌, quot, rd}
use Rattle.selection.specs.Select.{rounded}
use Rattle.selection.proofs.select.rounded.Goals as goal

pub returns-then-sum-lt0 : goal.returns-then-sum-lt0
unfolding rounded
returns-then-sum-lt0 o c =
    let n = o.row.N in
    let sum = bd c.args.sum c.requires.small in
    let half : Bd 2 (pos (n / 2)) = bd (pos (n / 2)) (omega arith) in
    let read = rd w32 sum tt in
    let all = sum ⊖ half in
    rw (read, to_z_pos w32 {n = n} (omega arith), rd w32 half tt, rd w32 all tt, rd w32 (quot n all) tt, rw read at c.if-sum-lt0.true)

pub returns-else-sum-lt0 : goal.returns-else-sum-lt0
unfolding rounded
returns-else-sum-lt0 o c =
    let n = o.row.N in
    let sum = bd c.args.sum c.requires.small in
    let half : Bd 2 (pos (n / 2)) = bd (pos (n / 2)) (omega arith) in
    let read = rd w32 sum tt in
    let all = sum ⊕ half in
    rw (read, to_z_pos w32 {n = n} (omega arith), rd w32 half tt, rd w32 all tt, rd w32 (quot n all) tt, rw read at c.if-sum-lt0.false)
