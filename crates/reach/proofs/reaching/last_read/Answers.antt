-- `reach::reaching::last_read` meets its contract: the steps of a block add little to an accepted start. Assumes nothing.
use mathlib.Core.Path.{◌≡◌}
use Prim.Native.Nat.{◌-◌, ◌*◌, ◌≤◌}
use native.Mathlib.Nat.{mul-le-mul}
use native.Mathlib.Omega.{arith}
use mir.Syntax.{w32}
use mir.Val.{to_z}
use mir.Facts.{to_z_pos}
use lib.IntN.{pos, ◌+ℤ◌}
use Rattle.base.specs.Position.{to_n, along}
use Rattle.base.proofs.Casts.{read_back}
use Rattle.base.proofs.Bd.{Bd, bd, lit, shr, ◌⊕◌, fits, rd}
use Rattle.reach.specs.Rectangle.{last_read}
use Rattle.reach.proofs.Places.{shr-floor}
use Rattle.reach.proofs.reaching.last_read.Goals as goal
use Rattle.reach.proofs.reaching.last_read.Goals.{After-natural, Start}

-- the step as it was handed in
step_is : (c : After-natural) → c.natural.result ≡ to_n c.args.step.0
step_is c = rw (read_back c.args.step.0 c.struct_told-1.given.0.1) at c.natural.ensures

-- how far the block's positions run
far : (c : After-natural) → c.natural.result * (c.args.n - 1) ≤ 2016
far c =
    let step : c.natural.result ≤ 32 = omega (arith, step_is c, c.requires.step_bound) in
    let n : c.args.n - 1 ≤ 63 = omega (arith, c.requires.step_bound) in
    mul-le-mul step n

far-read : (c : After-natural)
    → to_z w32 (c.natural.result * (c.args.n - 1)) ≡ pos (c.natural.result * (c.args.n - 1))
far-read c = let h = far c in to_z_pos w32 (omega arith)

-- the last position
at : (c : After-natural)
    → Bd 3002016 (c.args.start.0 +ℤ pos (c.natural.result * (c.args.n - 1)))
at c = bd c.args.start.0 c.requires.start_bound ⊕ bd (pos (c.natural.result * (c.args.n - 1))) (far c)

first : (s : Start) → Bd 3000000 s.args.start.0
first s = bd s.args.start.0 s.requires.start_bound

pub overflow_mul-far : goal.overflow_mul-far
overflow_mul-far c =
    record { fits = omega (arith, far c) }

pub overflow_cast-far : goal.overflow_cast-far
overflow_cast-far c = let h = far c in record { sfits = omega arith }

pub overflow_add-start : goal.overflow_add-start
overflow_add-start c =
    rw (rd w32 (first c.before.before.before.before) tt, far-read c.before.before) (fits (at c.before.before) tt)

pub overflow_add-start-2 : goal.overflow_add-start-2
overflow_add-start-2 c =
    rw (rd w32 (first c.before.before.before.before) tt, far-read c.before.before, rd w32 (at c.before.before) tt, rd w32 (shr 16 (at c.before.before)) tt)
    (fits (shr 16 (at c.before.before) ⊕ lit (pos 4)) tt)

pub returns : goal.returns
unfolding last_read along
returns c =
    rw (
      rd w32 (first c.before.before.before.before.before) tt,
      far-read c.before.before.before,
      rd w32 (at c.before.before.before) tt,
      rd w32 (shr 16 (at c.before.before.before)) tt,
      rd w32 (shr 16 (at c.before.before.before) ⊕ lit (pos 4)) tt,
      shr-floor (c.args.start.0 +ℤ pos (c.natural.result * (c.args.n - 1))),
      step_is c.before.before.before,
    )
    at c.hold.ensures
