-- `blocks::block::bands` meets its contract: what the tests of a plane say. Assumes nothing.
use mathlib.Core.Path.{◌≡◌}
use native.Mathlib.Omega.{arith}
use borrow.Author.Rules.{rules}
use Rattle.base.specs.Position.{to_n}
use Rattle.planes.specs.Plane.{fits}
use Rattle.blocks.proofs.Facts.{sized_says}
use Rattle.blocks.proofs.block.bands.Goals as goal

pub invariant_of-result : goal.invariant_of-result
unfolding fits
invariant_of-result c =
    let some = sized_says c.args.geom c.requires.size in
    let e : c.natural.result ≡ to_n c.args.geom.width = search rules in
    let f : c.natural-2.result ≡ to_n c.args.geom.height = search rules in
    record { wide = omega (arith, some, e); high = omega (arith, some, f); hold = rw (e, f) c.requires.hold }
