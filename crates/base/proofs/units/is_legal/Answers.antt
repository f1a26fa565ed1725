-- `base::is_legal` meets its contract, which is `between`'s. Assumes nothing.
use mir.Syntax.{w32}
use mir.Facts.{to_z-of_z}
use Rattle.base.specs.Vector.{legal}
use Rattle.base.proofs.units.is_legal.Goals as goal

pub returns : goal.returns
unfolding legal
returns c =
    rw (to_z-of_z {w = w32} {z = c.args.x.0} (record { sfits = c.struct_told-1.given.0.1 })) at c.between.ensures
