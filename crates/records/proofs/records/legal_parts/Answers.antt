-- `records::legal_parts` meets its contract. Invariant: ok says whether the first j components are legal. Assumes nothing.
use mathlib.Core.Path.{refl}
use Prim.Native.Nat.{◌+◌}
use native.Mathlib.Numerals.{add-one}
use lib.IntN.{pos}
use lib.ListN.{get_or}
use mir.Syntax.{w16}
use mir.Facts.{to_z-of_z}
use Rattle.records.specs.Records.{legal_parts}
use Rattle.records.proofs.records.legal_parts.Goals as goal

pub loop-j-init : goal.loop-j-init
unfolding legal_parts
loop-j-init c = refl

pub loop-j-preserved : goal.loop-j-preserved
unfolding legal_parts
loop-j-preserved c =
    let x = get_or c.args.parts.now (c.args.from + c.loop-j.j) (pos 0) in
    let e = to_z-of_z {w = w16} {z = x} (record { sfits = c.legal_part-arg-1.given }) in
    rw (add-one, ← c.loop-j.invariant, c.legal_part-ok.ensures, e)
