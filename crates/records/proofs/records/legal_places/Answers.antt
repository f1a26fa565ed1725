-- `records::legal_places` meets its contract. Invariant: ok says whether the records of the first k places are legal. Assumes nothing.
use mathlib.Core.Path.{refl}
use native.Mathlib.Numerals.{add-one}
use Rattle.records.specs.Lent.{legal_places}
use Rattle.records.proofs.records.legal_places.Goals as goal

pub loop-k-init : goal.loop-k-init
unfolding legal_places
loop-k-init c = refl

pub loop-k-preserved : goal.loop-k-preserved
unfolding legal_places
loop-k-preserved c = rw (add-one, ← c.loop-k.invariant, c.legal_place-ok.ensures)
