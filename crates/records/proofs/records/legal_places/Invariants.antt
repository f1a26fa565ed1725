-- `records::legal_places` meets its contract. Invariant: ok says whether the records of the first k places are legal. Assumes nothing.
use mathlib.Core.Path.{◌≡◌}
use Rattle.records.specs.Seen.{seen}
use Rattle.records.specs.Lent.{legal_places}
use Rattle.records.proofs.records.legal_places.Given as goal

abbrev pub invariant-loop-k : goal.invariant-loop-k
invariant-loop-k l = l.ok ≡ legal_places (seen l.tables) l.site.geometry l.k
