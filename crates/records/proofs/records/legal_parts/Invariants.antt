-- `records::legal_parts` meets its contract. Invariant: ok says whether the first j components are legal. Assumes nothing.
use mathlib.Core.Path.{◌≡◌}
use Rattle.records.specs.Records.{legal_parts}
use Rattle.records.proofs.records.legal_parts.Given as goal

abbrev pub invariant-loop-j : goal.invariant-loop-j
invariant-loop-j l = l.ok ≡ legal_parts l.parts l.from l.j
