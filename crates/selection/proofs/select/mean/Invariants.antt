use mathlib.Core.Path.{◌≡◌}
use Rattle.selection.specs.Select.{total}
use Rattle.selection.proofs.select.mean.Given as goal

abbrev pub invariant-loop-v : goal.invariant-loop-v
invariant-loop-v g l = (l.row ≡ total (λ v. v.row.0) l.fn.of l.v-index) × (l.col ≡ total (λ v. v.col.0) l.fn.of l.v-index)
