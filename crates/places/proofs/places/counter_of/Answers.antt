-- `places::counter_of` meets its contract; what the table holds is small, by one computed test. Assumes nothing.
use mathlib.Core.Path.{refl, sym, ap, ◌∙◌}
use Prim.Native.Nat.{ℕ, ◌≤◌}
use native.Mathlib.Omega.{arith}
use borrow.Author.Tests.{leb-true}
use lib.Dec.{leb}
use lib.ListN.{get_or, get_or-eq_default}
use Rattle.places.specs.Places.{counters}
use Rattle.base.proofs.Anywhere.{anywhere}
use Rattle.places.proofs.places.counter_of.Goals as goal

-- each counter is at most 9
low : (mode : ℕ) → get_or counters mode 0 ≤ 9
unfolding counters
low mode = leb-true (get_or counters mode 0) 9 (anywhere (λ (x : ℕ). leb x 9) 0 counters refl mode)

pub returns-then-mode-lt14 : goal.returns-then-mode-lt14
unfolding counters
returns-then-mode-lt14 c =
    let e = c.from-then-mode-lt14.ensures ∙ ap (λ (m : ℕ). get_or counters m 0) c.from.ensures in
    record { is = e; small = rw e (low c.args.mode) }

pub returns-else-mode-lt14 : goal.returns-else-mode-lt14
unfolding counters
returns-else-mode-lt14 c = record { is = sym (get_or-eq_default counters 0 c.if-mode-lt14.false); small = omega arith }
