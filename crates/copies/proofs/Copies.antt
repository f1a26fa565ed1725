-- Laws of rows of copies: copies from a place further on, and a row near an edge in three runs. Assumes nothing.
use mathlib.Core.Path.{◌≡◌, refl, sym, ap}
use mathlib.Core.List.{List}
use Prim.Native.Nat.{ℕ, ◌+◌, ◌-◌, min}
use native.Mathlib.Nat.{add-zero, zero-add, add_assoc}
use native.Mathlib.Omega.{arith}
use lib.ListN.{get_or}
use Rattle.base.specs.Paint.{fill}
use Rattle.taps.specs.Kernel.{alike, clipped, held_from, listed}
use Rattle.copies.specs.Copy.{three_runs, still}
use Rattle.taps.proofs.Loops.{fill_none}
use Rattle.taps.proofs.Runs.{Cut, run_turn}

-- copies from a place further on
pub clipped_on : (max : ℕ) (l : List ℕ) (b c k : ℕ) → clipped max l (b + c) k ≡ clipped max l b (c + k)
unfolding clipped
clipped_on max l b c k = rw (add_assoc b c k) refl

-- a row near an edge, in its three runs
pub runs_still : {last b w before d inside : ℕ} → Cut last b w before d inside → (max : ℕ) (row l : List ℕ) (at : ℕ)
    → three_runs l at before inside (w - before - inside) (min (listed row 0) max) (clipped max row d) (min (listed row last) max)
    ≡ fill l at w (still max row last b)
unfolding alike clipped still held_from
runs_still {last} {b} {w} {before} {d} {inside} t max row l at =
    let one = run_turn at before before (alike (min (listed row 0) max)) (fill_none l at (still max row last b)) (sym (add-zero at))
    (sym (zero-add before)) refl
    (λ k h. rw zero-add (ap (λ (j : ℕ). min (get_or row j 0) max) (t.left k h))) in
    let two = run_turn (at + before) inside (before + inside) (clipped max row d) one refl refl refl
    (λ k h. ap (λ (j : ℕ). min (get_or row j 0) max) (t.middle k h)) in
    let all : w ≡ before + inside + (w - before - inside) = omega (arith, t.fits.0) in
    (run_turn (at + before + inside) (w - before - inside) w (alike (min (listed row last) max)) two (add_assoc at before inside) all refl
    (λ k h. ap (λ (j : ℕ). min (get_or row j 0) max) (t.right k h))).is
