-- Eight writes one after the other, as laws over variables: to rewrite the nested writes at a function's place is dear. Assumes nothing.
use mathlib.Core.Path.{◌≡◌, refl, sym, ap, ◌∙◌}
use mathlib.Core.List.{List}
use Prim.Native.Nat.{ℕ, ◌+◌}
use native.Mathlib.Nat.{add-zero}
use lib.ListN.{set}
use Rattle.base.specs.Paint.{fill}
use Rattle.taps.specs.Kernel.{low_at, low_ran}
use Rattle.taps.specs.declared.eight.Taps.{Taps}

eight_written : (l : List ℕ) (at : ℕ) (f : ℕ → ℕ)
    → set (set (set (set (set (set (set (set l at (f 0)) (at + 1) (f 1)) (at + 2) (f 2)) (at + 3) (f 3)) (at + 4) (f 4)) (at + 5) (f 5)) (at + 6) (f 6))
    (at + 7) (f 7)
    ≡ fill l at 8 f
unfolding fill
eight_written l at f = rw add-zero refl

pub eight_are : (l : List ℕ) (at : ℕ) (v : ℕ → ℕ) {a b c d e f g h : ℕ} → a ≡ v 0 → b ≡ v 1 → c ≡ v 2 → d ≡ v 3 → e ≡ v 4 → f ≡ v 5 → g ≡ v 6
    → h ≡ v 7
    → set (set (set (set (set (set (set (set l at a) (at + 1) b) (at + 2) c) (at + 3) d) (at + 4) e) (at + 5) f) (at + 6) g) (at + 7) h ≡ fill l at 8 v
eight_are l at v ea eb ec ed ee ef eg eh = rw (ea, eb, ec, ed, ee, ef, eg, eh) (eight_written l at v)

-- the first result of a row
pub low_first : (p : Taps) (l : List ℕ) (n b : ℕ) {v : ℕ} → v ≡ low_at p l n b → v ≡ low_ran p l n b 0
unfolding low_ran
low_first p l n b e = e ∙ ap (low_at p l n) (sym (add-zero b))
