-- The bridge between signed positions, which the definitions have, and lifted unsigned ones, which the code computes on: a position plus a
-- multiple of 16 keeps its phase, and its floor is moved by that many. Assumes nothing.
use mathlib.Core.Path.{◌≡◌, refl, sym, ap, ◌∙◌}
use mathlib.Core.Bool.{Bool, true, false, cond}
use Prim.Native.Nat.{ℕ, suc, ◌+◌, ◌-◌, ◌*◌, ◌/◌, ◌%◌, ◌≤◌, ◌<◌, min}
use native.Mathlib.Omega.{arith}
use borrow.Author.Tests.{ltb-false, le-ltb, lt-ltb}
use lib.Dec.{ltb}
use lib.IntN.{ℤ, pos, negsuc, nat_abs, ◌+ℤ◌, ◌-ℤ◌, ◌*ℤ◌, +ℤ_assoc, +ℤ_comm, pos-ne-negsuc}
use Rattle.base.specs.Position.{to_n, floor16, mod16, hold, along, place}

-- z is a - b
pub record Diff (z : ℤ) (a b : ℕ) : Type 0 where
  pub is : z +ℤ pos b ≡ pos a

pub diff_pos : (n : ℕ) → Diff (pos n) n 0
diff_pos n = record { is = ap pos (omega arith) }

pub diff_neg : (n b : ℕ) → suc n ≤ b → Diff (negsuc n) (b - suc n) b
diff_neg n b h = record { is = simp (le-ltb b (suc n) h) }

-- (z + y) + (b + d) = (z + b) + (y + d)
swap : (z y b d : ℤ) → (z +ℤ y) +ℤ (b +ℤ d) ≡ (z +ℤ b) +ℤ (y +ℤ d)
swap z y b d =
    let inner : y +ℤ (b +ℤ d) ≡ b +ℤ (y +ℤ d) = sym (+ℤ_assoc y b d) ∙ ap (λ (k : ℤ). k +ℤ d) (+ℤ_comm y b) ∙ +ℤ_assoc b y d in
    +ℤ_assoc z y (b +ℤ d) ∙ ap (λ (k : ℤ). z +ℤ k) inner ∙ sym (+ℤ_assoc z b (y +ℤ d))

pub diff_add : {z y : ℤ} {a b c d : ℕ} → Diff z a b → Diff y c d → Diff (z +ℤ y) (a + c) (b + d)
diff_add {z} {y} {a} {b} {c} {d} e f = record { is = swap z y (pos b) (pos d) ∙ rw (e.is, f.is) }

-- a sum with a negative number that is no negative one
back : (n b a : ℕ) (t : Bool) → ltb b (suc n) ≡ t → cond t (negsuc (suc n - suc b)) (pos (b - suc n)) ≡ pos a → (suc n ≤ b) × (a ≡ b - suc n)
back n b a true e h = absurd (pos-ne-negsuc a (suc n - suc b) (sym h))
back n b a false e h = (ltb-false b (suc n) e, sym (ap to_n h))

pub diff_to_n : (z : ℤ) (a b : ℕ) → Diff z a b → to_n z ≡ a - b
diff_to_n (pos n) a b d = let h : n + b ≡ a = ap to_n d.is in omega arith
diff_to_n (negsuc n) a b d = let h = back n b a (ltb b (suc n)) refl d.is in omega arith

-- q is z lifted by 16 k
pub record Lifted (z : ℤ) (q k : ℕ) : Type 0 where
  pub floor : Diff (floor16 z) (q / 16) k
  pub phase : mod16 z ≡ q % 16

pub lifted : (z : ℤ) (q k : ℕ) → Diff z q (16 * k) → Lifted z q k
lifted (pos n) q k d =
    let h : n + 16 * k ≡ q = ap to_n d.is in
    record { floor = record { is = ap pos (omega arith) }; phase = omega arith }
lifted (negsuc n) q k d =
    let h = back n (16 * k) q (ltb (16 * k) (suc n)) refl d.is in
    let low : suc (n / 16) ≤ k = omega arith in
    let e : k - suc (n / 16) ≡ q / 16 = omega arith in
    record { floor = record { is = simp (le-ltb k (suc (n / 16)) low) (ap pos e) }; phase = omega arith }

-- a step on is a step on
pub diff_along : {s : ℤ} {q b : ℕ} (step i : ℕ) → Diff s q b → Diff (along s step i) (q + step * i) b
unfolding along
diff_along {s} {q} {b} step i d = let e : b + 0 ≡ b = omega arith in rw e at (diff_add d (diff_pos (step * i)))

-- two runs of steps are one
pub along_along : (s : ℤ) (step i j : ℕ) → along (along s step i) step j ≡ along s step (i + j)
unfolding along
along_along s step i j =
    let e : step * i + step * j ≡ step * (i + j) = omega arith in
    +ℤ_assoc s (pos (step * i)) (pos (step * j)) ∙ ap (λ (k : ℕ). s +ℤ pos k) e

-- where tap t reads, of a lifted position
pub place-lifted : (last : ℕ) (z : ℤ) (q k t : ℕ) → Lifted z q k → place last z t ≡ min (q / 16 + t - (k + 3)) last
unfolding place hold
place-lifted last z q k t l =
    let three : Diff (negsuc 2) 0 3 = record { is = refl } in
    let moved = diff_add (diff_add l.floor (diff_pos t)) three in
    let e : to_n (floor16 z +ℤ pos t -ℤ pos 3) ≡ q / 16 + t - (k + 3) = omega (arith, diff_to_n _ _ _ moved) in
    ap (λ (n : ℕ). min n last) e

-- the code's lift of an accepted start: 3,200,000 is a multiple of 16 and leaves room for the taps before it
pub record Start (z : ℤ) : Type 0 where
  pub q : ℕ
  pub is : Diff z q 3200000
  pub low : 200000 ≤ q
  pub high : q ≤ 6200000

pub start : (z : ℤ) → nat_abs z ≤ 3000000 → Start z
start (pos n) h = record { q = n + 3200000; is = record { is = refl }; low = omega arith; high = omega arith }
start (negsuc n) h = record { q = 3200000 - suc n; is = diff_neg n 3200000 (omega arith); low = omega arith; high = omega arith }

-- floor16 and mod16 are the document's floor and mod: z = 16 x floor + mod, and mod is 0..15
pub floor_mod : (z : ℤ) → z ≡ pos 16 *ℤ floor16 z +ℤ pos (mod16 z)
floor_mod (pos n) = ap pos (omega arith)
floor_mod (negsuc n) =
    let e : 16 * suc (n / 16) ≡ suc (16 * (n / 16) + 15) = omega arith in
    let h : 15 - n % 16 < suc (16 * (n / 16) + 15) = omega arith in
    rw e (simp (lt-ltb (15 - n % 16) (suc (16 * (n / 16) + 15)) h) (ap negsuc (omega arith)))

pub mod-small : (z : ℤ) → mod16 z < 16
mod-small (pos n) = omega arith
mod-small (negsuc n) = omega arith
