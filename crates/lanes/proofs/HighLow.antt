-- Any eight samples: the sum of their high bytes and the sum of the samples, both modulo 65,536, lose nothing, since bytes add up as in Low. One
-- law for both passes. Assumes nothing.
use mathlib.Core.Path.{◌≡◌, ap, ◌∙◌}
use Prim.Native.Nat.{ℕ, ◌+◌, ◌-◌, ◌*◌, ◌/◌, ◌%◌, ◌<◌, ◌≤◌, min}
use native.Mathlib.Nat.{mul-add, mul_assoc}
use native.Mathlib.Omega.{arith}
use Rattle.taps.specs.Taps.{tap}
use Rattle.taps.specs.Filter.{filtered}
use Rattle.taps.specs.Kernel.{products, raised_one, joined_sums, wide_one}
use Rattle.taps.specs.declared.eight.Taps.{Taps}
use Rattle.taps.proofs.Filtered.{one_is}
use Rattle.lanes.proofs.Low.{whole, turned, ranged}

split : (x : ℕ) → x ≡ x / 256 * 256 + x % 256
split x = omega arith

-- a tap times a sample, by bytes
by_bytes : (t x : ℕ) → t * x ≡ 256 * (t * (x / 256)) + t * (x % 256)
by_bytes t x =
    let e = ap (λ (k : ℕ). t * k) (split x) ∙ mul-add t (x / 256 * 256) (x % 256) in
    omega (arith, e, mul_assoc t (x / 256) 256)

abbrev over : Taps → (ℕ → ℕ) → ℕ
over p x = products p (x 0) (x 1) (x 2) (x 3) (x 4) (x 5) (x 6) (x 7)

abbrev surplus : (ℕ → ℕ) → ℕ
surplus x = 24 * (x 0 + x 1 + x 2 + x 3 + x 4 + x 5 + x 6 + x 7)

abbrev high : (ℕ → ℕ) → ℕ → ℕ
high x t = x t / 256

abbrev low : (ℕ → ℕ) → ℕ → ℕ
low x t = x t % 256

parted : (p : Taps) (x : ℕ → ℕ) → over p x ≡ 256 * over p (high x) + over p (low x)
parted p x =
    let b0 = by_bytes p.t0 (x 0) in
    let b1 = by_bytes p.t1 (x 1) in
    let b2 = by_bytes p.t2 (x 2) in
    let b3 = by_bytes p.t3 (x 3) in
    let b4 = by_bytes p.t4 (x 4) in
    let b5 = by_bytes p.t5 (x 5) in
    let b6 = by_bytes p.t6 (x 6) in
    let b7 = by_bytes p.t7 (x 7) in
    omega arith

surplus_parted : (x : ℕ → ℕ) → surplus x ≡ 256 * surplus (high x) + surplus (low x)
surplus_parted x =
    let e0 = split (x 0) in
    let e1 = split (x 1) in
    let e2 = split (x 2) in
    let e3 = split (x 3) in
    let e4 = split (x 4) in
    let e5 = split (x 5) in
    let e6 = split (x 6) in
    let e7 = split (x 7) in
    omega arith

-- a sum that is taken modulo 65,536 first
once : (v s n k : ℕ) → v + n ≡ s + 65536 * k → v % 65536 + n + 65536 * (v / 65536) ≡ s + 65536 * k
once v s n k e = omega arith

-- the low bytes' sum is what is left of the samples' sum w without that of the high bytes, v
left : (v w sh nh sl nl j k : ℕ) → v + nh ≡ sh + 65536 * j → w + (256 * nh + nl) ≡ 256 * sh + sl + 65536 * k
    → w % 65536 + 65536 - v % 65536 % 256 * 256 + nl + 65536 * (w / 65536 + 256 * j) ≡ sl + 65536 * (k + 1 + v / 256)
left v w sh nh sl nl j k e f = omega arith

-- a sum that stops at 65,535 is held to max either way
untopped : (u v max : ℕ) → max ≤ 4095 → min (min (min (u + u) 65535 + v) 65535 - 512) max ≡ min (2 * u + v - 512) max
untopped u v max m = omega arith

both : (h v sh nh sl nl : ℕ) → h + nh ≡ sh + 16448 → v + nl ≡ sl + 16448 → v < 65536
    → 2 * (h - 16256) + v / 128 - 512 ≡ (256 * sh + sl + 64 - (256 * nh + nl)) / 128
both h v sh nh sl nl e f v16 = omega arith

biased : (z y : ℕ) → y ≤ 65535 → z + 81984 - y ≡ z + 65536 - y + 16448
biased z y h = omega arith

-- the two sums, put together, over whole numbers s - n that are 256 (sh - nh) + (sl - nl)
joined_is : (max v w s n sh nh sl nl j k : ℕ) → max ≤ 4095 → v + nh ≡ sh + 65536 * j → w + n ≡ s + 65536 * k
    → s ≡ 256 * sh + sl → n ≡ 256 * nh + nl → (sh ≤ nh + 46410) × (nh ≤ sh + 13770) → (sl ≤ nl + 46410) × (nl ≤ sl + 13770)
    → joined_sums max (v % 65536) (w % 65536) ≡ min ((s + 64 - n) / 128) max
unfolding joined_sums
joined_is max v w s n sh nh sl nl j k m e f se ne gh gl =
    let y = v % 65536 % 256 * 256 in
    let z = w % 65536 in
    let hi : (v % 65536 + 16448) % 65536 + nh ≡ sh + 16448 = whole _ sh nh _ _ (once v sh nh j e) gh.0 gh.1 in
    let f2 : w + (256 * nh + nl) ≡ 256 * sh + sl + 65536 * k = rw (se, ne) at f in
    let lo : (z + 65536 - y + 16448) % 65536 + nl ≡ sl + 16448 = whole _ sl nl _ _ (left v w sh nh sl nl j k e f2) gl.0 gl.1 in
    untopped _ _ max m
    ∙ ap (λ (b : ℕ). min (2 * ((v % 65536 + 16448) % 65536 - 16256) + b % 65536 / 128 - 512) max) (biased z y (omega arith))
    ∙ ap (λ (b : ℕ). min b max) (both _ _ sh nh sl nl hi lo (omega arith))
    ∙ rw (se, ne)

pub wide_is : (max : ℕ) (p : Taps) (x : ℕ → ℕ) → max ≤ 4095 → ((t : ℕ) → t < 8 → x t < 65536)
    → wide_one max p (x 0) (x 1) (x 2) (x 3) (x 4) (x 5) (x 6) (x 7) ≡ filtered max (tap p.filter p.phase) x
unfolding wide_one raised_one
wide_is max p x m small =
    let th = turned p (high x) in
    let tx = turned p x in
    let gh = ranged p (high x) (λ t t8. omega (arith, small t t8)) in
    let gl = ranged p (low x) (λ t t8. omega arith) in
    joined_is max _ _ _ _ _ _ _ _ th.turns tx.turns m th.is tx.is (parted p x) (surplus_parted x) gh gl
    ∙ one_is max p x
