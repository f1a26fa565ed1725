-- Internal: what the rows compute, on lists and on positions lifted by 3,200,000, which is 200,000 columns or rows. No definition that a
-- caller reads cites this file. Assumes nothing.
use Rattle.std.specs.Prelude.{ℕ, zero, suc, ◌+◌, ◌-◌, ◌*◌, ◌/◌, ◌%◌, ◌≤◌, ◌<◌, min, ◌≡◌, List, ℤ, length, get_or}
use Rattle.base.specs.Paint.{fill}
use Rattle.taps.specs.Filter.{filtered}
use Rattle.taps.specs.declared.eight.Taps.{Taps}

-- the sum of the eight products
abbrev pub products : Taps → ℕ → ℕ → ℕ → ℕ → ℕ → ℕ → ℕ → ℕ → ℕ
products p a b c d e f g h = p.t0 * a + p.t1 * b + p.t2 * c + p.t3 * d + p.t4 * e + p.t5 * f + p.t6 * g + p.t7 * h

-- what the code makes of eight samples, all of it unsigned: the sum of the products less what the 24s added, rounded and held
unfoldable pub raised_one : ℕ → Taps → ℕ → ℕ → ℕ → ℕ → ℕ → ℕ → ℕ → ℕ → ℕ
raised_one max p a b c d e f g h = min ((products p a b c d e f g h + 64 - 24 * (a + b + c + d + e + f + g + h)) / 128) max

-- the samples of l from place s on, n apart
unfoldable pub apart : List ℕ → ℕ → ℕ → ℕ → ℕ
apart l n s t = get_or l (s + n * t) 0

-- a row of results of one phase: column c has its samples from place b + c on, n apart
unfoldable pub ran : ℕ → (ℕ → ℤ) → List ℕ → ℕ → ℕ → ℕ → ℕ
ran max f l n b c = filtered max f (apart l n (b + c))

-- a row of results whose phase changes: column c stands at phase + step x c past place d
unfoldable pub stepped : ℕ → (ℕ → ℕ → ℤ) → List ℕ → ℕ → ℕ → ℕ → ℕ → ℕ
stepped max taps l d phase step c = filtered max (taps ((phase + step * c) % 16)) (apart l 1 (d + (phase + step * c) / 16))

-- the samples from place b on, each at most max
unfoldable pub clipped : ℕ → List ℕ → ℕ → ℕ → ℕ
clipped max l b c = min (get_or l (b + c) 0) max

-- the column, or row, that tap t reads at the lifted position q
unfoldable pub seat : ℕ → ℕ → ℕ → ℕ
seat last q t = min (q / 16 + t - 200003) last

-- the result at the lifted position q over samples that are a function of column, or of row
unfoldable pub level : ℕ → (ℕ → ℕ → ℤ) → (ℕ → ℕ) → ℕ → ℕ → ℕ
level max taps x last q = filtered max (taps (q % 16)) (λ (t : ℕ). x (seat last q t))

-- a list as such a function
abbrev pub listed : List ℕ → ℕ → ℕ
listed l u = get_or l u 0

-- the results of a row of the reference, from the lifted position start on
unfoldable pub levels : ℕ → (ℕ → ℕ → ℤ) → List ℕ → ℕ → ℕ → ℕ → ℕ → ℕ
levels max taps row last start step c = level max taps (listed row) last (start + step * c)

-- the held samples of the lifted columns from b on
unfoldable pub held_from : List ℕ → ℕ → ℕ → ℕ → ℕ
held_from row last b j = get_or row (min (b + j - 200003) last) 0

-- one number at every place
unfoldable pub alike : ℕ → ℕ → ℕ
alike v c = v

-- the samples from place s on
unfoldable pub onward : List ℕ → ℕ → ℕ → ℕ
onward row s c = get_or row (s + c) 0

-- l1 is l0 with f from place at on, m numbers of it; what stands past them is open
pub record Gathered (l0 l1 : List ℕ) (at m : ℕ) (f : ℕ → ℕ) : Type 0 where
  pub len : length l1 ≡ length l0
  pub before : (i : ℕ) → i < at → get_or l1 i 0 ≡ get_or l0 i 0
  pub is : (c : ℕ) → c < m → get_or l1 (at + c) 0 ≡ f c

-- a list as rows of eight
unfoldable pub eighths : List ℕ → ℕ → ℕ → ℕ
eighths l r = onward l (r * 8)

-- the rounded means of what stands in the output from place at on and of f
unfoldable pub mean_of : List ℕ → ℕ → (ℕ → ℕ) → ℕ → ℕ
mean_of out at f c = (get_or out (at + c) 0 + f c + 1) / 2

-- a tap without its 24 again, modulo 65,536
abbrev pub low_tap : ℕ → ℕ
low_tap t = (t + 65512) % 65536

abbrev pub low_sum : Taps → ℕ → ℕ → ℕ → ℕ → ℕ → ℕ → ℕ → ℕ → ℕ
low_sum p a b c d e f g h =
    low_tap p.t0 * a + low_tap p.t1 * b + low_tap p.t2 * c + low_tap p.t3 * d + low_tap p.t4 * e + low_tap p.t5 * f
    + low_tap p.t6 * g + low_tap p.t7 * h

-- what the code makes of eight samples that are at most 255, by a sum modulo 65,536 with 64 and 16,384 more
unfoldable pub low_one : Taps → ℕ → ℕ → ℕ → ℕ → ℕ → ℕ → ℕ → ℕ → ℕ
low_one p a b c d e f g h = min (((low_sum p a b c d e f g h + 16448) % 65536 - 16384) / 128) 255

-- what the code makes of two sums modulo 65,536: x of the high bytes of eight samples, z of the samples; z less 256 times x is that of the low
-- bytes. The high bytes' sum has 192 more, the low bytes' 64 and 16,384 more: 2 x 192 + 16,384 / 128 = 512. Sums stop at 65,535
unfoldable pub joined_sums : ℕ → ℕ → ℕ → ℕ
joined_sums max x z =
    let u = (x + 16448) % 65536 - 16256 in min (min (min (u + u) 65535 + (z + 81984 - x % 256 * 256) % 65536 / 128) 65535 - 512) max

-- what the code makes of any eight samples
unfoldable pub wide_one : ℕ → Taps → ℕ → ℕ → ℕ → ℕ → ℕ → ℕ → ℕ → ℕ → ℕ
wide_one max p a b c d e f g h =
    joined_sums max (low_sum p (a / 256) (b / 256) (c / 256) (d / 256) (e / 256) (f / 256) (g / 256) (h / 256) % 65536) (low_sum p a b c d e f g h % 65536)

-- of the samples of l from place s on, n apart
abbrev pub low_at : Taps → List ℕ → ℕ → ℕ → ℕ
low_at p l n s =
    low_one p (get_or l s 0) (get_or l (s + n) 0) (get_or l (s + n * 2) 0) (get_or l (s + n * 3) 0) (get_or l (s + n * 4) 0) (get_or l (s + n * 5) 0)
    (get_or l (s + n * 6) 0) (get_or l (s + n * 7) 0)

-- a row of them
unfoldable pub low_ran : Taps → List ℕ → ℕ → ℕ → ℕ → ℕ
low_ran p l n b c = low_at p l n (b + c)

-- of eight rows, 64 apart, the w samples from place b on are at most max
pub record Below (max : ℕ) (l : List ℕ) (b w : ℕ) : Type 0 where
  pub le : (c t : ℕ) → c < w → t < 8 → apart l 64 (b + c) t ≤ max

-- so they are from h places on, 64 apart
pub record BelowRows (max : ℕ) (l : List ℕ) (b w h : ℕ) : Type 0 where
  pub le : (r : ℕ) → r < h → Below max l (b + r * 64) w

-- the m samples from place b on are at most max
pub record UpTo (max : ℕ) (l : List ℕ) (b m : ℕ) : Type 0 where
  pub le : (j : ℕ) → j < m → get_or l (b + j) 0 ≤ max

-- so are those of h rows, line apart
pub record UpToRows (max : ℕ) (l : List ℕ) (b line m h : ℕ) : Type 0 where
  pub le : (r : ℕ) → r < h → UpTo max l (b + r * line) m

-- l with f r c at place at + r x stride + c, for each row r below h and column c below w
unfoldable pub fill_rows : List ℕ → ℕ → ℕ → ℕ → ℕ → (ℕ → ℕ → ℕ) → List ℕ
fill_rows l at stride w zero f = l
fill_rows l at stride w (suc h) f = fill (fill_rows l at stride w h f) (at + h * stride) w (f h)

-- rows of results, line apart
unfoldable pub ran_rows : ℕ → (ℕ → ℤ) → List ℕ → ℕ → ℕ → ℕ → ℕ → ℕ → ℕ
ran_rows max f l n b line r = ran max f l n (b + r * line)

unfoldable pub low_rows : Taps → List ℕ → ℕ → ℕ → ℕ → ℕ → ℕ → ℕ
low_rows p l n b line r = low_ran p l n (b + r * line)
