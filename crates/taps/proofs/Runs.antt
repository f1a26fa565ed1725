-- Runs written one after the other are one, so are four writes; runs with scratch past them, and the three of a gathered line. Assumes nothing.
use mathlib.Core.Path.{◌≡◌, refl, sym, ap, ◌∙◌}
use mathlib.Core.List.{List}
use Prim.Native.Nat.{ℕ, zero, suc, ◌+◌, ◌-◌, ◌<◌, ◌≤◌, min}
use mathlib.Core.Logic.{⊎_elim}
use native.Mathlib.Nat.{add-zero, add-suc, add_assoc, min-le_right, not-suc-le-zero}
use native.Mathlib.Omega.{arith}
use lib.ListN.{length, get_or, set}
use Rattle.base.specs.Paint.{fill}
use Rattle.base.proofs.Painted.{length-fill, fill_at, fill_else, lt_or_ge}
use Rattle.taps.specs.Kernel.{Gathered, alike, onward, held_from}
use Rattle.taps.proofs.Loops.{Filling}

-- two runs, the second where the first ends
fill_join : (l : List ℕ) (at n k : ℕ) (f g : ℕ → ℕ) → ((c : ℕ) → c < k → g c ≡ f (n + c))
    → fill (fill l at n f) (at + n) k g ≡ fill l at (n + k) f
unfolding fill
fill_join l at n zero f g q = rw add-zero refl
fill_join l at n (suc k) f g q =
    let place : at + n + k ≡ at + (n + k) = omega arith in
    ap (λ (m : List ℕ). set m (at + n + k) (g k)) (fill_join l at n k f g (λ c lt. q c (omega arith)))
    ∙ ap (λ (v : ℕ). set (fill l at (n + k) f) (at + n + k) v) (q k (omega arith))
    ∙ ap (λ (j : ℕ). set (fill l at (n + k) f) j (f (n + k))) place
    ∙ sym (ap (λ (j : ℕ). fill l at j f) (add-suc n k))

-- four writes in a row
pub four_written : (l : List ℕ) (at : ℕ) (f : ℕ → ℕ) → set (set (set (set l at (f 0)) (at + 1) (f 1)) (at + 2) (f 2)) (at + 3) (f 3) ≡ fill l at 4 f
unfolding fill
four_written l at f = rw add-zero refl

-- a buffer filled so far, and n numbers more: a turn of a loop, or one of a list of calls
pub run_turn : {l : List ℕ} {at m : ℕ} {f : ℕ → ℕ} {now next : List ℕ} (from n end : ℕ) (g : ℕ → ℕ) → Filling l at m f now
    → from ≡ at + m → end ≡ m + n → next ≡ fill now from n g → ((k : ℕ) → k < n → g k ≡ f (m + k)) → Filling l at end f next
run_turn {l} {at} {m} {f} {now} {next} from n end g s p e written same = record {
  is = written ∙ rw (p, e, s.is) (fill_join l at m n f g same);
  long = ap length written ∙ length-fill now from n g ∙ s.long;
}

-- where the runs of a gathered line end, each fact by itself, since omega splits few cases
left_fits : (b m l : ℕ) → l ≡ min (200003 - b) m → l ≤ m
left_fits b m l left = omega arith

left_held : (last b m l c : ℕ) → l ≡ min (200003 - b) m → c < l → 0 ≡ min (b + c - 200003) last
left_held last b m l c left cl = omega arith

begun : (b m l : ℕ) → l ≡ min (200003 - b) m → l < m → l ≡ 200003 - b
begun b m l left lm = omega arith

middle_fits : (last m l s k : ℕ) → l ≤ m → s ≤ last → k ≡ min (last + 1 - s) (m - l) → (l + k ≤ m) × (s + k ≤ last + 1)
middle_fits last m l s k lm sl most = (omega arith, omega arith)

middle_held : (last b l s c : ℕ) → l ≡ 200003 - b → s ≡ min (b - 200003) last → s + c < last + 1 → s + c ≡ min (b + (l + c) - 200003) last
middle_held last b l s c left first sc = omega arith

ended : (last m l s k : ℕ) → k ≡ min (last + 1 - s) (m - l) → k < m - l → k ≡ last + 1 - s
ended last m l s k most km = omega arith

right_held : (last b l s k c : ℕ) → l ≡ 200003 - b → s ≡ min (b - 200003) last → k ≡ last + 1 - s → last ≡ min (b + (l + k + c) - 200003) last
right_held last b l s k c left first most = omega arith

-- of m lifted columns from b on, l stand left of the plane; k more are the row from s on; what is left stands right of it
pub record Cut (last b m l s k : ℕ) : Type 0 where
  pub fits : (l + k ≤ m) × (s + k ≤ last + 1)
  pub left : (c : ℕ) → c < l → 0 ≡ min (b + c - 200003) last
  pub middle : (c : ℕ) → c < k → s + c ≡ min (b + (l + c) - 200003) last
  pub right : (c : ℕ) → c < m - l - k → last ≡ min (b + (l + k + c) - 200003) last

pub cut : (last b m l s k : ℕ) → l ≡ min (200003 - b) m → s ≡ min (b - 200003) last → k ≡ min (last + 1 - s) (m - l) → Cut last b m l s k
cut last b m l s k left first most =
    let fits = middle_fits last m l s k (left_fits b m l left) (rw first (min-le_right _ _)) most in
    record {
      fits = fits;
      left = λ c cl. left_held last b m l c left cl;
      middle = λ c ck. middle_held last b l s c (begun b m l left (less l k m c ck fits.0)) first (more s k c last ck fits.1);
      right = λ c cr. right_held last b l s k c (begun b m l left (gap l k m c cr)) first (ended last m l s k most (rest l k m c cr));
    }
  where
    less : (l k m c : ℕ) → c < k → l + k ≤ m → l < m
    less l k m c ck fit = omega arith

    more : (s k c last : ℕ) → c < k → s + k ≤ last + 1 → s + c < last + 1
    more s k c last ck fit = omega arith

    gap : (l k m c : ℕ) → c < m - l - k → l < m
    gap l k m c cr = omega arith

    rest : (l k m c : ℕ) → c < m - l - k → k < m - l
    rest l k m c cr = omega arith

-- ---- runs with scratch past them

pub gathered_none : (l : List ℕ) (at : ℕ) (f : ℕ → ℕ) → Gathered l l at 0 f
gathered_none l at f = record { len = refl; before = λ i h. refl; is = λ c h. absurd (not-suc-le-zero h) }

pub gathered_fill : {l0 l1 : List ℕ} (at n : ℕ) (f : ℕ → ℕ) → at + n ≤ length l0 → l1 ≡ fill l0 at n f → Gathered l0 l1 at n f
gathered_fill {l0} {l1} at n f fit e = record {
  len = ap length e ∙ length-fill l0 at n f;
  before = λ i h. ap (λ (l : List ℕ). get_or l i 0) e ∙ fill_else l0 at n f i (λ k kn same. omega arith);
  is = λ c h. ap (λ (l : List ℕ). get_or l (at + c) 0) e ∙ fill_at l0 at n f fit c h;
}

-- less of a run, told otherwise
pub gathered_less : {l0 l1 : List ℕ} {at n : ℕ} {f : ℕ → ℕ} (m : ℕ) (g : ℕ → ℕ) → Gathered l0 l1 at n f → m ≤ n
    → ((c : ℕ) → c < m → f c ≡ g c) → Gathered l0 l1 at m g
gathered_less {l0} {l1} {at} {n} {f} m g s mn same = record {
  len = s.len;
  before = s.before;
  is = λ c h. s.is c (omega arith) ∙ same c h;
}

-- a run and, from its place o on, another one: what the first left past its end does not show
pub gathered_join : {l0 l1 l2 : List ℕ} {at n from k : ℕ} {f g : ℕ → ℕ} (o end : ℕ) → Gathered l0 l1 at n f → Gathered l1 l2 from k g
    → from ≡ at + o → o ≤ n → end ≡ o + k → ((c : ℕ) → c < k → g c ≡ f (o + c)) → Gathered l0 l2 at end f
gathered_join {l0} {l1} {l2} {at} {n} {from} {k} {f} {g} o end s t place on long same = record {
  len = t.len ∙ s.len;
  before = λ i h. t.before i (omega arith) ∙ s.before i h;
  is =
      λ c h. ⊎_elim
      (λ lt. t.before (at + c) (omega arith) ∙ s.is c (omega arith))
      (λ ge.
      let e : at + c ≡ from + (c - o) = omega arith in
      let back : o + (c - o) ≡ c = omega arith in
      ap (λ (j : ℕ). get_or l2 j 0) e ∙ t.is (c - o) (omega arith) ∙ same (c - o) (omega arith) ∙ ap f back)
      (lt_or_ge c o);
}

-- the next eight of a run of n, or its last eight
pub overlap : (c n o : ℕ) → 8 ≤ n → o ≡ min c (n - 8) → (o ≤ min c n) × (min (c + 8) n ≡ o + 8)
overlap c n o long e = (omega arith, omega arith)

pub onward_on : (row : List ℕ) (s o k : ℕ) → onward row (s + o) k ≡ onward row s (o + k)
unfolding onward
onward_on row s o k = ap (λ (j : ℕ). get_or row j 0) (add_assoc s o k)

-- the three runs of a gathered line
pub three-runs : {last b m l s k : ℕ} {l0 l1 l2 l3 : List ℕ} {at : ℕ} (row : List ℕ) → Cut last b m l s k
    → Gathered l0 l1 at l (alike (get_or row 0 0)) → Gathered l1 l2 (at + l) k (onward row s)
    → Gathered l2 l3 (at + l + k) (m - l - k) (alike (get_or row last 0)) → Gathered l0 l3 at m (held_from row last b)
unfolding alike onward held_from
three-runs {last} {b} {m} {l} {s} {k} {l0} {l1} {l2} {l3} {at} row t left middle right =
    let all : m ≡ l + k + (m - l - k) = omega (arith, t.fits.0) in
    let one = gathered_less l (held_from row last b) left (omega arith) (λ c h. ap (λ (j : ℕ). get_or row j 0) (t.left c h)) in
    let two = gathered_join l (l + k) one middle refl (omega arith) refl (λ c h. ap (λ (j : ℕ). get_or row j 0) (t.middle c h)) in
    gathered_join (l + k) m two right (omega arith) (omega arith) all (λ c h. ap (λ (j : ℕ). get_or row j 0) (t.right c h))
