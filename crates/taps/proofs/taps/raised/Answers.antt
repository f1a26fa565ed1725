-- `taps::taps::raised` meets its contract: each tap of the table is at least -24. Assumes nothing.
use mathlib.Core.Path.{◌≡◌, refl, sym, ap, ◌∙◌}
use mathlib.Core.Bool.{true}
use mathlib.Core.List.{List, []}
use Prim.Native.Nat.{ℕ, suc, ◌+◌, ◌-◌, ◌<◌, ◌≤◌}
use native.Mathlib.Omega.{arith}
use borrow.Author.Tests.{leb-true, le-ltb}
use lib.Dec.{leb}
use lib.IntN.{ℤ, pos, negsuc, ◌+ℤ◌, nat_abs}
use lib.ListN.{get_or}
use mir.Syntax.{w16}
use mir.Val.{SFits}
use Rattle.base.specs.Number.{between}
use Rattle.base.proofs.Bd.{bd, fits}
use Rattle.base.proofs.Tests.{and_left}
use Rattle.base.proofs.Casts.{sum_fits, lift_casts, lift_gives}
use Rattle.taps.specs.Taps.{filters, tap}
use Rattle.taps.proofs.TapRules.{tap_range}
use Rattle.taps.proofs.taps.raised.Goals as goal

-- z is a tap of the machine, and n with 24 added
record Up (z : ℤ) : Type 0 where
  n : ℕ
  is : z +ℤ pos 24 ≡ pos n
  le : n ≤ 152
  held : SFits w16 z

up : (z : ℤ) → between (negsuc 23) (pos 128) z ≡ true → Up z
unfolding between
up (pos n) e =
    let h : n ≤ 128 = leb-true n 128 e in
    record { n = n + 24; is = refl; le = omega arith; held = fits (bd (pos n) h) tt }
up (negsuc n) e =
    let h : n ≤ 23 = leb-true n 23 (and_left (leb n 23) true e) in
    let small : nat_abs (negsuc n) ≤ 128 = omega arith in
    record { n = 24 - suc n; is = simp (le-ltb 24 (suc n) (omega arith)); le = omega arith; held = fits (bd (negsuc n) small) tt }

-- what stands in the table is the tap
module _ (table : List (List (List ℤ))) (filter phase t : ℕ) (is : table ≡ filters) where
  abbrev elem : ℤ
  elem = get_or (get_or (get_or table filter []) phase []) t (pos 0)

  here : elem ≡ tap filter phase t
  unfolding tap
  here = ap (λ (l : List (List (List ℤ))). get_or (get_or (get_or l filter []) phase []) t (pos 0)) is

  lifted : (filter < 4) × (phase < 16) × (t < 8) → Up elem
  lifted b = up elem (rw here (tap_range filter phase b.0 b.1 t b.2))

pub overflow_add-result : goal.overflow_add-result
overflow_add-result c =
    let a = c.args in
    let u = lifted _ a.filter a.phase a.t c.subpel_table.ensures c.requires in
    sum_fits w16 w16 _ 24 u.n u.held u.is (omega (arith, u.le))

pub overflow_cast-result : goal.overflow_cast-result
overflow_cast-result c =
    let a = c.args in
    let u = lifted _ a.filter a.phase a.t c.subpel_table.ensures c.requires in
    lift_casts w16 w16 _ 24 u.n u.held u.is (omega (arith, u.le)) (omega (arith, u.le))

pub returns : goal.returns
returns c =
    let a = c.args in
    let u = lifted _ a.filter a.phase a.t c.subpel_table.ensures c.requires in
    let e = lift_gives w16 w16 _ 24 u.n u.held u.is (omega (arith, u.le)) in
    rw e (record { is = sym u.is ∙ ap (λ (z : ℤ). z +ℤ pos 24) (here _ _ _ _ c.subpel_table.ensures); le = u.le })
