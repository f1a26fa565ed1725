-- `chosen` meets its contract, branch by branch; a partner that is asked for stands within the block. Assumes nothing.
use mathlib.Core.Path.{refl, sym, ◌∙◌}
use Prim.Native.Nat.{◌+◌, ◌<◌, ◌≤◌}
use native.Mathlib.Omega.{arith}
use Rattle.selection.specs.Select.{chosen, partner_off}
use Rattle.selection.proofs.Means.{legal_pair, mean_pair}
use Rattle.selection.proofs.Parts.{legal_at, partner_below}
use Rattle.selection.proofs.select.chosen.Goals as goal
use Rattle.selection.proofs.select.chosen.Goals.{After-partner_off-far}

partner : (c : After-partner_off-far) → c.args.b + c.partner_off-far.result < 4
partner c =
    let x = c.args in
    let far_is = c.partner_off-far.ensures.0 in
    let small : partner_off x.sx x.sy ≤ 2 = omega (arith, far_is, c.partner_off-far.ensures.1) in
    let h = partner_below x.plane x.size x.b x.sx x.sy (sym c.own_vector.ensures ∙ c.if-own_vector.false) small c.requires.partner in
    omega (arith, far_is)

pub returns-then-own_vector : goal.returns-then-own_vector
unfolding chosen
returns-then-own_vector c = rw (sym c.own_vector.ensures ∙ c.if-own_vector.true) refl

pub returns-then-sx-sy : goal.returns-then-sx-sy
unfolding chosen
returns-then-sx-sy c = rw (sym c.own_vector.ensures ∙ c.if-own_vector.false, c.if-sx-sy.true) c.all_four.ensures

pub bounds-m-b-then-sx-sy-2 : goal.bounds-m-b-then-sx-sy-2
bounds-m-b-then-sx-sy-2 c = partner c

pub mean-requires : goal.mean-requires
mean-requires c =
    let at = legal_at c.args.m c.args.list c.requires.legal in
    let first = at c.args.b c.requires.within.1 in
    let second = at (c.args.b + c.partner_off-far.result) (partner c.before) in
    (omega arith, ((omega arith, omega arith), legal_pair _ _ first second))

pub returns-then-sx-sy-2 : goal.returns-then-sx-sy-2
unfolding chosen
returns-then-sx-sy-2 c =
    rw (sym c.own_vector.ensures ∙ c.if-own_vector.false, c.if-sx-sy.false, c.if-sx-sy-2.true)
    (c.mean.ensures ∙ mean_pair _ _ ∙ rw c.partner_off-far.ensures.0)

pub returns : goal.returns
unfolding chosen
returns c = rw (sym c.own_vector.ensures ∙ c.if-own_vector.false, c.if-sx-sy.false, c.if-sx-sy-2.false) refl
