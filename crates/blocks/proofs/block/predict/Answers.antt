-- `blocks::block::predict` meets its contract: lifted positions are the signed ones. Assumes nothing.
use mathlib.Core.Path.{sym, ◌∙◌}
use native.Mathlib.Omega.{arith}
use borrow.Author.Tests.{eqb-true}
use Rattle.passes.proofs.Blocks.{written_same}
use Rattle.blocks.proofs.Bridge.{bridge}
use Rattle.blocks.proofs.Facts.{legal_says}
use Rattle.blocks.proofs.block.predict.Goals as goal

pub axis-x-requires : goal.axis-x-requires
axis-x-requires c = let f = legal_says _ _ c.requires.legal in (f.from.left, f.from.across)

pub axis-y-requires : goal.axis-y-requires
axis-y-requires c = let f = legal_says _ _ c.requires.legal in (f.from.top, f.from.down)

pub pair_block-requires-clause-bounds : goal.pair_block-requires-clause-bounds
pair_block-requires-clause-bounds c =
    let f = legal_says _ _ c.requires.legal in
    omega (arith, f.h, c.area-size.ensures, c.requires.out_value)

pub returns-then-by_pairs : goal.returns-then-by_pairs
returns-then-by_pairs c =
    let a = c.args in
    let three = eqb-true a.shape.filter 3 (sym c.by_pairs.ensures ∙ c.if-by_pairs.true) in
    let s = c.area-size.ensures in
    rw (c.bands-plane.ensures, c.axis-x.ensures.1, c.axis-y.ensures.1, s.0, s.1, sym three) at c.pair_block.ensures
    ∙ written_same a.mean _ _ _ _ _ _
    (λ r k rh kw.
    bridge a.shape a.geom a.from a.upper.now a.lower.now _ _ _ r k s.2 c.axis-x.ensures.0 c.axis-y.ensures.0)

pub block-requires-clause-bounds : goal.block-requires-clause-bounds
block-requires-clause-bounds c =
    let f = legal_says _ _ c.requires.legal in
    omega (arith, f.filter, f.h, c.area-size.ensures, c.requires.out_value)

pub returns : goal.returns
returns c =
    let a = c.args in
    let s = c.area-size.ensures in
    rw (c.bands-plane.ensures, c.axis-x.ensures.1, c.axis-y.ensures.1, s.0, s.1) at c.block.ensures
    ∙ written_same a.mean _ _ _ _ _ _
    (λ r k rh kw.
    bridge a.shape a.geom a.from a.upper.now a.lower.now _ _ _ r k s.2 c.axis-x.ensures.0 c.axis-y.ensures.0)
