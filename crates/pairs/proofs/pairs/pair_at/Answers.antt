-- `pairs::pairs::pair_at` meets its contract: two samples are enough. Assumes nothing.
use mathlib.Core.Path.{◌∙◌}
use Rattle.pairs.proofs.Two.{pair_at}
use Rattle.pairs.proofs.pairs.pair_at.Goals as goal

pub returns : goal.returns
returns c =
    let a = c.args in
    c.pair.ensures ∙ pair_at a.max a.p.sixteenths a.l.now a.n a.s a.p.small
