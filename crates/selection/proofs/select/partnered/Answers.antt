-- `partnered` meets its contract: the code is the definition over what it calls. Assumes nothing.
use Rattle.selection.specs.Select.{partnered}
use Rattle.selection.proofs.select.partnered.Goals as goal

pub returns : goal.returns
unfolding partnered
returns c = rw (c.own_vector.ensures, c.partner_off.ensures.0)
