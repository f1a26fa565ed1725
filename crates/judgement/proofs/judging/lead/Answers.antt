-- `lead` meets its contract: each call's result is its definition's. Assumes nothing.
use Rattle.base.proofs.Casts.{read_back}
use Rattle.judgement.proofs.Leading.{mv_is, plane_mv_is, lead_is}
use Rattle.judgement.proofs.judging.lead.Goals as goal

pub returns : goal.returns
returns c =
    let a = c.args in
    let r = c.struct_told-1.given in
    let f = c.struct_told-2-1.given in
    let e =
    rw (
      read_back a.geom.frame_width r.0.1,
      read_back a.geom.frame_height r.1.0.1,
      read_back a.frame.width f.0.1,
      read_back a.frame.height f.1.0.1,
      read_back a.args.x c.struct_told-3-1.given.1.0.1,
      read_back a.args.y c.struct_told-4-1.given.1.1.0.1,
    )
    at c.scale_mv-scale.ensures in
    lead_is a.args a.grid a.frame a.geom a.of c.select_mv-select.result c.unwrap_or_default.result c.clamp_mv-clamp.result
    c.unwrap_or_default-2.result c.scale_mv-scale.result
    c.select_mv-select.ensures (mv_is _ _ c.unwrap_or_default.ensures) c.clamp_mv-clamp.ensures (plane_mv_is _ _ c.unwrap_or_default-2.ensures) e
