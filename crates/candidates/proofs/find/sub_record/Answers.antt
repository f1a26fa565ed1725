-- `candidates::sub_record` meets its contract: the first list of the target frame offers. Assumes nothing.
use mathlib.Core.Path.{◌≡◌}
use mathlib.Core.Bool.{true, false}
use mir.Syntax.{w32}
use Rattle.base.specs.Number.{equal}
use Rattle.base.proofs.Bits.{equal_yes, equal_no}
use Rattle.records.specs.Tables.{frame_at}
use Rattle.candidates.specs.Offers.{offers, of_target}
use Rattle.candidates.specs.Scan.{sub_record}
use Rattle.candidates.proofs.find.sub_record.Goals as goal
use Rattle.candidates.proofs.find.sub_record.Goals.{Else-frame_at-target-2}

no-1 : (c : Else-frame_at-target-2)
    → let a = c.args in
    equal (frame_at a.tables.frames.now a.i 1) a.target ≡ false
no-1 c =
    rw (← c.frame_at-2.ensures)
    (equal_no w32 c.frame_at-2.result c.args.target (record { sfits = c.frame_at-2.type_inv }) c.ranges.target c.if-frame_at-target-2.false)

pub returns-then-frame_at-target : goal.returns-then-frame_at-target
unfolding sub_record of_target offers
returns-then-frame_at-target c =
    let yes-0 : let a = c.args in equal (frame_at a.tables.frames.now a.i 0) a.target ≡ true = rw (← c.frame_at.ensures)
    (equal_yes w32 c.frame_at.result c.args.target (record { sfits = c.frame_at.type_inv }) c.ranges.target c.if-frame_at-target.true) in
    rw (yes-0, ← c.sub_at.ensures.is) c.add.ensures

pub returns-then-frame_at-target-2 : goal.returns-then-frame_at-target-2
unfolding sub_record of_target offers
returns-then-frame_at-target-2 c =
    let no-0 : let a = c.args in equal (frame_at a.tables.frames.now a.i 0) a.target ≡ false = rw (← c.frame_at.ensures)
    (equal_no w32 c.frame_at.result c.args.target (record { sfits = c.frame_at.type_inv }) c.ranges.target c.if-frame_at-target.false) in
    let yes-1 : let a = c.args in
    equal (frame_at a.tables.frames.now a.i 1) a.target ≡ true = rw (← c.frame_at-2.ensures)
    (equal_yes w32 c.frame_at-2.result c.args.target (record { sfits = c.frame_at-2.type_inv }) c.ranges.target c.if-frame_at-target-2.true) in
    rw (no-0, yes-1, ← c.sub_at-then-frame_at-target-2.ensures.is) c.add-then-frame_at-target-2.ensures

pub returns : goal.returns
unfolding sub_record of_target offers
returns c =
    let no-0 : let a = c.args in equal (frame_at a.tables.frames.now a.i 0) a.target ≡ false = rw (← c.frame_at.ensures)
    (equal_no w32 c.frame_at.result c.args.target (record { sfits = c.frame_at.type_inv }) c.ranges.target c.if-frame_at-target.false) in
    rw (no-0, no-1 c)
