-- `judge` meets its contract: the calls' answers make the table's number, and the starts are where they lead. Assumes nothing.
use mathlib.Core.Path.{◌≡◌, ap, ◌∙◌}
use mathlib.Core.Bool.{Bool, ◌&&◌}
use lib.Dec.{leb}
use Rattle.judgement.specs.Whole.{Whole, whole}
use Rattle.judgement.specs.Seen.{seen}
use Rattle.judgement.specs.Chain.{Lead, refusal}
use Rattle.judgement.specs.declared.judging.InterPredArgs.{InterPredArgs}
use Rattle.judgement.proofs.Joined.{lendings, joined}
use Rattle.judgement.proofs.Leading.{start_is}
use Rattle.judgement.proofs.judging.judge.Goals as goal

same-refusal : (b : InterPredArgs) {one one' two two' : Lead} {t u : Bool} → one ≡ one' → two ≡ two' → t ≡ u
    → refusal b one two t ≡ refusal b one' two' u
same-refusal b e f h = rw (e, f, h)

pub returns : goal.returns
returns c =
    let x = c.args in
    let a : Whole = whole x.args x.grid x.frame x.mvs (seen x.one) (seen x.two) x.dest in
    let e = c.lead-first.ensures in
    let f = c.lead_also-second.ensures in
    let lent : (c.lends.result && c.lends_also.result && c.dest_fits.result && leb 8576 c.args.m) ≡ lendings a c.args.n c.args.m
    = rw (c.lends.ensures, c.lends_also.ensures, c.dest_fits.ensures) in
    record {
      number = c.allowed-answer.ensures ∙ same-refusal c.args.args e f lent ∙ joined a c.args.n c.args.m;
      from = start_is _ _ c.unwrap_or_default-from.ensures ∙ ap (λ (x : Lead). x.from) e;
      from2 = start_is _ _ c.unwrap_or_default-from2.ensures ∙ ap (λ (x : Lead). x.from) f;
    }
