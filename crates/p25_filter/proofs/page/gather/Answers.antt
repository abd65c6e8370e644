use Rattle.std.proofs.Common.{[]}
use Rattle.p25_filter.specs.Goings.{Goes}
use Rattle.p25_filter.proofs.{GoingsLaws.{Goes-next, Goes-none, Goes-trans}, page.gather.Goals.{then-len-gt-LINE_MOST+in_ok-flush, else-len-gt-LINE_MOST}}
use Rattle.p25_filter.proofs.page.gather.Goals as goal

pub returns-clause-ok : goal.returns-clause-ok
returns-clause-ok g c = λ before now progress.
    let chain = g.met.P.Port.chain in
    let port = c.if-len-gt-LINE_MOST.port in
    let page = c.if-len-gt-LINE_MOST.page in
    let goes : Goes g.P.Port.moves c.args.port.now c.args.page.now before [] port page before =
    elim c.if-len-gt-LINE_MOST.branch [
      | then-len-gt-LINE_MOST+in_ok-flush w ↦ rw (w.port-is, w.page-is, w.in_ok-flush.ensures.empty) (w.in_ok-flush.ensures.ok before)
      | else-len-gt-LINE_MOST w ↦ rw (w.port-is, w.page-is) (Goes-none chain c.args.port.now c.args.page.now before)
    ] in
    rw (c.put.ensures.list, c.octets.ensures) (Goes-trans chain [] [] goes (Goes-next chain port page [] c.args.piece.now before now progress))
