use Rattle.std.proofs.Common.{◌≡◌, ◌-◌, ℕ, List, ◌++◌, drop, length, take, min, ap, subst, arith, ◌∙◌}
use Rattle.std.specs.Prelude.{OnOk}
use Rattle.p25_filter.specs.LineFilters.{LineFiltering, line_filtering}
use Rattle.p25_filter.proofs.LineFiltersLaws.{kept-of}
use Rattle.p25_filter.proofs.line_filter.LineFilter.keep.Goals as goal

pub returns : goal.returns
returns g c =
    let s = c.self.inside in
    let octets = c.args.octets.now in
    let fits = c.min-fits.ensures ∙ ap (λ (n : ℕ). min (length octets) (8193 - n)) c.len.ensures.value in
    let more = subst (λ r. OnOk r (c.try_extend_from_slice.new.self.items ≡ s.line.items ++ take c.min-fits.result octets)) c.unwrap.ensures c.try_extend_from_slice.ensures.ok in
    ap (λ (l : List ℕ). line_filtering s.machine l s.lines (drop s.given s.text) c.args.phase)
    (more ∙ kept-of g.M.LineMachine.rules s.line.items octets c.min-fits.result (omega (arith, c.len.ensures.value, c.len.ensures.fits)) fits)
    ∙ ap (λ (w : LineFiltering g.row.M.Denot). record w { line = take 8193 (w.line ++ octets); phase = c.args.phase }) c.self.view_is
