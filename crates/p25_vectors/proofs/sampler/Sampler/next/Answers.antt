use Rattle.std.proofs.Common.{◌≡◌, ◌+◌, List, length, Bool, ap, sym, ◌∙◌, subst, arith}
use Rattle.p25_units.specs.{Needs.{need_of}, Readings.{unit_reading_of}, WithinRadius.{IsWithinRadius}, declared.needs.Need.TheVariants.{Length}}
use Rattle.p25_vectors.specs.Samples.{sample_bits, sample_flips, sample_frame, state_before}
use Rattle.p25_vectors.proofs.SampleLaws.{image-length, image-reads, image-within, sample-next}
use Rattle.p25_vectors.proofs.sampler.Sampler.next.Goals as goal

next : (c : goal.After-self-1) → let i = c.self.inside.given in
    (c.draw_frame-frame.result ≡ sample_frame i) × (c.put_damaged-flips.new.bits ≡ sample_bits i) × (c.put_damaged-flips.result ≡ sample_flips i)
    × (c.put_damaged-flips.new.draws ≡ state_before (i + 1))
next c =
    let frame = c.draw_frame-frame in
    let damage = c.put_damaged-flips in
    sample-next c.self.inside.given c.self.inside.draws frame.new.draws damage.new.draws damage.result c.kind_at.result frame.result damage.new.bits
    c.kind_at.ensures c.self.invariant.1 frame.ensures.frame frame.ensures.state damage.ensures.bits damage.ensures.flips damage.ensures.state

pub invariant_of-self : goal.invariant_of-self
invariant_of-self c = (omega (arith, c.requires, c.self.view_is), (next c).3)

pub returns-clause-frame : goal.returns-clause-frame
returns-clause-frame c = (next c).0 ∙ ap sample_frame c.self.view_is

pub returns-clause-bits : goal.returns-clause-bits
returns-clause-bits c = (next c).1 ∙ ap sample_bits c.self.view_is

pub returns-clause-flips : goal.returns-clause-flips
returns-clause-flips c = (next c).2 ∙ ap sample_flips c.self.view_is

pub returns-clause-within : goal.returns-clause-within
returns-clause-within c =
    let frame = c.draw_frame-frame in
    let damage = c.put_damaged-flips in
    subst (IsWithinRadius frame.result) (sym damage.ensures.bits) (image-within frame.result frame.ensures.sound damage.ensures.sendable frame.new.draws)

pub returns-clause-length : goal.returns-clause-length
returns-clause-length c =
    let frame = c.draw_frame-frame in
    let damage = c.put_damaged-flips in
    subst (λ (xs : List Bool). need_of xs ≡ Length (length xs)) (sym damage.ensures.bits) (image-length frame.result frame.ensures.sound damage.ensures.sendable frame.new.draws)

pub returns-clause-read : goal.returns-clause-read
returns-clause-read c =
    let frame = c.draw_frame-frame in
    let damage = c.put_damaged-flips in
    ap unit_reading_of damage.ensures.bits ∙ image-reads frame.result frame.ensures.sound damage.ensures.sendable frame.new.draws
