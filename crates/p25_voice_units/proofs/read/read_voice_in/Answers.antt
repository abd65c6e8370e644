use Rattle.std.proofs.Common.{◌≡◌, inl, inr, length, Some, None, refl, sym, ◌∙◌, arith}
use Rattle.p25_voice_units.specs.Lengths.{voice_length_of}
use Rattle.p25_voice_units.proofs.{CountedLaws.{end_fixes}, LengthsLaws.{length-header, length-ldu1, length-ldu2, length-tdulc, length-other}}
use Rattle.p25_voice_units.proofs.KindsLaws.{long_by_kind, reading-header, reading-end, reading-tdulc, reading_by_kind}
use Rattle.p25_voice_units.proofs.read.read_voice_in.Goals as goal

pub read_hdu-requires : goal.read_hdu-requires
read_hdu-requires c = omega (arith, long_by_kind c.args.duid 0 770 (length c.args.bare.now) c.in-0.is length-header c.requires)

pub read_logical_link-requires-clause-kind : goal.read_logical_link-requires-clause-kind
read_logical_link-requires-clause-kind c = inl c.in-5.is

pub read_logical_link-requires-clause-there : goal.read_logical_link-requires-clause-there
read_logical_link-requires-clause-there c = omega (arith, long_by_kind c.args.duid 5 1680 (length c.args.bare.now) c.in-5.is length-ldu1 c.requires)

pub read_logical_link-requires-in-10-clause-kind : goal.read_logical_link-requires-in-10-clause-kind
read_logical_link-requires-in-10-clause-kind c = inr c.in-10.is

pub read_logical_link-requires-in-10-clause-there : goal.read_logical_link-requires-in-10-clause-there
read_logical_link-requires-in-10-clause-there c = omega (arith, long_by_kind c.args.duid 10 1680 (length c.args.bare.now) c.in-10.is length-ldu2 c.requires)

pub read_tdulc-requires : goal.read_tdulc-requires
read_tdulc-requires c = omega (arith, long_by_kind c.args.duid 15 420 (length c.args.bare.now) c.in-15.is length-tdulc c.requires)

pub returns-in-0-clause-value : goal.returns-in-0-clause-value
returns-in-0-clause-value c = reading_by_kind c.args.duid 0 c.args.bare.now _ _ c.in-0.is c.read_hdu.ensures.value (reading-header c.args.bare.now)

pub returns-in-3-clause-value : goal.returns-in-3-clause-value
returns-in-3-clause-value c = reading_by_kind c.args.duid 3 c.args.bare.now _ _ c.in-3.is refl (reading-end c.args.bare.now)

pub returns-in-3-clause-wrong : goal.returns-in-3-clause-wrong
returns-in-3-clause-wrong c = end_fixes c.args.bare.now

pub returns-in-15-clause-value : goal.returns-in-15-clause-value
returns-in-15-clause-value c = reading_by_kind c.args.duid 15 c.args.bare.now _ _ c.in-15.is c.read_tdulc.ensures.value (reading-tdulc c.args.bare.now)

pub unreachable-requires : goal.unreachable-requires
unreachable-requires c =
    let none : voice_length_of c.args.duid ≡ None
    = length-other c.args.duid (λ is. omega arith) (λ is. omega arith) (λ is. omega arith) (λ is. omega arith) (λ is. omega arith) in
    let both : None ≡ Some (length c.args.bare.now) = sym none ∙ c.requires in
    cc
