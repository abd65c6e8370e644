-- Network identifiers (NID) as 64 transmitted bits: NAC, DUID, 47 check bits and P.
use Rattle.std.specs.Prelude.{◌≡◌, ℕ, ◌+◌, ◌*◌, ◌/◌, ◌%◌, ◌^◌, ◌<◌, ◌==◌, ◌||◌, if◌then◌else◌}
use Rattle.p25_bits.specs.Divisible.{IsDivisible}
use Rattle.p25_bch_nid.specs.Duids.{duid_ldu1, duid_ldu2}

-- the generator of BCH(63,16), octal 6331141367235453, of degree 47
abbrev pub generator : ℕ
generator = 0xCD930BDD3B2B

-- P by the rule for transmitters: 1 for an LDU1 and an LDU2, 0 for every other data unit
abbrev pub parity_of : ℕ → ℕ
parity_of duid = if duid == duid_ldu1 || duid == duid_ldu2 then 1 else 0

-- the 64 transmitted bits of a network identifier (NID), as a number: a BCH codeword that begins with NAC and DUID, and P
pub record IsSent (nac duid bits : ℕ) : Type 0 where
  pub word : IsDivisible generator (bits / 2)
  pub information : bits / 2 ^ 48 ≡ 16 * nac + duid
  pub parity : bits % 2 ≡ parity_of duid
  pub fits : bits < 2 ^ 64
