use Rattle.std.proofs.{Common.{◌≡◌, ℕ, ◌<◌, ◌++◌, [], ◌∷◌, List, arith}, lemmas.List.Elements.{All-from_get_or}}
use Rattle.p25_bits.specs.{Numbers.{number_bits, numbers_from}}
use Rattle.p25_bits.proofs.NumbersLaws.{number_bits-octets}
use Rattle.p25_trellis.specs.{Nearest.{path_from}, Trellis.{IsPath, sent_bits}}
use Rattle.p25_trellis.proofs.{PathLaws.{same_block}, NearestLaws.{same_block_from, IsPath-path_from, Carries-path_from}}
use Rattle.p25_trellis.proofs.block.encode_block.Goals as goal
use Rattle.p25_trellis.proofs.block.encode_block.Given as given

-- the symbols that the bits of octets write, and then 0
path_from-is : (width read : ℕ) (octets symbols : List ℕ) → read ≡ width → symbols ≡ numbers_from read 48 (number_bits 8 octets) → path_from width octets ≡ symbols ++ 0 ∷ []
unfolding path_from
path_from-is width read octets symbols same is =
    rw (is, number_bits-octets octets, same)

-- it is a path
is_path-of : (g : given.Over) (octets symbols : List ℕ) (read : ℕ) → read ≡ g.R.Rate.BITS_PER_SYMBOL → symbols ≡ numbers_from read 48 (number_bits 8 octets)
    → IsPath g.R.Rate.STATES (symbols ++ 0 ∷ [])
is_path-of g octets symbols read same is =
    rw (path_from-is g.R.Rate.BITS_PER_SYMBOL read octets symbols) at (IsPath-path_from g.R.Rate.STATES g.R.Rate.BITS_PER_SYMBOL octets g.met.R.Rate.table.states_of_bits)

pub nibbles_of-requires : goal.nibbles_of-requires
nibbles_of-requires g c = (is_path-of g c.args.octets.now c.regroup.new.target c.BITS_PER_SYMBOL.result c.BITS_PER_SYMBOL.ensures c.regroup.ensures).below

pub returns-clause-block : goal.returns-clause-block
unfolding sent_bits
returns-clause-block g c =
    let target = c.regroup.new.target in
    let width = g.R.Rate.BITS_PER_SYMBOL in
    let octets = c.args.octets.now in
    let path = target ++ 0 ∷ [] in (
      number_bits 4 _,
      record {
        path = path;
        is_path = is_path-of g octets target c.BITS_PER_SYMBOL.result c.BITS_PER_SYMBOL.ensures c.regroup.ensures;
        carries = rw (path_from-is width c.BITS_PER_SYMBOL.result octets target c.BITS_PER_SYMBOL.ensures c.regroup.ensures) at
            (Carries-path_from width octets (omega (arith, c.requires.octets, g.met.R.Rate.table.octets_of_bits)) (All-from_get_or (λ octet. octet < 256) octets 0 (λ k inside. omega (arith, c.type_inv.octets k))));
        sent = rw c.nibbles_of.ensures.value;
      },
      c.append_nibbles.ensures.list,
    )

pub returns-clause-only : goal.returns-clause-only
returns-clause-only g c =
    let sent = returns-clause-block g c in
    λ block is.
    cc (sent.2, same_block g.R.Rate.STATES g.R.Rate.BITS_PER_SYMBOL g.R.Rate.point_of c.args.octets.now sent.0 block g.met.R.Rate.table.states_of_bits sent.1 is)

pub returns-clause-value : goal.returns-clause-value
returns-clause-value g c =
    let rate = g.R.Rate in
    let sent = returns-clause-block g c in
    cc (sent.2, same_block_from rate.STATES rate.BITS_PER_SYMBOL rate.point_of c.args.octets.now sent.0 g.met.R.Rate.table.states_of_bits (omega (arith, c.requires.octets, g.met.R.Rate.table.octets_of_bits)) sent.1)
