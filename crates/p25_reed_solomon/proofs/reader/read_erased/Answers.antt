use Rattle.std.proofs.{Common.{◌≡◌, ℕ, ◌<◌, length, ap, sym, refl, inl, inr, arith}, lemmas.Bool.{both_ways, cases_lt}}
use Rattle.p25_bits.proofs.DistanceLaws.{distance_by-same}
use Rattle.p25_gf64.specs.{Gf64.{gf64}}
use Rattle.p25_algebra.specs.{Series.{coefficient}}
use Rattle.p25_code.specs.Erasures.{erased_cost, IsErasedReading}
use Rattle.p25_reed_solomon.specs.{Words.{same_symbols}, Errors.{erased_below}, DistanceLaws.{same_symbols-same}}
use Rattle.p25_reed_solomon.proofs.ReaderLaws.{difference_explains, cost_of_errors, cost_of_received, cost_of_erasures, corrected, changed_letters, vanishes_at}
use Rattle.p25_reed_solomon.proofs.reader.read_erased.Goals as goal

pub returns-then-count_erasures-checks : goal.returns-then-count_erasures-checks
unfolding IsErasedReading
returns-then-count_erasures-checks c =
    record {
      unchanged = refl;
      none_within = record {
        dearer = λ word of_code. omega (
          arith,
          cost_of_erasures (length c.args.word.now),
          c.count_erasures.ensures.count,
          ap (erased_below c.args.erased.now) c.requires.erased,
        );
      };
    }

pub returns-then-are_syndromes_zero : goal.returns-then-are_syndromes_zero
unfolding IsErasedReading
returns-then-are_syndromes_zero c =
    let word = c.args.word.now in
    let n = length word in
    record {
      word_of_set = record { long = refl; vanishes = λ i low high. vanishes_at n _ word (c.are_syndromes_zero.ensures.clean c.if-are_syndromes_zero.true) i low high };
      fixes_is = sym (distance_by-same same_symbols same_symbols-same word);
      within = omega (arith, cost_of_received n, c.count_erasures.ensures.count, ap (erased_below c.args.erased.now) c.requires.erased);
    }

pub returns-then-not-find_errors : goal.returns-then-not-find_errors
unfolding IsErasedReading
returns-then-not-find_errors c =
    let word_given = c.args.word.now in
    record {
      unchanged = refl;
      none_within = record {
        dearer = λ word of_code. elim (cases_lt _ (erased_cost same_symbols _ word)) [
          | inl far ↦ far
          | inr near ↦
              absurd (both_ways c.find_errors.result c.if-not-find_errors.true (c.find_errors.ensures.complete (λ j. gf64.add (coefficient gf64 word_given j) (coefficient gf64 word j))
              (rw c.requires.erased (difference_explains (length word_given) c.args.k word_given word c.are_syndromes_zero.new.out c.args.erased.now c.requires.code refl c.requires.erased of_code
              (c.are_syndromes_zero.ensures.values c.if-are_syndromes_zero.false) near))))
        ];
      };
    }

pub returns : goal.returns
unfolding IsErasedReading
returns c =
    let word = c.args.word.now in
    let loop = c.loop-j in
    let out = c.are_syndromes_zero.new.out in
    let erased = c.args.erased.now in
    let n = length word in
    let k = c.args.k in
    let errors = coefficient gf64 c.find_errors.new.out in
    let explains = rw c.requires.erased at (c.find_errors.ensures.found c.if-not-find_errors.false) in
    let long = loop.invariant.long in
    let added : (j : ℕ) → j < n → coefficient gf64 loop.word j ≡ gf64.add (coefficient gf64 word j) (errors j) = λ j below. loop.invariant.added j (omega (arith, below)) in
    record {
      word_of_set = corrected n k word loop.word out erased errors c.requires.code refl long
          (c.are_syndromes_zero.ensures.values c.if-are_syndromes_zero.false) explains added;
      fixes_is = cc (c.weight.ensures, c.find_errors.ensures.places, c.requires.erased, changed_letters n word loop.word errors refl long added);
      within = cost_of_errors n k word loop.word out erased errors refl long c.requires.erased explains added;
    }
