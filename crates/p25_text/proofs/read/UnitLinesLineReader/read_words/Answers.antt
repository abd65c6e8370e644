use Rattle.std.proofs.Common.{◌≡◌, ◌+◌, length, drop, sym, ap, ◌∙◌}
use Rattle.std.specs.Prelude.{ok_or}
use Rattle.p25_line.specs.{LineReadings.{found_read}, declared.fault.LineFault.TheVariants.{Key, Value}}
use Rattle.p25_text.specs.{Grammar.{read_values, values_behind}, Names.{keys_of}}
use Rattle.p25_text.proofs.{ReadLaws.{right_kind, wrong_count, wrong_kind}, WordLaws.{keyed-values_behind}}
use Rattle.p25_text.proofs.read.UnitLinesLineReader.read_words.Goals as goal

pub returns-in_default : goal.returns-in_default
returns-in_default c = sym (wrong_kind c.args.words.now c.first.result.now c.first.ensures (sym c.in_default.ensures))

pub returns-then-count-keys : goal.returns-then-count-keys
returns-then-count-keys c =
    let kind = c.in-Some.kind in
    let keys : c.keys-keys.result.now ≡ keys_of kind = c.keys-keys.ensures.keys in
    sym (wrong_count c.args.words.now c.first.result.now kind c.first.ensures (sym c.in-Some.ensures) (λ same. c.if-count-keys.true (c.count.ensures.count ∙ same ∙ ap (λ k. length k + 1) (sym keys))))

pub values_of_words-requires-clause-count : goal.values_of_words-requires-clause-count
values_of_words-requires-clause-count c = sym c.count.ensures.count ∙ c.if-count-keys.false

pub returns-in_default-values_of_words : goal.returns-in_default-values_of_words
returns-in_default-values_of_words c =
    let kind = c.in-Some.kind in
    let keys : c.keys-keys.result.now ≡ keys_of kind = c.keys-keys.ensures.keys in
    sym (right_kind c.args.words.now c.first.result.now kind c.first.ensures (sym c.in-Some.ensures)
    ∙ ap (λ values. found_read (read_values kind) (ok_or values Key)) (ap (λ k. values_behind k (drop 1 c.args.words.now)) (sym keys) ∙ sym c.in_default-values_of_words.ensures))

pub returns-in-Some-read_values : goal.returns-in-Some-read_values
returns-in-Some-read_values c =
    let kind = c.in-Some.kind in
    let keys : c.keys-keys.result.now ≡ keys_of kind = c.keys-keys.ensures.keys in
    sym (right_kind c.args.words.now c.first.result.now kind c.first.ensures (sym c.in-Some.ensures)
    ∙ ap (λ values. found_read (read_values kind) (ok_or values Key)) (ap (λ k. values_behind k (drop 1 c.args.words.now)) (sym keys) ∙ sym c.in-Some-values_of_words.ensures)
    ∙ ap (λ found. ok_or found Value) (sym c.in-Some-read_values.ensures))

pub returns-in-None : goal.returns-in-None
returns-in-None c =
    let kind = c.in-Some.kind in
    let keys : c.keys-keys.result.now ≡ keys_of kind = c.keys-keys.ensures.keys in
    sym (right_kind c.args.words.now c.first.result.now kind c.first.ensures (sym c.in-Some.ensures)
    ∙ ap (λ values. found_read (read_values kind) (ok_or values Key)) (ap (λ k. values_behind k (drop 1 c.args.words.now)) (sym keys) ∙ sym c.in-Some-values_of_words.ensures)
    ∙ ap (λ found. ok_or found Value) (sym c.in-None.ensures))

pub read_values-requires : goal.read_values-requires
read_values-requires c =
    let count = (keyed-values_behind c.keys-keys.result.now (drop 1 c.args.words.now) c.in-Some-values_of_words.values (sym c.in-Some-values_of_words.ensures)).1 in
    count ∙ ap length c.keys-keys.ensures.keys
