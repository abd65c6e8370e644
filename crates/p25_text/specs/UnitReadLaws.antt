-- No words of a unit line are refused as a line that is too long. By the steps of reading them.
use Rattle.std.specs.Prelude.{◌≡◌, ◌≢◌, ℕ, List, [], ◌∷◌, ok_or, Err}
use Rattle.p25_line.specs.declared.fault.LineFault.TheVariants.{Key, Long, Value}
use Rattle.p25_line.proofs.LineReadLaws.{found-not_long, named-not_long, or-not_long}
use Rattle.p25_text.specs.{Grammar.{read_kind, read_values, read_words, unit_in, values_behind}, Names.{keys_of, kind_named}}
use Rattle.p25_text.specs.declared.names.UnitKind.{UnitKind}

kind-not_long : (kind : UnitKind) (words : List (List ℕ)) → read_kind kind words ≡ Err Long → ⊥
kind-not_long kind words e =
    let found = values_behind (keys_of kind) words in
    let by_value = λ (values : List (List ℕ)). or-not_long (unit_in kind values) Value (λ same. cc same) in
    found-not_long (read_values kind) by_value (ok_or found Key) (or-not_long found Key (λ same. cc same)) e

pub unit_words_not_long : (words : List (List ℕ)) → read_words words ≢ Err Long
unit_words_not_long [] e = cc e
unit_words_not_long (first ∷ words) e = named-not_long read_kind words (λ kind. kind-not_long kind words) (kind_named first) e
