-- The texts of steps, and of the end of a run, have octets below 128 alone. By the texts of which they are made.
use Rattle.std.proofs.Common.{◌≡◌, ℕ, ◌+◌, ◌/◌, ◌&&◌, Bool, true, false, cond, List, [], ◌∷◌, ◌++◌, length, refl, ap₂}
use Rattle.std.specs.Prelude.{codes, decimal, nat_lt}
use Rattle.p25_bits.specs.Numbers.{octets_from}
use Rattle.p25_line.specs.{CommaLists.{comma_text}, Octets.{octets_text}}
use Rattle.p25_line.proofs.AsciiLaws.{ascii-append, ascii-comma_text, ascii-decimal, ascii-encode_lower, ascii-joined, ascii-octets_text, is_ascii}
use Rattle.p25_status.specs.FieldNames.{field_name}
use Rattle.p25_text.proofs.AsciiTextLaws.{ascii-field_name}
use Rattle.p25_messages.specs.declared.step_kind.StepKind.{StepKind}
use Rattle.p25_messages.specs.declared.step_kind.StepKind.TheVariants.{Taken, Resent, Reopened, Nothing, Lost, Ignored, Delivered, SynHeard, Again, Kept, RefusedCrc, RefusedOrder, Acknowledged, LinkOpened, Retry, Repeat}
use Rattle.p25_messages.specs.{declared.step_kind.Way.{Way}, declared.step_kind.Way.TheVariants.{Packets, Answers}}
use Rattle.p25_stations.specs.{WorldState.{WorldState}, declared.step.Step.{Step}, SessionTexts.{sessions_text}}
use Rattle.p25_script.specs.{Script.{way_word}, StepTexts.{closing_text_of, false_text, flags_text, kind_text, serials_of, step_text_of}}

ascii-way : (way : Way) → is_ascii (way_word way) ≡ true
ascii-way Packets = refl
ascii-way Answers = refl

-- words, and a number after them
numbered : (label : List ℕ) (number : ℕ) → is_ascii label ≡ true → is_ascii (label ++ decimal number) ≡ true
numbered label number low = ascii-append label (decimal number) low (ascii-decimal number)

-- words, and two numbers after them, each with its own
numbered_twice : (label : List ℕ) (number : ℕ) (next : List ℕ) (other : ℕ) → is_ascii label ≡ true → is_ascii next ≡ true
    → is_ascii (label ++ decimal number ++ next ++ decimal other) ≡ true
numbered_twice label number next other low also =
    ascii-joined label (decimal number ∷ next ∷ decimal other ∷ []) low (ap₂ ◌&&◌ (ascii-decimal number) (ap₂ ◌&&◌ also (ap₂ ◌&&◌ (ascii-decimal other) refl)))

-- the word of a way, and others after it
after_way : (way : Way) (text : List ℕ) → is_ascii text ≡ true → is_ascii (way_word way ++ text) ≡ true
after_way way text low = ascii-append (way_word way) text (ascii-way way) low

ascii-flags_text : (flags : List Bool) → is_ascii (flags_text flags) ≡ true
unfolding flags_text
ascii-flags_text flags = ascii-encode_lower (octets_from (length flags / 8) flags)

ascii-kind_text : (kind : StepKind) → is_ascii (kind_text kind) ≡ true
unfolding kind_text
ascii-kind_text (Taken number blocks) = numbered_twice (codes "send taken ns=") number (codes " blocks=") blocks refl refl
ascii-kind_text (Resent number tries) = numbered_twice (codes "timeout sent ns=") number (codes " try=") tries refl refl
ascii-kind_text (Reopened number) = numbered (codes "reopen sent ns=") number refl
ascii-kind_text (Nothing way) = after_way way (codes " none") refl
ascii-kind_text (Lost way field) = ascii-joined (way_word way) (codes " lost " ∷ field_name field ∷ []) (ascii-way way) (ap₂ ◌&&◌ (ascii-field_name field) refl)
ascii-kind_text (Ignored way) = after_way way (codes " ignored") refl
ascii-kind_text (Delivered number message) =
    ascii-joined (codes "data delivered ns=") (decimal number ∷ codes " message=" ∷ octets_text message ∷ []) refl
    (ap₂ ◌&&◌ (ascii-decimal number) (ap₂ ◌&&◌ (ascii-octets_text message) refl))
ascii-kind_text (SynHeard number) = numbered (codes "data opened ns=") number refl
ascii-kind_text (Again number) = numbered (codes "data again ack=") number refl
ascii-kind_text (Kept number flags) =
    ascii-joined (codes "data kept ns=") (decimal number ∷ codes " flags=" ∷ flags_text flags ∷ []) refl
    (ap₂ ◌&&◌ (ascii-decimal number) (ap₂ ◌&&◌ (ascii-flags_text flags) refl))
ascii-kind_text (RefusedCrc number) = numbered (codes "data refused crc ns=") number refl
ascii-kind_text (RefusedOrder last) = numbered (codes "data refused order vr=") last refl
ascii-kind_text (Acknowledged number) = numbered (codes "answer acknowledged ns=") number refl
ascii-kind_text (LinkOpened number) = numbered (codes "answer opened ns=") number refl
ascii-kind_text (Retry number wanted tries) =
    ascii-joined (codes "answer retry ns=") (decimal number ∷ codes " blocks=" ∷ comma_text decimal (serials_of wanted) ∷ codes " try=" ∷ decimal tries ∷ []) refl
    (ap₂ ◌&&◌ (ascii-decimal number) (ap₂ ◌&&◌ (ascii-comma_text decimal ascii-decimal (serials_of wanted)) (ap₂ ◌&&◌ (ascii-decimal tries) refl)))
ascii-kind_text (Repeat number tries) = numbered_twice (codes "answer repeat ns=") number (codes " try=") tries refl refl
ascii-kind_text kind = refl

ascii-false_text : (passed : Bool) → is_ascii (false_text passed) ≡ true
ascii-false_text true = refl
ascii-false_text false = refl

pub ascii-step_text_of : (step : Step) → is_ascii (step_text_of step) ≡ true
unfolding step_text_of
ascii-step_text_of step = ascii-append (kind_text step.kind) (false_text step.false_pass) (ascii-kind_text step.kind) (ascii-false_text step.false_pass)

-- the number of sessions
pub ascii-sessions_text : (sessions : ℕ) → is_ascii (sessions_text sessions) ≡ true
ascii-sessions_text sessions = by_test (nat_lt 1 sessions)
  where
    by_test : (several : Bool) → is_ascii (cond several (codes " sessions=" ++ decimal sessions) []) ≡ true
    by_test true = numbered (codes " sessions=") sessions refl
    by_test false = refl

pub ascii-closing_text_of : (world : WorldState) → is_ascii (closing_text_of world) ≡ true
unfolding closing_text_of
ascii-closing_text_of world =
    let sessions = length world.delivery.outbound.marks + 1 in
    ascii-joined (codes "sent=")
    (decimal (length world.delivery.outbound.sent) ∷ codes " delivered=" ∷ decimal (length world.delivery.inbound.received) ∷ codes " acknowledged="
    ∷ decimal world.delivery.outbound.acknowledged ∷ codes " false=" ∷ decimal world.false_passes ∷ sessions_text sessions ∷ [])
    refl
    (ap₂ ◌&&◌ (ascii-decimal (length world.delivery.outbound.sent)) (ap₂ ◌&&◌ (ascii-decimal (length world.delivery.inbound.received))
    (ap₂ ◌&&◌ (ascii-decimal world.delivery.outbound.acknowledged) (ap₂ ◌&&◌ (ascii-decimal world.false_passes) (ap₂ ◌&&◌ (ascii-sessions_text sessions) refl)))))
