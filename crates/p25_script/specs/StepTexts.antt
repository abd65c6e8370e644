-- The texts of steps, and the text that closes a run.
use Rattle.std.specs.Prelude.{ℕ, ◌+◌, ◌/◌, Bool, true, false, if◌then◌else◌, List, [], ◌∷◌, ◌++◌, length, slice_index_or, codes, decimal}
use Rattle.hex.specs.Hex.{encode_lower}
use Rattle.p25_bits.specs.Numbers.{joined_below, octets_from}
use Rattle.p25_status.specs.FieldNames.{field_name}
use Rattle.p25_stations.specs.{SessionTexts.{sessions_text}, WorldState.{WorldState}, declared.step.Step.{Step}}
use Rattle.p25_messages.specs.declared.step_kind.StepKind.{StepKind}
use Rattle.p25_messages.specs.declared.step_kind.StepKind.TheVariants.{Taken, Busy, OfferDown, Resent, Idle, TimeoutDown, Reopened, Up, Nothing, Lost, Ignored, Delivered, SynHeard, Again, Kept, RefusedCrc, RefusedOrder, Acknowledged, LinkOpened, Retry, Repeat, AnswerDown}
use Rattle.p25_duplex.specs.{declared.event.DuplexStep.{DuplexStep}, DuplexSteps.{side_word}}
use Rattle.p25_line.specs.{CommaLists.{comma_text}, Octets.{octets_text}}
use Rattle.p25_script.specs.Script.{way_word}

-- the octets of flags, two digits each: the first flag is the most significant bit of the first octet
unfoldable pub flags_text : List Bool → List ℕ
flags_text flags = encode_lower (octets_from (length flags / 8) flags)

-- the serial number of a block below a bound, if its flag is true
abbrev pub serial_at : List Bool → ℕ → List ℕ
serial_at flags serial = if slice_index_or flags serial false then serial ∷ [] else []

-- the serial numbers of the flags that are true, in order
unfoldable pub serials_of : List Bool → List ℕ
serials_of flags = joined_below (length flags) (serial_at flags)

-- the text of a type of step
unfoldable pub kind_text : StepKind → List ℕ
kind_text (Taken number blocks) = codes "send taken ns=" ++ decimal number ++ codes " blocks=" ++ decimal blocks
kind_text Busy = codes "send busy"
kind_text OfferDown = codes "send down"
kind_text (Resent number tries) = codes "timeout sent ns=" ++ decimal number ++ codes " try=" ++ decimal tries
kind_text Idle = codes "timeout idle"
kind_text TimeoutDown = codes "timeout down"
kind_text (Reopened number) = codes "reopen sent ns=" ++ decimal number
kind_text Up = codes "reopen up"
kind_text (Nothing way) = way_word way ++ codes " none"
kind_text (Lost way field) = way_word way ++ codes " lost " ++ field_name field
kind_text (Ignored way) = way_word way ++ codes " ignored"
kind_text (Delivered number message) = codes "data delivered ns=" ++ decimal number ++ codes " message=" ++ octets_text message
kind_text (SynHeard number) = codes "data opened ns=" ++ decimal number
kind_text (Again number) = codes "data again ack=" ++ decimal number
kind_text (Kept number flags) = codes "data kept ns=" ++ decimal number ++ codes " flags=" ++ flags_text flags
kind_text (RefusedCrc number) = codes "data refused crc ns=" ++ decimal number
kind_text (RefusedOrder last) = codes "data refused order vr=" ++ decimal last
kind_text (Acknowledged number) = codes "answer acknowledged ns=" ++ decimal number
kind_text (LinkOpened number) = codes "answer opened ns=" ++ decimal number
kind_text (Retry number wanted tries) =
    codes "answer retry ns=" ++ decimal number ++ codes " blocks=" ++ comma_text decimal (serials_of wanted) ++ codes " try=" ++ decimal tries
kind_text (Repeat number tries) = codes "answer repeat ns=" ++ decimal number ++ codes " try=" ++ decimal tries
kind_text AnswerDown = codes "answer down"

-- the text after that of a delivery that is a false pass
abbrev pub false_text : Bool → List ℕ
false_text true = codes " false"
false_text false = []

-- the text of a step, without the end of its line
unfoldable pub step_text_of : Step → List ℕ
step_text_of step = kind_text step.kind ++ false_text step.false_pass

-- the text of a step of stations that both send, without the end of its line: the letter of the side that acts or receives, and the text of the step
unfoldable pub duplex_step_text_of : DuplexStep → List ℕ
duplex_step_text_of step = side_word step.side ++ codes " " ++ step_text_of step.step

-- the text that closes a run, without the end of its line
unfoldable pub closing_text_of : WorldState → List ℕ
closing_text_of world =
    codes "sent=" ++ decimal (length world.delivery.outbound.sent) ++ codes " delivered=" ++ decimal (length world.delivery.inbound.received)
    ++ codes " acknowledged=" ++ decimal world.delivery.outbound.acknowledged ++ codes " false=" ++ decimal world.false_passes
    ++ sessions_text (length world.delivery.outbound.marks + 1)
