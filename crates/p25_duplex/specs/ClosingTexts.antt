-- The text that closes a run of the duplex world for one side.
use Rattle.std.specs.Prelude.{ℕ, ◌+◌, List, ◌++◌, length, codes, decimal}
use Rattle.p25_stations.specs.SessionTexts.{sessions_text}
use Rattle.p25_duplex.specs.DuplexSteps.{Side, side_word, DuplexState, delivery_at}

-- the numbers of messages that a side sent and of those that were delivered and acknowledged, and the number of sessions, if there was more than one;
-- without the end of the line
unfoldable pub duplex_closing_of : Side → DuplexState → List ℕ
duplex_closing_of side d =
    side_word side ++ codes " sent=" ++ decimal (length (delivery_at side d).outbound.sent)
    ++ codes " delivered=" ++ decimal (length (delivery_at side d).inbound.received)
    ++ codes " acknowledged=" ++ decimal (delivery_at side d).outbound.acknowledged
    ++ sessions_text (length (delivery_at side d).outbound.marks + 1)
