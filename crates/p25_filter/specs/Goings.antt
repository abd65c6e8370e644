-- The reads and writes of the work on an input, step by step. `Traces` states which event may follow which (`IsLive`), and how a run of events
-- ends (`EndsAs`). This file states how each function of `src/input.rt` and `src/page.rt` keeps to that.
--
--     run_on    a loop: read; `feed` the octets that were read, or at the end of the input `finish`, `drain` and `end_so`
--     feed      a loop: pass some octets to the command, then `drain`; at last `flush`
--     drain     a loop: call the command for its next chunk, and `gather` it; `end_so` if there is none for a reason
--     gather    append a chunk to the page; `flush` before, if the page has no capacity for it
--     flush     write the page, if it is not empty: the only write of all
--     end_so    `flush`, and the reason of the end
--
-- `Stands` relates octets, page and command between two events. The text written and the page are a beginning of the command's output for the octets
-- that were read, and the rest is the output of the running command for the octets that wait. `Goes` is a step after which the work goes on: it
-- holds of `gather`, `flush`, `drain` and `feed` if they return `Ok`. `Comes` is a step that ends the work: it holds of `end_so`, and of the others
-- if they return an error. Both hold from any state of the work, so one step can follow another. `SoFar` is the work from its first event on, and
-- the invariant of the loop of `run_on`.
use Rattle.std.specs.Prelude.{◌≡◌, ℕ, true, List, [], ◌++◌, take}
use Rattle.p25_io.specs.Events.{Event}
use Rattle.p25_filter.specs.{declared.ending.FilterEnd.{FilterEnd}, declared.ending.FilterEnd.TheVariants.{Ended, Memory}}
use Rattle.p25_filter.specs.{Futures.{Future, IsPausing, IsRefused, Progress}, Runs.{input_most}}
use Rattle.p25_filter.specs.Traces.{Broken, EndsAs, IsLive, Over, Phase, Standing, after_all, at_first, standing_at}

-- the future after these octets, and the one after which no more octets come
abbrev pub ahead : List ℕ → Future → Future
ahead octets future = record {
  writes = λ ended more. future.writes ended (octets ++ more);
  ends = λ ended more. future.ends ended (octets ++ more);
  pauses = λ ended more. future.pauses ended (octets ++ more);
}

abbrev pub over : List ℕ → Future → Future
over octets future = record {
  writes = λ ended more. future.writes true octets;
  ends = λ ended more. future.ends true octets;
  pauses = λ ended more. future.pauses true octets;
}

-- the future of the command at its beginning, after these octets were read, none of which past the most counts
abbrev pub seen : Phase → List ℕ → Future → Future
seen Over octets future = over octets future
seen phase octets future = ahead (take input_most octets) future

-- the text written, the page and the output of the running command for the waiting octets together are the output of its future at the beginning for
-- the octets that were read
pub record Stands (future : Future) (at : Standing) (page waiting : List ℕ) (now : Future) : Type 0 where
  pub whole : at.phase ≡ Broken → ⊥
  pub given : Progress (seen at.phase at.octets future) [] (at.text ++ page) (ahead waiting now)

-- the events from here on may come, and lead to a state in which these octets were read, and page, waiting octets and command fit together
pub record Leads (future : Future) (at : Standing) (events : List Event) (phase : Phase) (octets page waiting : List ℕ) (now : Future) : Type 0 where
  pub text : List ℕ
  pub live : IsLive future at events
  pub after : after_all at events ≡ standing_at phase octets text
  pub stands : Stands future (standing_at phase octets text) page waiting now

-- the events from here on may come, and this is the end of the work after them
pub record Finishes (future : Future) (at : Standing) (events : List Event) (end : FilterEnd) : Type 0 where
  pub live : IsLive future at events
  pub ends : EndsAs future events (after_all at events) end

-- a step from page and command to a later page and command: from any state of the work with these octets first among those that wait, the events of
-- the step, all of them writes, lead to a state in which these octets no longer wait
pub record Goes {P : Type 0} (moves : P → List Event → P → Type 0) (first : P) (page : List ℕ) (before : Future) (octets : List ℕ)
    (last : P) (kept : List ℕ) (now : Future) : Type 0 where
  pub events : List Event
  pub moved : moves first events last
  pub leads : (future : Future) (at : Standing) (waiting : List ℕ) → Stands future at page (octets ++ waiting) before
      → Leads future at events at.phase at.octets kept waiting now

-- a step that ends the work: from any state with these octets first among those that wait
pub record Comes {P : Type 0} (moves : P → List Event → P → Type 0) (first : P) (page : List ℕ) (before : Future) (octets : List ℕ)
    (end : FilterEnd) (last : P) : Type 0 where
  pub events : List Event
  pub moved : moves first events last
  pub finishes : (future : Future) (at : Standing) (waiting : List ℕ) → Stands future at page (octets ++ waiting) before
      → Finishes future at events end

-- the command returns no further chunk for this reason: the input is refused or has ended, or an allocation fails
abbrev pub MayEnd : Future → FilterEnd → Type 0
MayEnd now (Ended ending) = IsRefused now ending
MayEnd now Memory = IsPausing now
MayEnd now end = ⊥

-- the work from its first event on: these octets were read, and page, waiting octets and command fit together
pub record SoFar {P : Type 0} (moves : P → List Event → P → Type 0) (first : P) (future : Future) (phase : Phase) (octets page waiting : List ℕ)
    (now : Future) (last : P) : Type 0 where
  pub events : List Event
  pub moved : moves first events last
  pub leads : Leads future at_first events phase octets page waiting now
