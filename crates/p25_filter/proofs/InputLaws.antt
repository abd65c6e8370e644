-- The loop of the work on an input: the result of the call for a chunk, and the work from its first event on, read after read. Each law adds the
-- events of a read or of a step to those so far.
use Rattle.std.proofs.Common.{◌≡◌, ℕ, ◌-◌, ◌<◌, ◌≤◌, Bool, true, false, List, [], ◌∷◌, ◌++◌, length, take, min, Some, None, Ok, Err, refl, ap, sym, ◌∙◌, arith, append_assoc, append-nil, length-take}
use Rattle.std.proofs.lemmas.List.{take_all}
use Rattle.p25_io.specs.{Chains.{Chain}, Events.{Event, Read, ReadFailed}}
use Rattle.p25_filter.specs.{declared.ending.Ending.{Ending}, declared.ending.Refusal.{Refusal}, declared.ending.Refusal.TheVariants.{Ended, Memory}, declared.ending.FilterEnd.{FilterEnd}}
use Rattle.p25_filter.specs.declared.ending.FilterEnd.TheVariants.{Ended as FilterEnded, Memory as FilterMemory, ReadFault, TooLong}
use Rattle.p25_filter.specs.{Futures.{Future, IsClosed, IsIdle, IsRefusedBy, NextPiece, Progress}, Runs.{input_most, read_most}, Traces.{Going, IsRun, IsSettled, Over, phase_by, standing_at}}
use Rattle.p25_filter.specs.Goings.{Comes, Finishes, Goes, MayEnd, SoFar, Stands}
use Rattle.p25_filter.proofs.{GoingsLaws.{Finishes-after, Leads-trans}, TracesLaws.{first-read}}

-- a chunk was returned
pub piece-given : (before now : Future) (is : Bool) (piece : List ℕ) → NextPiece before (Ok is) piece now → is ≡ true → Progress before [] piece now
unfolding NextPiece
piece-given before now true piece given same = given
piece-given before now false piece given same = cc

-- none was
pub piece-none : (before now : Future) (is : Bool) (piece : List ℕ) → NextPiece before (Ok is) piece now → is ≡ false → now ≡ before
unfolding NextPiece
piece-none before now true piece given same = cc
piece-none before now false piece given same = given

-- there is none, for a refusal
pub piece-refused : (before now : Future) (refusal : Refusal) (piece : List ℕ) → NextPiece before (Err refusal) piece now → IsRefusedBy before refusal
unfolding NextPiece
piece-refused before now refusal piece given = given

-- so the work may end
pub may-end : (now : Future) (ending : Ending) → IsRefusedBy now (Ended ending) → MayEnd now (FilterEnded ending)
unfolding IsRefusedBy
may-end now ending refused = refused

pub wants-memory : (now : Future) → IsRefusedBy now Memory → MayEnd now FilterMemory
unfolding IsRefusedBy
wants-memory now pausing = pausing

pub all-is_given : (now : Future) (ending : Ending) → ((is : Bool) (more : List ℕ) → now.writes is more ≡ [])
    → ((is : Bool) (more : List ℕ) → now.ends is more ≡ Some ending) → MayEnd now (FilterEnded ending)
all-is_given now ending writes ends = record { writes = writes; ends = ends }

-- with nothing to give once the input has ended, all was written
pub idle-finished : (finished was : Bool) (now : Future) → IsIdle finished now → finished ≡ was → was ≡ true → (is : Bool) (more : List ℕ) → now.writes is more ≡ []
unfolding IsIdle
idle-finished true was now idle same is_true = idle
idle-finished false was now idle same is_true = cc

-- if no chunk is left, the output that the octets so far determine is written, and they cause no refusal
idle-decided : (future now : Future) (octets text : List ℕ) → Stands future (standing_at Going octets text) [] [] now → IsIdle false now
    → (future.ends false (take input_most octets) ≡ None) × (text ≡ future.writes false (take input_most octets))
unfolding IsIdle
idle-decided future now octets text stands idle = (
  rw (← append-nil (take input_most octets)) (stands.given.ends false [] ∙ idle.1),
  sym (rw (← append-nil (take input_most octets)) (stands.given.writes false [] ∙ rw idle.0 (simp append-nil))),
)

settled : (future now : Future) (octets text : List ℕ) → length octets ≤ input_most → Stands future (standing_at Going octets text) [] [] now → IsIdle false now
    → IsSettled future (standing_at Going octets text)
settled future now octets text few stands idle =
    let decided = rw (take_all input_most octets few) at (idle-decided future now octets text stands idle) in
    record { going = refl; few = few; ends = decided.0; wrote = decided.1 }

-- more octets are read
stands-read : (future now : Future) (octets piece fed text : List ℕ) → length octets ≤ input_most → take input_most (octets ++ piece) ≡ octets ++ fed
    → Stands future (standing_at Going octets text) [] [] now → Stands future (standing_at Going (octets ++ piece) text) [] (fed ++ []) now
stands-read future now octets piece fed text few whole stands =
    let all = take_all input_most octets few in
    record {
      whole = stands.whole;
      given = record {
        writes = λ ended more. rw (whole, append_assoc octets fed more, append-nil fed) (rw all at (stands.given.writes ended (fed ++ more)));
        ends = λ ended more. rw (whole, append_assoc octets fed more, append-nil fed) (rw all at (stands.given.ends ended (fed ++ more)));
        pauses = λ ended more pause is.
            rw (whole, append_assoc octets fed more) (rw all at (stands.given.pauses ended (fed ++ more) pause (rw (append-nil fed) at is)));
      };
    }

-- the input ended
stands-over : (future now closed : Future) (octets text : List ℕ) → length octets ≤ input_most → IsClosed now closed
    → Stands future (standing_at Going octets text) [] [] now → Stands future (standing_at Over octets text) [] [] closed
stands-over future now closed octets text few is_closed stands =
    let all : take input_most octets ++ [] ≡ octets = append-nil (take input_most octets) ∙ take_all input_most octets few in
    record {
      whole = λ same. cc;
      given = record {
        writes = λ ended more. rw (is_closed.writes ended more) (rw all at (stands.given.writes true []));
        ends = λ ended more. rw (is_closed.ends ended more) (rw all at (stands.given.ends true []));
        pauses = λ ended more pause is. rw all at (stands.given.pauses true [] pause (rw (is_closed.pauses ended more) at is));
      };
    }

-- octets that are some leave the input going on
goes-on : (piece : List ℕ) → 0 < length piece → phase_by piece ≡ Going
goes-on [] some = absurd (omega (arith, some))
goes-on (octet ∷ piece) some = refl

-- a run of events came to its end
abbrev pub Came : {P : Type 0} → (P → List Event → P → Type 0) → P → Future → P → FilterEnd → Type 0
Came moves first future last end = (events : List Event) × moves first events last × IsRun future events end

module _ {P : Type 0} {moves : P → List Event → P → Type 0} (chain : Chain moves) (first : P) (future : Future) where
  pub SoFar-first : SoFar moves first future Going [] [] [] future first
  SoFar-first = record {
    events = [];
    moved = chain.stays first;
    leads = record {
      text = [];
      live = tt;
      after = refl;
      stands = record {
        whole = λ same. cc;
        given = record { writes = λ ended more. refl; ends = λ ended more. refl; pauses = λ ended more pause is. is };
      };
    };
  }

  -- a step
  pub SoFar-goes : {phase : _} {octets page kept : List ℕ} {a b : Future} {last next : P} (xs waiting : List ℕ)
      → SoFar moves first future phase octets page (xs ++ waiting) a last → Goes moves last page a xs next kept b
      → SoFar moves first future phase octets kept waiting b next
  SoFar-goes {phase} {octets} xs waiting so_far goes = record {
    events = so_far.events ++ goes.events;
    moved = chain.joins so_far.events goes.events so_far.moved goes.moved;
    leads =
        Leads-trans future _ so_far.events goes.events _ _ _ _ _ _ _ _ _ _ so_far.leads
        (goes.leads future (standing_at phase octets so_far.leads.text) waiting so_far.leads.stands);
  }

  -- the last step
  came-by : {phase : _} {octets page waiting : List ℕ} {a : Future} {last next : P} (end : FilterEnd) (events : List Event)
      → (so_far : SoFar moves first future phase octets page waiting a last) → moves last events next
      → Finishes future (standing_at phase octets so_far.leads.text) events end → Came moves first future next end
  came-by end events so_far moved finishes =
      let all = Finishes-after future _ so_far.events events _ _ _ _ _ end so_far.leads finishes in
      (so_far.events ++ events, chain.joins so_far.events events so_far.moved moved, record { live = all.live; ends = all.ends })

  pub Came-comes : {phase : _} {octets page : List ℕ} {a : Future} {last next : P} {end : FilterEnd} (xs waiting : List ℕ)
      → SoFar moves first future phase octets page (xs ++ waiting) a last → Comes moves last page a xs end next → Came moves first future next end
  Came-comes {phase} {octets} {end = end} xs waiting so_far comes =
      came-by end comes.events so_far comes.moved (comes.finishes future (standing_at phase octets so_far.leads.text) waiting so_far.leads.stands)

  -- a read of some octets into a buffer of the most of a read, of which the first are taken, as many as fit
  pub SoFar-read : {last next : P} {now : Future} (octets buf : List ℕ) (count fits : ℕ) → SoFar moves first future Going octets [] [] now last
      → length octets ≤ input_most → IsIdle false now → (count ≤ length buf) × moves last (Read (take count buf) ∷ []) next
      → 0 < count → length buf ≤ read_most → fits ≡ min count (input_most - length octets)
      → SoFar moves first future Going (octets ++ take count buf) [] (take fits buf ++ []) now next
  SoFar-read {now = now} octets buf count fits so_far few idle given some room fit =
      let piece = take count buf in
      let text = so_far.leads.text in
      let stands = so_far.leads.stands in
      let bound : length piece ≤ read_most = omega (arith, length-take count buf, given.0, room) in
      let on : phase_by piece ≡ Going = goes-on piece (omega (arith, length-take count buf, given.0, some)) in
      record {
        events = so_far.events ++ Read piece ∷ [];
        moved = chain.joins so_far.events (Read piece ∷ []) so_far.moved given.1;
        leads =
            Leads-trans future _ so_far.events (Read piece ∷ []) _ _ _ _ _ _ _ _ _ _ so_far.leads
            (record {
              text = text;
              live = ((settled future now octets text few stands idle, bound), tt);
              after = ap (λ phase. standing_at phase (octets ++ piece) text) on;
              stands = stands-read future now octets piece (take fits buf) text few (first-read octets buf count fits few given.0 fit) stands;
            });
      }

  -- a read of none
  pub SoFar-over : {last next : P} {now closed : Future} (octets piece : List ℕ) → SoFar moves first future Going octets [] [] now last
      → length octets ≤ input_most → IsIdle false now → moves last (Read piece ∷ []) next → piece ≡ [] → IsClosed now closed
      → SoFar moves first future Over octets [] [] closed next
  SoFar-over {now = now} {closed = closed} octets [] so_far few idle moved none is_closed =
      let text = so_far.leads.text in
      let stands = so_far.leads.stands in
      record {
        events = so_far.events ++ Read [] ∷ [];
        moved = chain.joins so_far.events (Read [] ∷ []) so_far.moved moved;
        leads =
            Leads-trans future _ so_far.events (Read [] ∷ []) _ _ _ _ _ _ _ _ _ _ so_far.leads
            (record {
              text = text;
              live = ((settled future now octets text few stands idle, omega arith), tt);
              after = ap (λ (zs : List ℕ). standing_at Over zs text) (append-nil octets);
              stands = stands-over future now closed octets text few is_closed stands;
            });
      }
  SoFar-over octets (octet ∷ piece) so_far few idle moved none is_closed = cc

  -- a read failed
  pub Came-read_fault : {last next : P} {now : Future} (octets : List ℕ) → SoFar moves first future Going octets [] [] now last → length octets ≤ input_most
      → IsIdle false now → moves last (ReadFailed ∷ []) next → Came moves first future next ReadFault
  Came-read_fault {now = now} octets so_far few idle moved =
      came-by ReadFault (ReadFailed ∷ []) so_far moved
      (record { live = (settled future now octets so_far.leads.text few so_far.leads.stands idle, tt); ends = ([], refl) })

  -- the input is too long
  pub Came-too_long : {last : P} {now : Future} (octets : List ℕ) → SoFar moves first future Going octets [] [] now last → input_most < length octets
      → IsIdle false now → Came moves first future last TooLong
  Came-too_long {last = last} {now = now} octets so_far many idle =
      let decided = idle-decided future now octets so_far.leads.text so_far.leads.stands idle in
      came-by TooLong [] so_far (chain.stays last)
      (record { live = tt; ends = record { going = refl; many = many; ends = decided.0; wrote = decided.1 } })
