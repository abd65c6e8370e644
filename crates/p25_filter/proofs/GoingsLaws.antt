-- Steps of the work: how one is made of a gathered chunk and of a write, and how steps compose. Each law opens the state of the work, and rewrites
-- the state to which the step before led.
use Rattle.std.proofs.Common.{ℕ, ◌<◌, ◌≤◌, true, false, List, [], ◌∷◌, ◌++◌, length, refl, sym, ◌∙◌, append_assoc, append-nil}
use Rattle.p25_io.specs.{Chains.{Chain}, Events.{Event, Wrote, WriteFailed}}
use Rattle.p25_filter.specs.{declared.ending.FilterEnd.{FilterEnd}, declared.ending.FilterEnd.TheVariants.{Ended, Memory, WriteFault}, Futures.{Future, Progress}}
use Rattle.p25_filter.specs.{Traces.{Broken, EndsAs, Going, IsDecided, Over, Phase, Standing, standing_at}, Goings.{Comes, Finishes, Goes, Leads, MayEnd, Stands}}
use Rattle.p25_filter.proofs.TracesLaws.{EndsAs-after, IsLive-append, after_all-append}

-- the text on the page is decided
stands-decided : (future : Future) (phase : Phase) (octets text page waiting : List ℕ) (now : Future)
    → Stands future (standing_at phase octets text) page waiting now → IsDecided future phase octets (text ++ page)
stands-decided future Going octets text page waiting now stands =
    λ ended more. record { rest = now.writes ended (waiting ++ more); is = stands.given.writes ended more }
stands-decided future Over octets text page waiting now stands =
    record { rest = now.writes true (waiting ++ []); is = stands.given.writes true [] }
stands-decided future Broken octets text page waiting now stands = absurd (stands.whole refl)

-- the command takes octets that wait, and returns a chunk, which is appended to the page
stands-next : (future : Future) (at : Standing) (page octets piece waiting : List ℕ) (before now : Future)
    → Stands future at page (octets ++ waiting) before → Progress before octets piece now → Stands future at (page ++ piece) waiting now
stands-next future at page octets piece waiting before now stands progress = record {
  whole = stands.whole;
  given = record {
    writes = λ ended more.
        stands.given.writes ended more ∙ rw (append_assoc octets waiting more, progress.writes ended (waiting ++ more)) (simp append_assoc);
    ends = λ ended more. stands.given.ends ended more ∙ rw (append_assoc octets waiting more) (progress.ends ended (waiting ++ more));
    pauses = λ ended more pause is.
        simp append_assoc
        (simp append_assoc at (stands.given.pauses ended more (piece ++ pause) (rw (append_assoc octets waiting more) (progress.pauses ended (waiting ++ more) pause is))));
  };
}

-- if the page is empty the work may end so
ends-so : (future : Future) (phase : Phase) (octets text waiting : List ℕ) (now : Future) (end : FilterEnd)
    → Stands future (standing_at phase octets text) [] waiting now → MayEnd now end → EndsAs future [] (standing_at phase octets text) end
ends-so future Going octets text waiting now (Ended ending) stands refused = (
  λ ended more. stands.given.ends ended more ∙ refused.ends ended (waiting ++ more),
  λ ended more. stands.given.writes ended more ∙ rw (refused.writes ended (waiting ++ more)) (simp append-nil),
)
ends-so future Over octets text waiting now (Ended ending) stands refused = (
  stands.given.ends true [] ∙ refused.ends true (waiting ++ []),
  sym (stands.given.writes true [] ∙ rw (refused.writes true (waiting ++ [])) (simp append-nil)),
)
ends-so future Going octets text waiting now Memory stands pausing =
    simp append-nil at (stands.given.pauses false [] [] (pausing false (waiting ++ [])))
ends-so future Over octets text waiting now Memory stands pausing =
    simp append-nil at (stands.given.pauses true [] [] (pausing true (waiting ++ [])))
ends-so future Broken octets text waiting now end stands may = absurd (stands.whole refl)
ends-so future phase octets text waiting now end stands may = absurd may

-- events after those that led so far
pub Leads-trans : (future : Future) (at : Standing) (xs ys : List Event) (phase next : Phase) (octets page waiting more kept behind : List ℕ) (a b : Future)
    → (one : Leads future at xs phase octets page waiting a) → Leads future (standing_at phase octets one.text) ys next more kept behind b
    → Leads future at (xs ++ ys) next more kept behind b
Leads-trans future at xs ys phase next octets page waiting more kept behind a b one two = record {
  text = two.text;
  live = IsLive-append future at xs ys one.live (rw one.after two.live);
  after = rw (after_all-append at xs ys, one.after) two.after;
  stands = two.stands;
}

pub Finishes-after : (future : Future) (at : Standing) (xs ys : List Event) (phase : Phase) (octets page waiting : List ℕ) (a : Future) (end : FilterEnd)
    → (one : Leads future at xs phase octets page waiting a) → Finishes future (standing_at phase octets one.text) ys end
    → Finishes future at (xs ++ ys) end
Finishes-after future at xs ys phase octets page waiting a end one two = record {
  live = IsLive-append future at xs ys one.live (rw one.after two.live);
  ends = rw (after_all-append at xs ys, one.after) (EndsAs-after future xs ys _ end two.ends);
}

module _ {P : Type 0} {moves : P → List Event → P → Type 0} (chain : Chain moves) where
  -- nothing is done
  pub Goes-none : (port : P) (page : List ℕ) (now : Future) → Goes moves port page now [] port page now
  Goes-none port page now = record {
    events = [];
    moved = chain.stays port;
    leads = λ future at waiting stands. record { text = at.text; live = tt; after = refl; stands = stands };
  }

  -- octets are passed to the command, or a chunk is appended to the page
  pub Goes-next : (port : P) (page octets piece : List ℕ) (before now : Future) → Progress before octets piece now
      → Goes moves port page before octets port (page ++ piece) now
  Goes-next port page octets piece before now progress = record {
    events = [];
    moved = chain.stays port;
    leads = λ future at waiting stands.
        record { text = at.text; live = tt; after = refl; stands = stands-next future at page octets piece waiting before now stands progress };
  }

  -- the page is written
  pub Goes-write : (first last : P) (page : List ℕ) (now : Future) → 0 < length page → moves first (Wrote page ∷ []) last
      → Goes moves first page now [] last [] now
  Goes-write first last page now some moved = record {
    events = Wrote page ∷ [];
    moved = moved;
    leads = λ future at waiting stands.
        record {
          text = at.text ++ page;
          live = (record { some = some; decided = stands-decided future at.phase at.octets at.text page waiting now stands }, tt);
          after = refl;
          stands = record { whole = stands.whole; given = rw (append-nil (at.text ++ page)) stands.given };
        };
  }

  -- that write fails
  pub Comes-cut : (first last : P) (page : List ℕ) (count : ℕ) (now : Future) → 0 < length page → count ≤ length page
      → moves first (WriteFailed page count ∷ []) last → Comes moves first page now [] WriteFault last
  Comes-cut first last page count now some fits moved = record {
    events = WriteFailed page count ∷ [];
    moved = moved;
    finishes = λ future at waiting stands.
        record {
          live = ((record { some = some; decided = stands-decided future at.phase at.octets at.text page waiting now stands }, fits), tt);
          ends = (page, count, ([], refl));
        };
  }

  -- the work ends without a write
  pub Comes-so : (port : P) (now : Future) (end : FilterEnd) → MayEnd now end → Comes moves port [] now [] end port
  Comes-so port now end may = record {
    events = [];
    moved = chain.stays port;
    finishes = λ future at waiting stands. record { live = tt; ends = ends-so future at.phase at.octets at.text waiting now end stands may };
  }

  -- a step after a step, and the end after one
  pub Goes-trans : {first second third : P} {page kept last : List ℕ} {a b c : Future} (xs ys : List ℕ) → Goes moves first page a xs second kept b
      → Goes moves second kept b ys third last c → Goes moves first page a (xs ++ ys) third last c
  Goes-trans xs ys one two = record {
    events = one.events ++ two.events;
    moved = chain.joins one.events two.events one.moved two.moved;
    leads = λ future at waiting stands.
        let led = one.leads future at (ys ++ waiting) (rw (append_assoc xs ys waiting) at stands) in
        Leads-trans future at one.events two.events _ _ _ _ _ _ _ _ _ _ led (two.leads future (standing_at at.phase at.octets led.text) waiting led.stands);
  }

  pub Comes-after : {first second third : P} {page kept : List ℕ} {a b : Future} {end : FilterEnd} (xs ys : List ℕ) → Goes moves first page a xs second kept b
      → Comes moves second kept b ys end third → Comes moves first page a (xs ++ ys) end third
  Comes-after xs ys one two = record {
    events = one.events ++ two.events;
    moved = chain.joins one.events two.events one.moved two.moved;
    finishes = λ future at waiting stands.
        let led = one.leads future at (ys ++ waiting) (rw (append_assoc xs ys waiting) at stands) in
        Finishes-after future at one.events two.events _ _ _ _ _ _ led (two.finishes future (standing_at at.phase at.octets led.text) waiting led.stands);
  }

  -- whatever octets wait after those of the step
  pub Comes-more : {first last : P} {page : List ℕ} {a : Future} {end : FilterEnd} (xs ys : List ℕ) → Comes moves first page a xs end last
      → Comes moves first page a (xs ++ ys) end last
  Comes-more xs ys comes = record {
    events = comes.events;
    moved = comes.moved;
    finishes = λ future at waiting stands. comes.finishes future at (ys ++ waiting) (rw (append_assoc xs ys waiting) at stands);
  }
