-- The fields of a world of long messages, as contracts see them.
use Rattle.std.specs.Prelude.{ℕ, ◌-◌, ◌/◌, min, vec_len, vec_capacity}
use Rattle.p25_fragments.specs.{declared.long_stations.LongStations.TheInside.{Inside}, LongState.{LongState, LongParts}}

-- the state of such a world
abbrev pub state_of : Inside → LongState
state_of w =
    record {
      inner = w.inner.state;
      outstanding = w.outstanding;
      joining = w.joiner;
      taken = w.taken.list;
      whole = w.whole.list;
      acknowledged = w.acknowledged;
      marks = w.marks.items;
    }

-- the number of long messages in each list, and of marks, for which there is capacity
abbrev pub own_spare_of : Inside → ℕ
own_spare_of w = min (min w.taken.spare w.whole.spare) (vec_capacity w.marks - vec_len w.marks)

-- its parts as contracts see them: each step may be two of the inner world
abbrev pub parts_of : Inside → LongParts
parts_of w =
    record {
      state = state_of w;
      spare = min (w.inner.spare / 2) (own_spare_of w);
      inner_spare = w.inner.spare;
      own_spare = own_spare_of w;
    }
