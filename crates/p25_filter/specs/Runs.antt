-- The state after the work on an input, by its end.
use Rattle.std.specs.Prelude.{◌≡◌, ℕ, ◌+◌, ◌<◌, ◌≤◌, Bool, true, false, if◌then◌else◌, nat_lt, Option, Some, None, List, ◌++◌, length, take, Contains, IfSome}
use Rattle.p25_io.specs.Octets.{Taken, Appended, AppendedBeginning}
use Rattle.p25_filter.specs.{declared.ending.Ending.{Ending}, declared.ending.FilterEnd.{FilterEnd}}
use Rattle.p25_filter.specs.{declared.ending.FilterEnd.TheVariants.{Ended, ReadFault, WriteFault, TooLong, Memory}, Futures.{Future}}

-- the most octets of an input, and of a read
abbrev pub input_most : ℕ
input_most = 16777216

abbrev pub read_most : ℕ
read_most = 4096

-- all output for an input: for one that is too long, that of its first octets
abbrev pub all_written : Future → List ℕ → List ℕ
all_written future input = if nat_lt input_most (length input) then future.writes false (take input_most input) else future.writes true input

-- the work ended by the contents of the input: at its end, or at a refusal within it, which stays whatever octets come later; no octet past the most
-- counts
pub record IsFinal (told first last : Option (List ℕ)) (future : Future) (octets : List ℕ) (ending : Ending) : Type 0 where
  pub ended : Bool
  pub all : ended ≡ true → (length octets ≤ input_most) × IfSome told (λ input. input ≡ octets)
  pub ends : future.ends ended (take input_most octets) ≡ Some ending
  pub stays : ended ≡ false → (is : Bool) (more : List ℕ) → future.ends is (take input_most octets ++ more) ≡ Some ending
  pub wrote : Appended first (future.writes ended (take input_most octets)) last

-- a read failed: the octets taken cause no refusal, and the output that they determine is written
pub record IsReadFault (first last : Option (List ℕ)) (future : Future) (octets : List ℕ) : Type 0 where
  pub few : length octets ≤ input_most
  pub ends : future.ends false octets ≡ None
  pub wrote : Appended first (future.writes false octets) last

-- the input is too long: its first octets cause no refusal, and the output that they determine is written
pub record IsTooLong (first last : Option (List ℕ)) (future : Future) (octets : List ℕ) : Type 0 where
  pub many : input_most < length octets
  pub ends : future.ends false (take input_most octets) ≡ None
  pub wrote : Appended first (future.writes false (take input_most octets)) last

-- a write failed: a beginning of all the output is written
pub record IsWriteFault (left first last : Option (List ℕ)) (future : Future) (octets : List ℕ) : Type 0 where
  pub beginning : (rest : List ℕ) → left ≡ Some rest → AppendedBeginning first (all_written future (octets ++ rest)) last

-- an allocation failed: the text written is one after which it may fail, by the octets taken, which are all or more may come; no octet past the most
-- counts
pub record IsMemory (told first last : Option (List ℕ)) (future : Future) (octets : List ℕ) : Type 0 where
  pub ended : Bool
  pub all : ended ≡ true → (length octets ≤ input_most) × IfSome told (λ input. input ≡ octets)
  pub text : List ℕ
  pub pauses : Contains (future.pauses ended (take input_most octets)) text
  pub wrote : Appended first text last

-- the condition of an end on the octets taken and on the text written
abbrev pub Meets : (told left first last : Option (List ℕ)) → Future → List ℕ → FilterEnd → Type 0
Meets told left first last future octets (Ended ending) = IsFinal told first last future octets ending
Meets told left first last future octets ReadFault = IsReadFault first last future octets
Meets told left first last future octets WriteFault = IsWriteFault left first last future octets
Meets told left first last future octets TooLong = IsTooLong first last future octets
Meets told left first last future octets Memory = IsMemory told first last future octets

-- some octets were taken from the source, at most one read more than the most of an input, and the condition of the end is met
pub record Filtered (told left first last : Option (List ℕ)) (future : Future) (end : FilterEnd) : Type 0 where
  pub octets : List ℕ
  pub taken : Taken told octets left
  pub few : length octets ≤ input_most + read_most
  pub meets : Meets told left first last future octets end
