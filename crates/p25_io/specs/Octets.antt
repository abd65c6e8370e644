-- The octets that a read takes from those left, and those that a write adds to those written.
use Rattle.std.specs.{Prelude.{ℕ, ◌≡◌, ◌≤◌, ◌↔◌, Option, List, [], length, take, IfSome}, Io.KnownBytes.{prepend_known, append_known}}

-- these octets were the first of those left before, and the others are left now; exposed octets stay exposed, and hidden ones hidden
pub record Taken (before : Option (List ℕ)) (octets : List ℕ) (now : Option (List ℕ)) : Type 0 where
  pub left : before ≡ prepend_known octets now

-- the octets left are those left before
abbrev pub Kept : Option (List ℕ) → Option (List ℕ) → Type 0
Kept before now = now ≡ before

-- a read returned this many octets at the beginning of its buffer: no more than fit, and none if and only if a source that exposes its octets has
-- none left
pub record Gives (before now : Option (List ℕ)) (buf : List ℕ) (count : ℕ) : Type 0 where
  pub fits : count ≤ length buf
  pub octets : Taken before (take count buf) now
  pub ending : IfSome before (λ left. (count ≡ 0) ↔ (left ≡ []))

-- these octets follow those written before; exposed octets stay exposed, and hidden ones hidden
pub record Appended (before : Option (List ℕ)) (octets : List ℕ) (now : Option (List ℕ)) : Type 0 where
  pub written : now ≡ append_known before octets

-- a beginning of the chunk follows the octets written before
pub record AppendedBeginning (before : Option (List ℕ)) (piece : List ℕ) (now : Option (List ℕ)) : Type 0 where
  pub count : ℕ
  pub beginning : Appended before (take count piece) now
