-- Bits as letters of words.
use Rattle.std.specs.{Prelude.{◌≡◌, Bool, true, false, IsTrue, refl}, Bool.{beq}}

-- bits that compare equal are the same bit
pub same_bit : (x y : Bool) → IsTrue (beq x y) → x ≡ y
same_bit true true same = refl
same_bit true false same = cc
same_bit false true same = cc
same_bit false false same = refl
