-- The decoded parts of a data unit are true of its bits, and stay true.
use Rattle.std.proofs.Common.{◌≡◌, ◌≤◌, Bool, List, ◌++◌, length, Option, Some, None, IfSome, Ok, option_map, sym, ◌∙◌, subst, arith, length-append}
use Rattle.p25_bch_nid.specs.declared.nid.ReadNid.{ReadNid}
use Rattle.p25_unit_front.specs.Front.{front_fixes_of, identifier_of}
use Rattle.p25_unit_front.proofs.FrontLaws.{front_fixes_of-append, identifier_of-append}
use Rattle.p25_packet_blocks.specs.{declared.head.ReadHead.{ReadHead}, UnitReading.{sent_read_of}}
use Rattle.p25_packet_blocks.proofs.UnitLaws.{sent_read_of-append}
use Rattle.p25_units.specs.{Begins.{IsIdentifier, IsHeader, IsBegun}, declared.begun.Begun.{Begun}}

-- nothing
pub IsBegun-none : (begun : Begun) (bits : List Bool) → begun.nid ≡ None → begun.head ≡ None → IsBegun begun bits
unfolding IsBegun
IsBegun-none begun bits no_nid no_head = (subst (λ (nid : Option ReadNid). IsIdentifier nid bits) (sym no_nid) tt, subst (λ (head : Option ReadHead). IsHeader head bits) (sym no_head) tt)

-- an identifier, or that none can be decoded
identifier_read : (read : Option ReadNid) (bits : List Bool) → 114 ≤ length bits → option_map (λ read. (read.nid.nac, read.nid.duid)) read ≡ identifier_of bits
    → IfSome read (λ read. read.wrong ≡ front_fixes_of (read.nid.nac, read.nid.duid) bits) → IsIdentifier read bits
identifier_read None bits long is counted = tt
identifier_read (Some read) bits long is counted = (long, sym is, counted)

pub IsBegun-read : (before begun : Begun) (bits : List Bool) → IsBegun before bits → begun.head ≡ before.head → 114 ≤ length bits
    → option_map (λ read. (read.nid.nac, read.nid.duid)) begun.nid ≡ identifier_of bits → IfSome begun.nid (λ read. read.wrong ≡ front_fixes_of (read.nid.nac, read.nid.duid) bits)
    → IsBegun begun bits
unfolding IsBegun
IsBegun-read before begun bits was same long is counted = (identifier_read begun.nid bits long is counted, subst (λ (head : Option ReadHead). IsHeader head bits) (sym same) was.1)

-- a header
pub IsBegun-headed : (before begun : Begun) (bits : List Bool) (read : ReadHead) → IsBegun before bits → begun.nid ≡ before.nid → begun.head ≡ Some read → 316 ≤ length bits
    → Ok read ≡ sent_read_of bits → IsBegun begun bits
unfolding IsBegun
IsBegun-headed before begun bits read was same is long reads =
    (subst (λ (nid : Option ReadNid). IsIdentifier nid bits) (sym same) was.0, subst (λ (h : Option ReadHead). IsHeader h bits) (sym is) (long, sym reads))

-- the decoded parts
pub begun-known : (begun : Begun) (bits : List Bool) (read : ReadNid) → IsBegun begun bits → begun.nid ≡ Some read
    → (Some (read.nid.nac, read.nid.duid) ≡ identifier_of bits) × (read.wrong ≡ front_fixes_of (read.nid.nac, read.nid.duid) bits)
unfolding IsBegun
begun-known begun bits read is same = let known = subst (λ (n : Option ReadNid). IsIdentifier n bits) same is.0 in (sym known.1, known.2)

pub begun-headed : (begun : Begun) (bits : List Bool) (read : ReadHead) → IsBegun begun bits → begun.head ≡ Some read → Ok read ≡ sent_read_of bits
unfolding IsBegun
begun-headed begun bits read is same = let known = subst (λ (h : Option ReadHead). IsHeader h bits) same is.1 in sym known.1

-- it stays
identifier_stays : (read : Option ReadNid) (bits more : List Bool) → IsIdentifier read bits → IsIdentifier read (bits ++ more)
identifier_stays None bits more is = tt
identifier_stays (Some read) bits more is =
    (omega (arith, length-append bits more, is.0), identifier_of-append bits more is.0 ∙ is.1, is.2 ∙ sym (front_fixes_of-append (read.nid.nac, read.nid.duid) bits more is.0))

header_stays : (read : Option ReadHead) (bits more : List Bool) → IsHeader read bits → IsHeader read (bits ++ more)
header_stays None bits more is = tt
header_stays (Some read) bits more is = (omega (arith, length-append bits more, is.0), sent_read_of-append bits more is.0 ∙ is.1)

pub IsBegun-append : (begun : Begun) (bits more : List Bool) → IsBegun begun bits → IsBegun begun (bits ++ more)
unfolding IsBegun
IsBegun-append begun bits more is = (identifier_stays begun.nid bits more is.0, header_stays begun.head bits more is.1)
