-- The fields of the headers that stations transmit. By arithmetic on their octets.
use Rattle.std.proofs.Common.{◌≡◌, ℕ, ◌+◌, ◌*◌, ◌/◌, ◌<◌, Bool, true, false, eqb, refl, ap, arith}
use Rattle.p25_packet_blocks.specs.Heads.{head_is_full, head_blocks, head_pad, head_format, head_llid, head_syn, head_number, response_class, response_kind, response_status, confirmed_head, response_head, opening_head}

-- a header of data
pub confirmed_head-llid : (full : Bool) (blocks pad number : ℕ) → head_llid (confirmed_head 1 full blocks pad number) ≡ 1
unfolding head_llid confirmed_head
confirmed_head-llid full blocks pad number = refl

pub confirmed_head-syn : (full : Bool) (blocks pad number : ℕ) → number < 8 → head_syn (confirmed_head 1 full blocks pad number) ≡ false
unfolding head_syn confirmed_head
confirmed_head-syn full blocks pad number h = let e : (16 * number + 8) / 128 ≡ 0 = omega arith in cc

pub confirmed_head-number : (full : Bool) (blocks pad number : ℕ) → number < 8 → head_number (confirmed_head 1 full blocks pad number) ≡ number
unfolding head_number confirmed_head
confirmed_head-number full blocks pad number h = omega arith

pub confirmed_head-pad : (full : Bool) (blocks pad number : ℕ) → pad < 32 → head_pad (confirmed_head 1 full blocks pad number) ≡ pad
unfolding head_pad confirmed_head
confirmed_head-pad full blocks pad number h = omega arith

pub confirmed_head-blocks : (full : Bool) (blocks pad number : ℕ) → blocks < 128 → head_blocks (confirmed_head 1 full blocks pad number) ≡ blocks
unfolding head_blocks confirmed_head
confirmed_head-blocks true blocks pad number h = omega arith
confirmed_head-blocks false blocks pad number h = omega arith

pub confirmed_head-full : (full : Bool) (blocks pad number : ℕ) → blocks < 128 → head_is_full (confirmed_head 1 full blocks pad number) ≡ full
unfolding head_is_full confirmed_head
confirmed_head-full true blocks pad number h = let e : (128 + blocks) / 128 ≡ 1 = omega arith in cc
confirmed_head-full false blocks pad number h = let e : (0 + blocks) / 128 ≡ 0 = omega arith in cc

-- the header of an opening packet
pub opening_head-llid : (number : ℕ) → head_llid (opening_head 1 number) ≡ 1
unfolding head_llid opening_head
opening_head-llid number = refl

pub opening_head-syn : (number : ℕ) → number < 8 → head_syn (opening_head 1 number) ≡ true
unfolding head_syn opening_head
opening_head-syn number h = let e : (0x88 + 16 * number) / 128 ≡ 1 = omega arith in cc

pub opening_head-number : (number : ℕ) → number < 8 → head_number (opening_head 1 number) ≡ number
unfolding head_number opening_head
opening_head-number number h = omega arith

pub opening_head-blocks : (number : ℕ) → head_blocks (opening_head 1 number) ≡ 0
unfolding head_blocks opening_head
opening_head-blocks number = refl

-- the header of a response
pub response_head-status : (class kind status blocks : ℕ) → status < 8 → response_status (response_head 1 class kind status blocks) ≡ status
unfolding response_status response_head
response_head-status class kind status blocks h = omega arith

pub response_head-class : (class kind status blocks : ℕ) → kind < 8 → status < 8 → response_class (response_head 1 class kind status blocks) ≡ class
unfolding response_class response_head
response_head-class class kind status blocks k s = omega arith

pub response_head-kind : (class kind status blocks : ℕ) → kind < 8 → status < 8 → response_kind (response_head 1 class kind status blocks) ≡ kind
unfolding response_kind response_head
response_head-kind class kind status blocks k s = omega arith

pub response_head-format : (class kind status blocks : ℕ) → head_format (response_head 1 class kind status blocks) ≡ 3
unfolding head_format response_head
response_head-format class kind status blocks = refl

pub response_head-llid : (class kind status blocks : ℕ) → head_llid (response_head 1 class kind status blocks) ≡ 1
unfolding head_llid response_head
response_head-llid class kind status blocks = refl
