-- A broken data unit is written anew: its status symbols are removed, and with another sync and NID and other status symbols it is joined again.
use Rattle.std.proofs.{Common.{◌≡◌, ℕ, ◌-◌, Bool, List, [], ◌++◌, length, drop, replicate, ap, ap₂, ◌∙◌, arith, length-drop}, lemmas.List.{take_all}}
use Rattle.p25_bits.specs.Bits.{part}
use Rattle.p25_status.specs.{Woven.{bare_of, statuses_of, woven}, declared.symbols.Status.{Status}}
use Rattle.p25_unit_front.specs.Front.{unit_front}
use Rattle.p25_follow.specs.Relayed.{relayed_broken}

pub broken-written : (nac duid count n m : ℕ) (status : Status) (raw bare start front fronted out : List Bool) (statuses filled : List Status) → count ≡ length raw
    → bare ≡ bare_of (part 0 count raw) → statuses ≡ statuses_of (part 0 count raw) → start ≡ [] → front ≡ start ++ unit_front nac duid → n ≡ length bare - 112
    → fronted ≡ front ++ part 112 n bare → m ≡ length statuses → filled ≡ replicate m status → out ≡ woven fronted filled → out ≡ relayed_broken nac duid status raw
unfolding relayed_broken
broken-written nac duid count n m status raw bare start front fronted out statuses filled count_is bare_is statuses_is start_is front_is n_is fronted_is m_is filled_is out_is =
    let whole : part 0 count raw ≡ raw = take_all count raw (omega (arith, count_is)) in
    let body : part 112 n bare ≡ drop 112 (bare_of raw)
    = take_all n (drop 112 bare) (omega (arith, n_is, length-drop 112 bare)) ∙ ap (drop 112) (bare_is ∙ ap bare_of whole) in
    let count_of : m ≡ length (statuses_of raw) = m_is ∙ ap length (statuses_is ∙ ap statuses_of whole) in
    out_is
    ∙ ap₂ woven
    (fronted_is ∙ ap₂ ◌++◌ (front_is ∙ ap (λ (zs : List Bool). zs ++ unit_front nac duid) start_is) body)
    (filled_is ∙ ap (λ (k : ℕ). replicate k status) count_of)
