-- The texts of calls.
use Rattle.std.specs.Prelude.{ℕ, Bool, true, false, List, [], ◌∷◌, ◌++◌, codes, decimal, Option, Some, None}
use Rattle.hex.specs.Hex.{encode_lower}
use Rattle.p25_line.specs.Values.{three_digits}
use Rattle.p25_link.specs.declared.link_control.LinkControl.{LinkControl}
use Rattle.p25_calls.specs.{declared.call.Call.{Call}, declared.call.CallEnd.{CallEnd}, declared.call.CallEnd.TheVariants.{Tdu, Tdulc, Open}}

-- how a call was entered: late, or with its header (HDU)
abbrev pub entry_word : Bool → List ℕ
entry_word true = codes "late"
entry_word false = codes "header"

-- how a call ends: with a TDU, with a TDULC, or open
abbrev pub end_word : CallEnd → List ℕ
end_word Tdu = codes "tdu"
end_word Tdulc = codes "tdulc"
end_word Open = codes "open"

-- the link control (LC) of a call
abbrev pub link_text : Option LinkControl → List ℕ
link_text (Some link) = encode_lower link.0
link_text None = codes "none"

-- the algorithm of a call
abbrev pub algid_text : Option ℕ → List ℕ
algid_text (Some algid) = encode_lower (algid ∷ [])
algid_text None = codes "none"

-- the text of a call, without the end of its line
unfoldable pub call_text_of : Call → List ℕ
call_text_of call =
    codes "call at=" ++ decimal call.place ++ codes " bits=" ++ decimal call.bits ++ codes " nac=" ++ three_digits call.nac
    ++ codes " entry=" ++ entry_word call.late ++ codes " end=" ++ end_word call.end
    ++ codes " links=" ++ decimal call.links ++ codes " broken=" ++ decimal call.broken
    ++ codes " lc=" ++ link_text call.link ++ codes " alg=" ++ algid_text call.algid
