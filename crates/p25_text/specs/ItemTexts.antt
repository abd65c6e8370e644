-- The texts of items.
use Rattle.std.specs.Prelude.{ℕ, ◌+◌, List, [], ◌∷◌, ◌++◌, drop, map, codes, decimal}
use Rattle.hex.specs.Hex.{encode_lower}
use Rattle.p25_status.specs.{FieldNames.{field_name, field_names}, Status.{status_number}, declared.symbols.Status.{Status}}
use Rattle.p25_units.specs.{Units.{frame_length_of}, declared.item.Item.{Item}, declared.item.Item.TheVariants.{Whole, Broken, NoUnit, Gap, Cut}}
use Rattle.p25_line.specs.Values.{three_digits}
use Rattle.p25_text.specs.Grammar.{text_of}

-- a digit 0 to 3 for each status symbol
unfoldable pub status_digits : List Status → List ℕ
status_digits statuses = map (λ status. 48 + status_number status) statuses

-- the last hexadecimal digit of a number below 256
abbrev pub one_digit : ℕ → List ℕ
one_digit number = drop 1 (encode_lower (number ∷ []))

-- the text of an item, without the end of its line
unfoldable pub item_text_of : Item → List ℕ
item_text_of (Whole place frame fixes) =
    codes "unit at=" ++ decimal place ++ codes " bits=" ++ decimal (frame_length_of frame.unit) ++ codes " fix=" ++ decimal fixes
    ++ codes " status=" ++ status_digits frame.statuses ++ codes " " ++ text_of frame.unit
item_text_of (Broken place count nac duid fields) =
    codes "broken at=" ++ decimal place ++ codes " bits=" ++ decimal count ++ codes " nac=" ++ three_digits nac ++ codes " duid=" ++ one_digit duid
    ++ codes " fields=" ++ field_names fields
item_text_of (NoUnit place field) = codes "nounit at=" ++ decimal place ++ codes " field=" ++ field_name field
item_text_of (Gap place count) = codes "gap at=" ++ decimal place ++ codes " bits=" ++ decimal count
item_text_of (Cut place have) = codes "cut at=" ++ decimal place ++ codes " bits=" ++ decimal have
