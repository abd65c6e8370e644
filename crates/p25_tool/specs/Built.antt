-- The bits and items of the output of `build`: the data units of the lines, undamaged, end to end.
use Rattle.std.specs.{Prelude.{◌≡◌, ℕ, ◌+◌, Bool, true, List, [], ◌∷◌, length, map, take, Ok}, List.{flat_map}}
use Rattle.p25_bits.specs.Bits.{octet_bits}
use Rattle.p25_status.specs.declared.symbols.Status.{Status}
use Rattle.p25_text.specs.Grammar.{read_line_of, text_of}
use Rattle.p25_units.specs.{UnitParts.{UnitParts}, Units.{filled_frame, frame_length_of, image_of}, declared.item.Item.{Item}}
use Rattle.p25_units.specs.declared.item.Item.TheVariants.{Whole}
use Rattle.p25_stream.specs.Items.{items_of}
use Rattle.p25_filter.specs.Lines.{lines_in, read_of}
use Rattle.p25_tool.specs.{declared.command.Command.TheVariants.{Show, Build}, Outputs.{output_by}}
use Rattle.p25_recording_filters.specs.ItemOutputs.{shown}

-- the bits of data units with one status symbol everywhere, end to end
abbrev pub bits_built : Status → List UnitParts → List Bool
bits_built status units = flat_map (λ unit. image_of (filled_frame status unit)) units

-- their items from a position on: each whole, without fixes, at the end of the one before it
unfoldable pub wholes_built : Status → ℕ → List UnitParts → List Item
wholes_built status place [] = []
wholes_built status place (unit ∷ units) = Whole place (filled_frame status unit) 0 ∷ wholes_built status (place + frame_length_of unit) units

-- octets are data units with one status symbol everywhere: their bits are those of the data units, and their items the data units, in order; so
-- `show` writes one line for each data unit
pub record AreBuilt (status : Status) (units : List UnitParts) (octets : List ℕ) : Type 0 where
  pub bits : octet_bits octets ≡ bits_built status units
  pub items : items_of 0 (octet_bits octets) ≡ wholes_built status 0 units
  pub lines : output_by Show true octets ≡ flat_map shown (wholes_built status 0 units)

-- the data units that lines decode to, up to the first line that is refused
abbrev pub units_of : List (List ℕ) → List UnitParts
units_of lines = read_of read_line_of lines

-- `build` writes the data units of the lines of its input
abbrev pub BuildsUnits : Type 0
BuildsUnits =
    (ended : Bool) (status : Status) (octets : List ℕ) → AreBuilt status (units_of (lines_in ended [] octets)) (output_by (Build status) ended octets)

-- the texts of the data units that lines decode to are the first of the lines, in order
abbrev pub LinesAreTexts : Type 0
LinesAreTexts = (lines : List (List ℕ)) → map text_of (units_of lines) ≡ take (length (units_of lines)) lines

-- if every line decodes to a data unit, they are these data units, in order, and the lines are their texts
abbrev pub AcceptedAreRead : Type 0
AcceptedAreRead =
    (lines : List (List ℕ)) (units : List UnitParts) → map read_line_of lines ≡ map Ok units
    → (units_of lines ≡ units) × (map text_of units ≡ lines)
