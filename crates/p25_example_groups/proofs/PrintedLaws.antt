-- Lines that are printed, one after the other, are those of the recording.
use Rattle.std.proofs.Common.{◌≡◌, ℕ, ◌+◌, ◌-◌, ◌^◌, ◌<◌, ◌≤◌, Bool, true, false, List, [], ◌∷◌, ◌++◌, length, take, drop, Option, Some, None, refl, ap, ap₂, sym, subst, ◌∙◌, arith, append_assoc, append-nil, length-append}
use Rattle.std.proofs.{KnownBytes.{Appends-nil, Appends-trans}, Math.Seq.{take-add}, lemmas.List.{take_all, take_rest}}
use Rattle.std.specs.{Prelude.{IfSome}, Io.KnownBytes.{Appends, Consumes, IsAtEnd}, List.{flat_map}}
use Rattle.p25_bits.specs.Bits.{octet_bits}
use Rattle.p25_bits.proofs.BitsLaws.{octet_bits-append, octet_bits-nil}
use Rattle.p25_stream.specs.{Items.{items_by, items_of}, Scan.{Gave, Scan, given}}
use Rattle.p25_stream.proofs.ScanLaws.{gave-items}
use Rattle.p25_units.specs.declared.item.Item.{Item}
use Rattle.p25_example_groups.specs.Printed.{HasPrinted, item_line, lines_left, lines_of}

-- no bits came, and nothing was printed
pub printed-none : (held : Option (List ℕ)) (scan : Scan) → HasPrinted [] held scan held scan
printed-none held scan = record { lines = []; wrote = Appends-nil held; left = λ more goes. refl }

-- the line of an item that was given
pub printed-item : (bits : List Bool) (first before now : Option (List ℕ)) (scan next after : Scan) (item : Item) (raw : List Bool)
    → HasPrinted bits first scan before next → Gave next item raw after → Appends before now (item_line item) → HasPrinted bits first scan now after
printed-item bits first before now scan next after item raw done gave wrote = record {
  lines = done.lines ++ item_line item;
  wrote = Appends-trans first before now done.lines (item_line item) done.wrote wrote;
  left = λ more goes.
      done.left more (λ ended. goes (gave.same ∙ ended))
      ∙ ap (λ (items : List Item). done.lines ++ flat_map item_line items) (gave-items next after item raw true more gave (λ ended. (refl, goes (gave.same ∙ ended))))
      ∙ sym (append_assoc done.lines (item_line item) (lines_left after more));
}

-- bits that were pushed to a scanner, and the text printed then
pub printed-pushed : (bits : List Bool) (before now : Option (List ℕ)) (scan pushed next : Scan) → pushed ≡ record scan { held = scan.held ++ bits }
    → HasPrinted [] before pushed now next → HasPrinted bits before scan now next
printed-pushed bits before now scan pushed next is done = record {
  lines = done.lines;
  wrote = done.wrote;
  left = λ more goes.
      ap (λ (held : List Bool). flat_map item_line (items_of scan.place held)) (sym (append_assoc scan.held bits more))
      ∙ ap (λ (s : Scan). lines_left s more) (sym is)
      ∙ done.left more goes;
}

-- the text printed before, and the text printed after it
pub printed-both : (xs ys : List Bool) (first before now : Option (List ℕ)) (scan next after : Scan) → next.finished ≡ false
    → HasPrinted xs first scan before next → HasPrinted ys before next now after → HasPrinted (xs ++ ys) first scan now after
printed-both xs ys first before now scan next after going done more_done = record {
  lines = done.lines ++ more_done.lines;
  wrote = Appends-trans first before now done.lines more_done.lines done.wrote more_done.wrote;
  left = λ more goes.
      ap (λ (bits : List Bool). lines_left scan bits) (append_assoc xs ys more)
      ∙ done.left (ys ++ more) (λ ended. let two : false ≡ true = sym going ∙ ended in absurd (cc two))
      ∙ ap (λ (lines : List ℕ). done.lines ++ lines) (more_done.left more goes)
      ∙ sym (append_assoc done.lines more_done.lines (lines_left after more));
}

-- the octets that are taken, and those that are taken then
octets-next : (octets : List ℕ) (taken count : ℕ)
    → octet_bits (take taken octets) ++ octet_bits (take count (take (length octets - taken) (drop taken octets))) ≡ octet_bits (take (taken + count) octets)
octets-next octets taken count =
    sym (octet_bits-append (take taken octets) (take count (take (length octets - taken) (drop taken octets))))
    ∙ ap (λ (xs : List ℕ). octet_bits (take taken octets ++ take count xs)) (take_rest octets taken)
    ∙ ap octet_bits (sym (take-add taken count octets))

-- octets that a scanner took after others, and the text printed then
pub printed-next : (octets : List ℕ) (taken count : ℕ) (first before now : Option (List ℕ)) (scan next pushed after : Scan) → next.finished ≡ false
    → HasPrinted (octet_bits (take taken octets)) first scan before next
    → pushed ≡ record next { held = next.held ++ octet_bits (take count (take (length octets - taken) (drop taken octets))) }
    → HasPrinted [] before pushed now after → HasPrinted (octet_bits (take (taken + count) octets)) first scan now after
printed-next octets taken count first before now scan next pushed after going done is last =
    let more = octet_bits (take count (take (length octets - taken) (drop taken octets))) in
    subst (λ (bits : List Bool). HasPrinted bits first scan now after) (octets-next octets taken count)
    (printed-both (octet_bits (take taken octets)) more first before now scan next after going done (printed-pushed more before now next pushed after is last))

-- before any octet is taken, and once all are
pub printed-begun : (octets : List ℕ) (held : Option (List ℕ)) (scan : Scan) → HasPrinted (octet_bits (take 0 octets)) held scan held scan
printed-begun octets held scan = subst (λ (bits : List Bool). HasPrinted bits held scan held scan) (sym octet_bits-nil) (printed-none held scan)

-- before the first octet of a recording
pub printed-first : (held : Option (List ℕ)) (scan : Scan) → scan ≡ record { place = 0; held = []; finished = false }
    → HasPrinted (octet_bits []) held (record { place = 0; held = []; finished = false }) held scan
printed-first held scan is =
    subst (λ (s : Scan). HasPrinted (octet_bits []) held (record { place = 0; held = []; finished = false }) held s) (sym is)
    (subst (λ (bits : List Bool). HasPrinted bits held (record { place = 0; held = []; finished = false }) held (record { place = 0; held = []; finished = false })) (sym octet_bits-nil)
    (printed-none held (record { place = 0; held = []; finished = false })))

-- octets that were read after others
pub printed-on : (octets more : List ℕ) (first before now : Option (List ℕ)) (scan next after : Scan) → next.finished ≡ false
    → HasPrinted (octet_bits octets) first scan before next → HasPrinted (octet_bits more) before next now after → HasPrinted (octet_bits (octets ++ more)) first scan now after
printed-on octets more first before now scan next after going done later =
    subst (λ (bits : List Bool). HasPrinted bits first scan now after) (sym (octet_bits-append octets more))
    (printed-both (octet_bits octets) (octet_bits more) first before now scan next after going done later)
