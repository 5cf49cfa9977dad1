-- Pins: document 01, "Drive and pins", row by row. A pin's home is the part that has it: the 631 itself, every other type itself, or a board.
use Rattle.std.specs.Prelude.{ℕ, ◌&&◌, List, [], ◌∷◌, Option, leb}
use Rattle.std.specs.List.{find}
use Rattle.std.specs.Option.{option_map}
use Rattle.drive_pins.specs.declared.Home.{Home}
use Rattle.drive_pins.specs.declared.Home.TheVariants.{Only631, Others, SlotB, SlotC}
use Rattle.drive_pins.specs.declared.PinKind.{PinKind}
use Rattle.drive_pins.specs.declared.PinKind.TheVariants.{Input, OutputWritten, OutputRead}
use Rattle.drive_pins.specs.declared.PinRow.{PinRow}

-- the pins from `a` to `b` are at `h`
abbrev pub pin_row : Home → ℕ → ℕ → PinRow
pin_row h a b = record { first = a; last = b; home = h }

-- boards by their numbers
abbrev pub rp_ea5 : Home
rp_ea5 = SlotB 1

abbrev pub rp2c8 : Home
rp2c8 = SlotB 2

abbrev pub rp_eae : Home
rp_eae = SlotC 1

abbrev pub rp_sbt : Home
rp_sbt = SlotC 2

-- inputs (paper 001 at 63)
unfoldable pub inputs : List PinRow
inputs =
    pin_row Only631 7 10 ∷
    pin_row Others 2 2 ∷ pin_row Others 4 4 ∷ pin_row Others 11 11 ∷ pin_row Others 15 15 ∷ pin_row Others 22 22 ∷ pin_row Others 24 25 ∷
    pin_row rp_ea5 101 102 ∷ pin_row rp_ea5 106 108 ∷
    pin_row rp_eae 201 208 ∷ pin_row rp_eae 211 216 ∷
    pin_row rp2c8 121 124 ∷
    pin_row rp_sbt 91 91 ∷ pin_row rp_sbt 93 93 ∷
    []

-- outputs that can be written (paper 000 at 72)
unfoldable pub outputs_written : List PinRow
outputs_written =
    pin_row Only631 5 6 ∷
    pin_row Others 12 13 ∷ pin_row Others 20 20 ∷ pin_row Others 23 23 ∷
    pin_row rp_ea5 109 110 ∷
    pin_row rp_eae 209 210 ∷ pin_row rp_eae 217 224 ∷
    pin_row rp2c8 125 128 ∷
    []

-- outputs that can be read (001 at 64): those, and pin 8 except on type 0
unfoldable pub outputs_read : List PinRow
outputs_read = pin_row Others 8 8 ∷ outputs_written

-- the home of a pin: that of the first row which has it
unfoldable pub home_in : List PinRow → ℕ → Option Home
home_in rows pin = option_map (λ (r : PinRow). r.home) (find (λ (r : PinRow). leb r.first pin && leb pin r.last) rows)

unfoldable pub home_of : PinKind → ℕ → Option Home
home_of Input pin = home_in inputs pin
home_of OutputWritten pin = home_in outputs_written pin
home_of OutputRead pin = home_in outputs_read pin
