-- 6 and 23 of a block (change request 3): a block that is refused by 23 passes both with a board that the type may carry, one that is refused by 6 stays so
-- whatever is in the slots, and 23 never comes on a 631.
use Rattle.std.specs.Prelude.{Ok, Err}
use Prim.Native.Nat.{ℕ}
use native.Mathlib.Omega.{arith}
use mathlib.Core.Path.{◌≡◌, refl, sym, ap, ◌∙◌}
use mathlib.Core.Bool.{Bool, true, false, cond}
use mathlib.Core.Logic.{◌↔◌}
use mathlib.Core.List.{List}
use lib.Dec.{eqb}
use Rattle.drive_pins.specs.declared.Home.{Home}
use Rattle.drive_pins.specs.declared.Home.TheVariants as home
use Rattle.drive_pins.specs.declared.PinKind.{PinKind}
use Rattle.drive_pins.specs.declared.PinKind.TheVariants.{Input, OutputWritten, OutputRead}
use Rattle.drive.specs.Types.{type631, type_637_plus}
use Rattle.drive.specs.Pins.{pin_of}
use Rattle.drive.specs.Boards.{may_carry, with_boards, fitted}
use Rattle.drive.specs.declared.Drive.{Drive}
use Rattle.drive.specs.Types.{Presence}
use Rattle.drive.specs.declared.Absence.TheVariants as presence
use Rattle.drive.proofs.Boards.{missing_exactly, never_with, no_board}
use Rattle.image_header.specs.Numbers.{with_drive}
use Rattle.image_header.specs.declared.Header.{Header}
use Rattle.command_table.specs.Rows.{row_of}
use Rattle.command_table.specs.declared.Row.{Row}
use Rattle.command_table.specs.declared.Device.{Device}
use Rattle.command_table.specs.declared.Device.TheVariants.{NoDevice, InputX, InputY, OutputReadX, OutputReadY, OutputWrittenX, Not637Plus}
use Rattle.command_operands.specs.Operands.{byte_at, laid_out, unused_zero}
use Rattle.command_operands.specs.declared.Command.{Command}
use Rattle.command_judge.specs.BlockFault.{not_on_637_plus, device_presence, operand_fault, if_present, command_fault, row_fault, block_fault, block_fault_number}
use Rattle.command_judge.specs.BlockFault.{in_range}
use Rattle.command_judge.specs.Boards.{OnDrive, Buyable, OtherDrive}
use Rattle.command_judge.specs.BlockFault.{BlockResult}
use Rattle.command_judge.specs.declared.BlockFault.TheVariants.{NotCarried, NotOnDrive, BoardMissing, OutOfRange, NotZero}

-- ---- what a command needs, for each device

-- a board that the type may carry, and with it the drive has what the command needs
record Bought (f : Drive → ℕ → ℕ → Presence) (d : Drive) (x y : ℕ) : Type 0 where
  board : Home
  carried : may_carry d.model board ≡ true
  there : f (fitted d board) x y ≡ Ok tt

record Known (f : Drive → ℕ → ℕ → Presence) : Type 0 where
  bought : (d : Drive) (x y : ℕ) → f d x y ≡ Err presence.BoardMissing → Bought f d x y
  never : (d : Drive) (x y : ℕ) → f d x y ≡ Err presence.Never → (b c : ℕ) → f (with_boards d b c) x y ≡ Err presence.Never

no_device : Known (λ d x y. (Ok tt))
no_device = record { bought = λ d x y e. cc; never = λ d x y e b c. e }

-- a pin, in one of the operands
pin_device : (kind : PinKind) (which : ℕ → ℕ → ℕ) → Known (λ d x y. pin_of d kind (which x y))
pin_device kind which = record {
  bought = λ d x y e. let m = (missing_exactly d kind (which x y)).0 e in record { board = m.board; carried = m.carried; there = m.bought };
  never = λ d x y e. never_with d kind (which x y) e;
}

not_637_plus : Known (λ d x y. not_on_637_plus d)
not_637_plus = record { bought = λ d x y e. absurd (none_missing (eqb d.model type_637_plus) e); never = λ d x y e b c. e }
  where
    none_missing : (t : Bool) → cond t (Err presence.Never) (Ok (tt {0})) ≡ Err presence.BoardMissing → ⊥
    none_missing true e = cc
    none_missing false e = cc

device : (k : Device) → Known (device_presence k)
device NoDevice = no_device
device InputX = pin_device Input (λ x y. x)
device InputY = pin_device Input (λ x y. y)
device OutputReadX = pin_device OutputRead (λ x y. x)
device OutputReadY = pin_device OutputRead (λ x y. y)
device OutputWrittenX = pin_device OutputWritten (λ x y. x)
device Not637Plus = not_637_plus

-- ---- a command: 6 and 23 are what the drive has, and nothing else is

-- they come before 7 and 8, whatever those say
pub drive_first : (later : BlockResult) → (if_present (Err presence.BoardMissing) later ≡ Err BoardMissing) × (if_present (Err presence.Never) later ≡ Err NotOnDrive)
drive_first later = (refl, refl)

apart : {A : Type 0} (f g : BlockResult) → (block_fault_number f ≡ block_fault_number g → ⊥) → f ≡ g → A
apart f g n e = absurd (n (ap block_fault_number e))

module _ (r : Row) (count : ℕ) (b : List ℕ) (c : Command) where
  -- 7 and 8 are neither
  operands_apart : (f : BlockResult) → (block_fault_number f ≡ 0 → ⊥) → (block_fault_number f ≡ 7 → ⊥) → (block_fault_number f ≡ 8 → ⊥) → operand_fault r count b c ≡ f
      → ⊥
  unfolding operand_fault
  operands_apart f n m k e = go (in_range r.ranges count c) (unused_zero r.layout b) e
    where
      go : (t u : Bool) → cond t (cond u (Ok tt) (Err NotZero)) (Err OutOfRange) ≡ f → ⊥
      go true true i = n (sym (ap block_fault_number i))
      go true false i = k (sym (ap block_fault_number i))
      go false u i = m (sym (ap block_fault_number i))

  never_6 : operand_fault r count b c ≡ Err NotOnDrive → ⊥
  never_6 = operands_apart (Err NotOnDrive) (λ e. omega arith) (λ e. omega arith) (λ e. omega arith)

  never_23 : operand_fault r count b c ≡ Err BoardMissing → ⊥
  never_23 = operands_apart (Err BoardMissing) (λ e. omega arith) (λ e. omega arith) (λ e. omega arith)

  missing : (p : Presence) → if_present p (operand_fault r count b c) ≡ Err BoardMissing → p ≡ Err presence.BoardMissing
  missing (Ok _) e = absurd (never_23 e)
  missing (Err presence.BoardMissing) e = refl
  missing (Err presence.Never) e = apart (Err NotOnDrive) (Err BoardMissing) (λ i. omega arith) (sym (drive_first (operand_fault r count b c)).1 ∙ e)

  barred : (p : Presence) → if_present p (operand_fault r count b c) ≡ Err NotOnDrive → p ≡ Err presence.Never
  barred (Ok _) e = absurd (never_6 e)
  barred (Err presence.BoardMissing) e = apart (Err BoardMissing) (Err NotOnDrive) (λ i. omega arith) (sym (drive_first (operand_fault r count b c)).0 ∙ e)
  barred (Err presence.Never) e = refl

-- ---- a block

module _ (h : Header) (b : List ℕ) where
  abbrev row : Row
  row = row_of (byte_at b 0)

  abbrev c : Command
  c = laid_out row.layout b

  -- what the drive has of what the block's command needs
  abbrev has : Drive → Presence
  has d = device_presence row.device d c.x c.y

  abbrev rest : BlockResult
  rest = operand_fault row h.count b c

  -- on any drive: 5, or what the drive has
  by_drive : (d : Drive) (t : Bool) → row.carried ≡ t → block_fault (with_drive d h) b ≡ cond t (if_present (has d) rest) (Err NotCarried)
  unfolding block_fault row_fault command_fault
  by_drive d t e = ap (λ (u : Bool). cond u (if_present (has d) rest) (Err NotCarried)) e

  -- a block with a fault of the drive is carried, and the fault is what the drive has
  of_presence : {A : Type 0} (f : BlockResult) → (Err NotCarried ≡ f → A) → (if_present (has h.drive) rest ≡ f → row.carried ≡ true → A) → block_fault h b ≡ f → A
  of_presence {A} f uncarried carried e = go row.carried refl
    where
      go : (t : Bool) → row.carried ≡ t → A
      go true i = carried (sym (by_drive h.drive true i) ∙ e) i
      go false i = uncarried (sym (by_drive h.drive false i) ∙ e)

  -- what passes 6 and 23 is neither
  passing : OnDrive h b → {f : BlockResult} → block_fault h b ≡ f → (f ≡ Err NotOnDrive → ⊥) × (f ≡ Err BoardMissing → ⊥)
  passing o e = (λ z. o.not6 (e ∙ z), λ z. o.not23 (e ∙ z))

  -- there is no board to buy for a 631
  not_for_631 : Buyable h b → h.drive.model ≡ type631 → ⊥
  not_for_631 m z = no_board m.board (ap (λ (t : ℕ). may_carry t m.board) (sym z) ∙ m.carried)

  -- 23: a board that can be bought
  pub buyable : block_fault h b ≡ Err BoardMissing → Buyable h b
  buyable =
      of_presence (Err BoardMissing) (λ z. apart (Err NotCarried) (Err BoardMissing) (λ i. omega arith) z)
      (λ i k.
      let bought = (device row.device).bought h.drive c.x c.y (missing row h.count b c (has h.drive) i) in
      let after = by_drive (fitted h.drive bought.board) true k ∙ ap (λ (p : Presence). if_present p rest) bought.there in
      record {
        board = bought.board;
        carried = bought.carried;
        passes = record {
          not6 = λ z. never_6 row h.count b c (sym after ∙ z);
          not23 = λ z. never_23 row h.count b c (sym after ∙ z);
        };
      })

  other_back : OtherDrive h b → block_fault h b ≡ Err NotOnDrive
  other_back o = o.still h.drive.b h.drive.c

  -- 6: another drive, and nothing else will do
  pub by_6_exactly : (block_fault h b ≡ Err NotOnDrive) ↔ OtherDrive h b
  by_6_exactly = (forth, other_back)
    where
      forth : block_fault h b ≡ Err NotOnDrive → OtherDrive h b
      forth =
          of_presence (Err NotOnDrive) (λ z. apart (Err NotCarried) (Err NotOnDrive) (λ i. omega arith) z)
          (λ i k. record {
            still = λ slot_b slot_c.
                let never = (device row.device).never h.drive c.x c.y (barred row h.count b c (has h.drive) i) slot_b slot_c in
                by_drive (with_boards h.drive slot_b slot_c) true k ∙ ap (λ (p : Presence). if_present p rest) never;
          })

  -- so 6 is never told where a board would do
  pub not_both : block_fault h b ≡ Err NotOnDrive → Buyable h b → ⊥
  not_both e m = go m.board m.carried m.passes
    where
      go : (k : Home) → may_carry h.drive.model k ≡ true → OnDrive (with_drive (fitted h.drive k) h) b → ⊥
      go home.Only631 f o = o.not6 e
      go home.Others f o = o.not6 e
      go (home.SlotB n) f o = o.not6 ((by_6_exactly.0 e).still n h.drive.c)
      go (home.SlotC n) f o = o.not6 ((by_6_exactly.0 e).still h.drive.b n)

  -- and 23 is told exactly where the block does not pass and a board would do
  pub by_23_exactly : (block_fault h b ≡ Err BoardMissing) ↔ ((OnDrive h b → ⊥) × Buyable h b)
  by_23_exactly = (λ e. (λ o. (passing o e).1 refl, buyable e), λ m. back (block_fault h b) refl m.0 m.1)
    where
      sound : (f : BlockResult) → (block_fault_number f ≡ 6 → ⊥) → (block_fault_number f ≡ 23 → ⊥) → block_fault h b ≡ f → OnDrive h b
      sound f n m e = record { not6 = λ z. n (ap block_fault_number (sym e ∙ z)); not23 = λ z. m (ap block_fault_number (sym e ∙ z)) }

      back : (f : BlockResult) → block_fault h b ≡ f → (OnDrive h b → ⊥) → Buyable h b → f ≡ Err BoardMissing
      back (Ok _) e n m = absurd (n (sound (Ok tt) (λ i. omega arith) (λ i. omega arith) e))
      back (Err NotCarried) e n m = absurd (n (sound (Err NotCarried) (λ i. omega arith) (λ i. omega arith) e))
      back (Err NotOnDrive) e n m = absurd (not_both e m)
      back (Err BoardMissing) e n m = refl
      back (Err OutOfRange) e n m = absurd (n (sound (Err OutOfRange) (λ i. omega arith) (λ i. omega arith) e))
      back (Err NotZero) e n m = absurd (n (sound (Err NotZero) (λ i. omega arith) (λ i. omega arith) e))

  -- 23 never comes on a 631
  pub never_on_631 : h.drive.model ≡ type631 → block_fault h b ≡ Err BoardMissing → ⊥
  never_on_631 z e = not_for_631 (buyable e) z
