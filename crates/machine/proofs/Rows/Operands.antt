-- What 5 to 8 and 23 promise of the command of a block that they let pass: its operands are in the ranges of its row, and numbers of their width.
use Rattle.std.specs.Prelude.{Ok, Err}
use Prim.Native.Nat.{ℕ, ◌+◌, ◌*◌, ◌%◌, ◌<◌, ◌≤◌}
use mathlib.Core.Path.{◌≡◌, refl}
use mathlib.Core.Bool.{Bool, true, false, cond}
use mathlib.Core.List.{List, [], ◌∷◌}
use native.Mathlib.Omega.{arith}
use lib.IntN.{pos}
use mir.Syntax.{w32}
use mir.Val.{SFits}
use mir.ValLaws.{to_z-Fits}
use Rattle.num_le.specs.LittleEndian.{le_number}
use Rattle.image_header.specs.declared.Header.{Header}
use Rattle.command_table.specs.Rows.{row_of}
use Rattle.command_table.specs.declared.Row.{Row}
use Rattle.command_table.specs.declared.Layout.{Layout}
use Rattle.command_table.specs.declared.Layout.TheVariants.{Bare, Byte, Word, Pair, Triple, TripleWord, ByteWord, Value, ByteValue, PairValue, ValueJump}
use Rattle.command_operands.specs.Operands.{byte_at, word_at, value_at, laid_out, operands, unused_zero}
use Rattle.command_judge.specs.BlockFault.{block_fault, row_fault, command_fault, operand_fault, if_present, block_fault_number, in_range, device_presence}
use Rattle.command_operands.specs.declared.Command.{Command}
use Rattle.command_judge.specs.declared.BlockFault.TheVariants.{NotCarried, OutOfRange, NotZero}
use Rattle.drive.specs.Types.{Presence}
use Rattle.drive.specs.declared.Absence.TheVariants as presence
use Rattle.machine.proofs.Rows.Forms.{Ranged, Fit}

-- every byte of a block, and what is read past its end, is below 256
abbrev pub BlockBytes : List ℕ → Type 0
BlockBytes b = (k : ℕ) → byte_at b k < 256

-- ---- layouts: the code is the first byte, word has two bytes and value four

record Laid (f : List ℕ → Command) : Type 0 where
  code : (b : List ℕ) → (f b).code ≡ byte_at b 0
  word : (b : List ℕ) → BlockBytes b → (f b).word ≤ 65535
  value : (b : List ℕ) → BlockBytes b → SFits w32 (f b).value

word_small : (b : List ℕ) → BlockBytes b → (k : ℕ) → word_at b k ≤ 65535
word_small b h k = let x = h k in let y = h (k + 1) in omega arith

value_fits : (b : List ℕ) → BlockBytes b → (k : ℕ) → SFits w32 (value_at b k)
value_fits b h k =
    let x = h k in
    let y = h (k + 1) in
    let z = h (k + 2) in
    let w = h (k + 3) in
    to_z-Fits w32 (le_number (byte_at b k ∷ byte_at b (k + 1) ∷ byte_at b (k + 2) ∷ byte_at b (k + 3) ∷ [])) (record { fits = omega arith })

no_value : SFits w32 (pos 0)
no_value = record { sfits = omega arith }

no_word : 0 ≤ 65535
no_word = omega arith

half_word : (b : List ℕ) → BlockBytes b → 256 * (byte_at b 6 % 16) + byte_at b 7 ≤ 65535
half_word b h = let x = h 6 in let y = h 7 in omega arith

laid : (l : Layout) → Laid (laid_out l)
laid Bare = record { code = λ _. refl; word = λ _ _. no_word; value = λ _ _. no_value }
laid Byte = record { code = λ _. refl; word = λ _ _. no_word; value = λ _ _. no_value }
laid Word = record { code = λ _. refl; word = λ b h. word_small b h 1; value = λ _ _. no_value }
laid Pair = record { code = λ _. refl; word = λ _ _. no_word; value = λ _ _. no_value }
laid Triple = record { code = λ _. refl; word = λ _ _. no_word; value = λ _ _. no_value }
laid TripleWord = record { code = λ _. refl; word = λ b h. word_small b h 4; value = λ _ _. no_value }
laid ByteWord = record { code = λ _. refl; word = λ b h. word_small b h 2; value = λ _ _. no_value }
laid Value = record { code = λ _. refl; word = λ _ _. no_word; value = λ b h. value_fits b h 1 }
laid ByteValue = record { code = λ _. refl; word = λ _ _. no_word; value = λ b h. value_fits b h 2 }
laid PairValue = record { code = λ _. refl; word = λ _ _. no_word; value = λ b h. value_fits b h 3 }
laid ValueJump = record { code = λ _. refl; word = half_word; value = λ b h. value_fits b h 2 }

-- ---- ranges

module _ (r : Row) (h : Header) (b : List ℕ) (c : Command) where
  judged : block_fault_number (command_fault r h b c) ≡ 0 → in_range r.ranges h.count c ≡ true
  unfolding command_fault operand_fault
  judged e = present (device_presence r.device h.drive c.x c.y) e
    where
      range : (t : Bool) → block_fault_number (cond t (cond (unused_zero r.layout b) (Ok tt) (Err NotZero)) (Err OutOfRange)) ≡ 0 → t ≡ true
      range true i = refl
      range false i = absurd (omega arith)

      present : (p : Presence) → block_fault_number (if_present p (operand_fault r h.count b c)) ≡ 0 → in_range r.ranges h.count c ≡ true
      present (Ok _) j = range (in_range r.ranges h.count c) j
      present (Err presence.BoardMissing) j = absurd (omega arith)
      present (Err presence.Never) j = absurd (omega arith)

pub in_ranges : (h : Header) (b : List ℕ) → block_fault_number (block_fault h b) ≡ 0 → Ranged h.count (operands b)
unfolding block_fault row_fault operands
in_ranges h b e = rw ((laid (row_of (byte_at b 0)).layout).code b) (go (row_of (byte_at b 0)).carried e)
  where
    go : (t : Bool) → block_fault_number (cond t (command_fault (row_of (byte_at b 0)) h b (laid_out (row_of (byte_at b 0)).layout b)) (Err NotCarried)) ≡ 0
        → in_range (row_of (byte_at b 0)).ranges h.count (laid_out (row_of (byte_at b 0)).layout b) ≡ true
    go false i = absurd (omega arith)
    go true i = judged (row_of (byte_at b 0)) h b (laid_out (row_of (byte_at b 0)).layout b) i

-- a block of bytes that 5 to 8 and 23 let pass
pub fit : (h : Header) (b : List ℕ) → BlockBytes b → block_fault_number (block_fault h b) ≡ 0 → Fit h.count (operands b)
unfolding operands
fit h b k e = let l = laid (row_of (byte_at b 0)).layout in record { word = l.word b k; value = l.value b k; ranges = in_ranges h b e }
