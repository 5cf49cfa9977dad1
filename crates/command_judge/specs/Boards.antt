-- What 6 and 23 of a block promise to a fitter (change request 3), of which the laws speak (proofs/Boards.antt).
use Rattle.std.specs.Prelude.{ℕ, ◌≡◌, true, List, Err}
use Rattle.drive_pins.specs.declared.Home.{Home}
use Rattle.drive.specs.Boards.{may_carry, with_boards, fitted}
use Rattle.image_header.specs.Numbers.{with_drive}
use Rattle.image_header.specs.declared.Header.{Header}
use Rattle.command_judge.specs.BlockFault.{block_fault}
use Rattle.command_judge.specs.declared.BlockFault.TheVariants.{NotOnDrive, BoardMissing}

-- the block passes 6 and 23
pub record OnDrive (h : Header) (b : List ℕ) : Type 0 where
  pub not6 : block_fault h b ≡ Err NotOnDrive → ⊥
  pub not23 : block_fault h b ≡ Err BoardMissing → ⊥

-- 23: there is a board that the type may carry, and with it the block passes 6 and 23
pub record Buyable (h : Header) (b : List ℕ) : Type 0 where
  pub board : Home
  pub carried : may_carry h.drive.model board ≡ true
  pub passes : OnDrive (with_drive (fitted h.drive board) h) b

-- 6: whatever is in the slots, it is 6
pub record OtherDrive (h : Header) (b : List ℕ) : Type 0 where
  pub still : (slot_b slot_c : ℕ) → block_fault (with_drive (with_boards h.drive slot_b slot_c) h) b ≡ Err NotOnDrive
