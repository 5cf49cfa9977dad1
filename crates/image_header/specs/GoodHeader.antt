-- A header and a landing list that load accepts: each number is in its range (document 01, "The image" and refusal 3; change request 1, refusal 21).
use Rattle.std.specs.Prelude.{ℕ, suc, ◌<◌, ◌≤◌, ◌≡◌, ◌⊎◌, true, List, length, get_or}
use Rattle.limits.specs.Limits.{most_blocks, most_landings}
use Rattle.drive.specs.Types.{types, takes_b, takes_c}
use Rattle.image_header.specs.Rows.{format1, format2, most_of}
use Rattle.image_header.specs.declared.Header.{Header}

pub record GoodHeader (h : Header) : Type 0 where
  pub format : (h.format ≡ format1) ⊎ (h.format ≡ format2)
  pub model : h.drive.model < types
  pub board_b : takes_b h.drive.model h.drive.b ≡ true
  pub board_c : takes_c h.drive.model h.drive.c ≡ true
  pub count : (0 < h.count) × (h.count ≤ most_blocks)
  pub start : h.start < h.count
  pub landings : h.landings ≤ most_of h.format

-- the list has room for the most; the header says how many it names, strictly ascending blocks of the program, and the entries past them are 0
pub record GoodLandings (h : Header) (l : List ℕ) : Type 0 where
  pub long : length l ≡ most_landings
  pub below : (i : ℕ) → i < h.landings → get_or l i 0 < h.count
  pub ascending : (i : ℕ) → suc i < h.landings → get_or l i 0 < get_or l (suc i) 0
  pub past : (i : ℕ) → h.landings ≤ i → get_or l i 0 ≡ 0
