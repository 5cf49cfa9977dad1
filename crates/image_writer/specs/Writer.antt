-- The image writers: document 01, "Refused because of the input", its last paragraph; change request 1. One for each format.
use Rattle.std.specs.Prelude.{ℕ, zero, suc, ◌+◌, ◌*◌, ◌/◌, ◌%◌, ◌<◌, ◌≡◌, true, ◌&&◌, ◌||◌, cond, List, [], ◌∷◌, ◌++◌, length, get_or, drop, eqb, ltb, leb, Result, Ok, Err}
use Rattle.limits.specs.Limits.{block_length, most_landings}
use Rattle.num_le.specs.LittleEndian.{le_number, le_bytes}
use Rattle.image_result.specs.ImageResult.{done}
use Rattle.image_number.specs.Number.{number_limit, number_bytes, read_as}
use Rattle.image_header.specs.Rows.{landing_count_row, row_count, stands}
use Rattle.image_header.specs.Scan.{Source, Scanned, scan_begun, stopped, scan, scanned_header, first_refusal}
use Rattle.image_number.specs.declared.Number.{Number}
use Rattle.image_number.specs.declared.NumberFault.{NumberFault}
use Rattle.image_result.specs.ImageResult.{ImageResult}
use Rattle.image_result.specs.declared.ImageFault.TheVariants.{EndsEarly, OutOfRange, LeftOver, NoRoom, BadLanding}
use Rattle.image_writer.specs.declared.Written.{Written}

-- ---- the numbers that a writer is given

-- the words of a list of bytes, two to each, low byte first
unfoldable pub words_of : List ℕ → List ℕ
words_of [] = []
words_of (low ∷ []) = []
words_of (low ∷ high ∷ bytes) = le_number (low ∷ high ∷ []) ∷ words_of bytes

-- the bytes of a list of words
unfoldable pub word_bytes : List ℕ → List ℕ
word_bytes [] = []
word_bytes (word ∷ words) = le_bytes 2 word ++ word_bytes words

-- how many landing blocks n bytes name. An odd length, and one for more than the most, count as one more than the most: 21 refuses them where the landing count
-- would stand
abbrev pub landings_given : ℕ → ℕ
landings_given n = cond (eqb (n % 2) 0 && leb n (2 * most_landings)) (n / 2) (most_landings + 1)

-- the header's numbers up to the count, and the bytes of the landing blocks
abbrev pub with_landings : List ℕ → List ℕ → List ℕ
with_landings numbers landings = numbers ++ (landings_given (length landings) ∷ words_of landings)

-- a number v that stands at a place, its bytes before the next place
abbrev pub standing : ℕ → ℕ → Result Number NumberFault
standing v at = read_as v (at + length (number_bytes v))

-- the writer has the numbers given
abbrev pub given_numbers : List ℕ → Source
given_numbers numbers row at = standing (get_or numbers row 0) at

-- the bytes of number k, none where it does not stand
abbrev pub bytes_at : List ℕ → ℕ → List ℕ
bytes_at numbers k = cond (stands k numbers) (number_bytes (get_or numbers k 0)) []

-- the bytes of the first k numbers, one after the other
unfoldable pub first_numbers : List ℕ → ℕ → List ℕ
first_numbers numbers zero = []
first_numbers numbers (suc k) = first_numbers numbers k ++ bytes_at numbers k

-- an image is the bytes of its numbers and of its blocks
unfoldable pub image_of : List ℕ → List ℕ → List ℕ
image_of numbers blocks = first_numbers numbers row_count ++ blocks

-- each number that stands has a form of one or two bytes
abbrev pub HaveForms : List ℕ → Type 0
HaveForms numbers = (k : ℕ) → k < row_count → stands k numbers ≡ true → get_or numbers k 0 < number_limit

abbrev pub not_written : ImageResult → Written
not_written o = record { result = o; length = 0 }

-- blocks of b bytes behind numbers that end at `at`: 1 and 4 at the length of the blocks, 14 at the length needed
unfoldable pub room_result : ℕ → ℕ → ℕ → ℕ → ImageResult
room_result at count b room =
    cond (ltb b (block_length * count)) (Err (EndsEarly b))
    (cond (ltb (block_length * count) b) (Err (LeftOver b))
    (cond (ltb room (at + b)) (Err (NoRoom (at + b))) (Ok tt)))

-- numbers, blocks and room judged: the length, or the refusal
unfoldable pub written_with : Scanned → ℕ → ImageResult → Written
written_with s b o = cond (done o) (record { result = o; length = s.at + b }) (not_written o)

-- the numbers, then the blocks and the room
unfoldable pub judged_write : Scanned → ℕ → ℕ → Written
judged_write s b room = written_with s b (first_refusal s.result (room_result s.at (scanned_header s).count b room))

-- landing blocks that are given where the format has no landing count: 21 where it would stand, behind the numbers that do
unfoldable pub landings_stand : List ℕ → Scanned → Scanned
landings_stand numbers s =
    cond (stands landing_count_row numbers || eqb (get_or numbers landing_count_row 0) 0) s (stopped (first_refusal s.result (Err (BadLanding s.at))) s)

-- the numbers judged by the writer of one format: another format is 3 at byte 0
unfoldable pub judged_for : ℕ → List ℕ → Scanned
judged_for format numbers =
    cond (eqb (get_or numbers 0 0) format) (landings_stand numbers (scan 0 (given_numbers numbers) row_count)) (stopped (Err (OutOfRange 0)) scan_begun)

-- what the writer of a format answers: the numbers are judged first
unfoldable pub written : ℕ → List ℕ → ℕ → ℕ → Written
written format numbers b room = judged_write (judged_for format numbers) b room

-- a buffer with an image at its front: what stands behind the image is left
unfoldable pub overlaid : List ℕ → List ℕ → List ℕ
overlaid image out = image ++ drop (length image) out

-- the buffer after the call: as it was, where the writer refused
unfoldable pub out_after : ℕ → List ℕ → List ℕ → List ℕ → List ℕ
out_after format numbers blocks out =
    cond (done (written format numbers (length blocks) (length out)).result) (overlaid (image_of numbers blocks) out) out
