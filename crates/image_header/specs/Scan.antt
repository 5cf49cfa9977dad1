-- The numbers of an image read and judged in order, then its length (document 01, "Refused because of the input"; change request 1): one scan, of a row for
-- each number that any format has, in which a number that does not stand is passed over.
use Rattle.std.specs.Prelude.{ℕ, zero, suc, ◌+◌, ◌*◌, ◌&&◌, cond, List, [], ◌++◌, length, get_or, set, replicate, drop, ltb, Result, Ok, Err}
use Rattle.limits.specs.Limits.{most_landings, block_length}
use Rattle.image_result.specs.ImageResult.{done}
use Rattle.std.specs.Result.{result_and}
use Rattle.image_result.specs.ImageResult.{ImageResult}
use Rattle.image_result.specs.declared.ImageFault.{ImageFault}
use Rattle.image_result.specs.declared.ImageFault.TheVariants.{EndsEarly, NotShortest, OutOfRange, LeftOver, BadLanding}
use Rattle.image_number.specs.Number.{number_bytes, number_at}
use Rattle.image_number.specs.declared.Number.{Number}
use Rattle.image_number.specs.declared.NumberFault.{NumberFault}
use Rattle.image_number.specs.declared.NumberFault as fault
use Rattle.image_header.specs.Numbers.{header_from}
use Rattle.image_header.specs.Rows.{header_count, landing_count_row, row_count, landings_from, stands, Check, checked}
use Rattle.image_header.specs.declared.Header.{Header}
use Rattle.image_header.specs.declared.reader.Scan.{Scan}
use Rattle.image_header.specs.declared.reader.HeaderRead.{HeaderRead}

-- where numbers come from: which number it is and the place where it stands
abbrev pub Source : Type 0
Source = ℕ → ℕ → Result Number NumberFault

-- the reader looks into the image; the writer has its own source
abbrev pub from_image : List ℕ → Source
from_image image row at = number_at image at

-- the numbers so far, and the place of the next one; where a row refused, the numbers before that row's, and that row's place
pub record Scanned : Type 0 where
  pub result : ImageResult
  pub numbers : List ℕ
  pub at : ℕ

-- as many zeros as there may be numbers
abbrev pub no_numbers : List ℕ
no_numbers = replicate row_count 0

-- no number yet
abbrev pub scan_begun : Scanned
scan_begun = record { result = Ok tt; numbers = no_numbers; at = 0 }

-- refused: the numbers so far stay
abbrev pub stopped : ImageResult → Scanned → Scanned
stopped o s = record { result = o; numbers = s.numbers; at = s.at }

-- the number v beside those read so far
abbrev pub with_number : ℕ → Scanned → ℕ → ℕ → Scanned
with_number row s v next = record { result = Ok tt; numbers = set s.numbers row v; at = next }

-- where number k stands: behind the bytes of those before it that stand
unfoldable pub stands_at : List ℕ → ℕ → ℕ
stands_at ns zero = 0
stands_at ns (suc k) = stands_at ns k + cond (stands k ns) (length (number_bytes (get_or ns k 0))) 0

-- number k is out of range: 3, or 21 of the landing count and of a landing block, at its first byte
abbrev pub out_of_range : ℕ → ℕ → ImageResult
out_of_range k place = cond (ltb k landing_count_row) (Err (OutOfRange place)) (Err (BadLanding place))

-- the scan with the number that was judged, or refused without it
abbrev pub unless_failed : Check → Scanned → Scanned → Scanned
unless_failed (Ok _) without with = with
unless_failed (Err k) without with = stopped (out_of_range k (stands_at with.numbers k)) without

-- number `row` is v and stands at the scan's place: judged by its row, beside the numbers read so far
unfoldable pub judged : ℕ → Scanned → ℕ → ℕ → Scanned
judged row s v next = unless_failed (checked row (set s.numbers row v)) s (with_number row s v next)

-- the refusal where no number stands at a place of an image of n bytes
abbrev pub fault_result : NumberFault → ℕ → ℕ → ImageResult
fault_result fault.NumberFault.EndsEarly n at = Err (EndsEarly n)
fault_result fault.NumberFault.NotShortest n at = Err (NotShortest at)

-- what stands at the next place of an image of n bytes, taken as number `row`
unfoldable pub taken : ℕ → ℕ → Scanned → Result Number NumberFault → Scanned
taken n row s (Ok x) = judged row s x.value x.next
taken n row s (Err f) = stopped (fault_result f n s.at) s

-- one number more, if it stands and none before it was refused
unfoldable pub more : ℕ → Source → ℕ → Scanned → Scanned
more n source row s = cond (done s.result && stands row s.numbers) (taken n row s (source row s.at)) s

-- the first k rows
unfoldable pub scan : ℕ → Source → ℕ → Scanned
scan n source zero = scan_begun
scan n source (suc row) = more n source row (scan n source row)

-- the most bytes that the numbers take
abbrev pub most_header_bytes : ℕ
most_header_bytes = 2 * row_count

-- of two judgements, one after the other, the refusal that comes first
unfoldable pub first_refusal : ImageResult → ImageResult → ImageResult
first_refusal a b = cond (done a) b a

-- the length of an image whose blocks begin at `at`: 1 at the image's end where it ends early, 4 at the first byte left over
unfoldable pub length_result : ℕ → ℕ → ℕ → ImageResult
length_result at count n =
    cond (ltb n (at + block_length * count)) (Err (EndsEarly n)) (cond (ltb (at + block_length * count) n) (Err (LeftOver (at + block_length * count))) (Ok tt))

-- the header of an image as it was judged: what reading comes to; the header, all 0 when refused; the place of the blocks, 0 when refused
pub record HeaderJudged : Type 0 where
  pub result : ImageResult
  pub header : Header
  pub at : ℕ

-- what is handed on of it: the header and the place, or the refusal
abbrev pub read_result : HeaderJudged → Result HeaderRead ImageFault
read_result j = result_and j.result (Ok (record { header = j.header; at = j.at }))

abbrev pub refused_read : ImageResult → HeaderJudged
refused_read o = record { result = o; header = header_from no_numbers; at = 0 }

-- the header of the numbers that were read
abbrev pub scanned_header : Scanned → Header
scanned_header s = header_from s.numbers

-- numbers and blocks judged: the header that was read, or the refusal
unfoldable pub read_with : Scanned → ImageResult → HeaderJudged
read_with s o = cond (done o) (record { result = o; header = scanned_header s; at = s.at }) (refused_read o)

-- the numbers, then the length
unfoldable pub closed : Scanned → ℕ → HeaderJudged
closed s n = read_with s (first_refusal s.result (length_result s.at (scanned_header s).count n))

-- the numbers of an image
abbrev pub scan_of : List ℕ → Scanned
scan_of image = scan (length image) (from_image image) row_count

-- the header of an image
unfoldable pub header_of : List ℕ → HeaderJudged
header_of image = closed (scan_of image) (length image)

-- the landing list that was read, with room for the most: the header says how many of it are landing blocks, none where the image is refused
unfoldable pub landings_of : List ℕ → List ℕ
landings_of image = landings_from (scan_of image).numbers

-- the blocks of an image: none where it is refused by 1 to 4 or 21
unfoldable pub blocks_of : List ℕ → List ℕ
blocks_of image = cond (done (header_of image).result) (drop (header_of image).at image) []

-- ---- what the code holds of a scan: the header's numbers in a struct, the landing blocks in the array that it is lent

abbrev pub beside : Scan → List ℕ → Scanned
beside s landings = record { result = s.result; numbers = s.numbers ++ landings; at = s.at }

-- the header's numbers alone
abbrev pub alone : Scan → Scanned
alone s = record { result = s.result; numbers = s.numbers; at = s.at }

-- no number yet
abbrev pub header_begun : Scan
header_begun = record { result = Ok tt; numbers = replicate header_count 0; at = 0 }

abbrev pub no_landings : List ℕ
no_landings = replicate most_landings 0

-- refused: the numbers so far stay
abbrev pub stopped_scan : ImageResult → Scan → Scan
stopped_scan o s = record { result = o; numbers = s.numbers; at = s.at }
