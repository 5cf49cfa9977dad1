-- The numbers of an image judged (document 01, "The image" and refusal 3; change request 1, refusal 21): in which formats each stands, what must hold of it,
-- and when it is asked.
use Rattle.std.specs.Prelude.{ℕ, ◌+◌, ◌-◌, Bool, ◌&&◌, ◌||◌, not, cond, List, [], ◌∷◌, length, get_or, drop, eqb, ltb, leb, is_ok, Result, Ok, Err}
use Rattle.logic.specs.Each.{each_below}
use Rattle.limits.specs.Limits.{most_blocks, most_landings, up_to}
use Rattle.drive.specs.Types.{types, takes_b, takes_c}
use Rattle.image_header.specs.Numbers.{numbers_of, header_from}
use Rattle.image_header.specs.declared.Header.{Header}

-- the formats: 2 has a landing count and landing blocks behind the block count
abbrev pub format1 : ℕ
format1 = 1

abbrev pub format2 : ℕ
format2 = 2

-- the most landing blocks of a format
abbrev pub most_of : ℕ → ℕ
most_of format = cond (eqb format format2) most_landings 0

-- ---- what must hold of a header

abbrev pub format_fits : Header → Bool
format_fits h = eqb h.format format1 || eqb h.format format2

abbrev pub type_fits : Header → Bool
type_fits h = ltb h.drive.model types

-- the board must be one that the type may carry
abbrev pub slot_b_fits : Header → Bool
slot_b_fits h = takes_b h.drive.model h.drive.b

abbrev pub slot_c_fits : Header → Bool
slot_c_fits h = takes_c h.drive.model h.drive.c

abbrev pub count_fits : Header → Bool
count_fits h = up_to most_blocks h.count

abbrev pub start_fits : Header → Bool
start_fits h = ltb h.start h.count

abbrev pub landing_count_fits : Header → Bool
landing_count_fits h = leb h.landings (most_of h.format)

-- ---- what must hold of landing block i of a list, in a program of so many blocks: it is below the count, and above the one before it

abbrev pub landing_fits : ℕ → List ℕ → ℕ → Bool
landing_fits count l i = ltb (get_or l i 0) count && (eqb i 0 || ltb (get_or l (i - 1) 0) (get_or l i 0))

-- ---- when it is asked

-- a test, and which number is out of range where it does not hold
pub record Test : Type 0 where
  pub number : ℕ
  pub fits : Header → Bool

-- number k is out of range unless f holds
abbrev pub test : ℕ → (Header → Bool) → Test
test k f = record { number = k; fits = f }

-- the header's numbers, in the order in which they stand: the tests when it has been read, of the numbers read so far; the start is judged behind the count
abbrev pub header_rows : List (List Test)
header_rows =
    (test 0 format_fits ∷ []) ∷  -- format
    (test 1 type_fits ∷ []) ∷  -- type
    (test 2 slot_b_fits ∷ []) ∷  -- slot B
    (test 3 slot_c_fits ∷ []) ∷  -- slot C
    [] ∷  -- start
    (test 5 count_fits ∷ test 4 start_fits ∷ []) ∷  -- count
    (test 6 landing_count_fits ∷ []) ∷  -- landing count
    []

-- how many numbers a header has, of which the landing count is one; the landing blocks stand behind them
abbrev pub header_count : ℕ
header_count = length header_rows

abbrev pub landing_count_row : ℕ
landing_count_row = 6

-- the most numbers that an image has before its blocks
abbrev pub row_count : ℕ
row_count = header_count + most_landings

-- the landing blocks among the numbers
abbrev pub landings_from : List ℕ → List ℕ
landings_from ns = drop header_count ns

-- whether number k stands in an image, by the numbers before it: a landing count in format 2 alone, and as many landing blocks as it says
unfoldable pub stands : ℕ → List ℕ → Bool
stands k ns =
    cond (ltb k header_count) (not (eqb k landing_count_row) || eqb (header_from ns).format format2) (ltb (k - header_count) (header_from ns).landings)

-- what a row finds: nothing wrong, or which number is out of range
abbrev pub Check : Type 0
Check = Result (Unit {0}) ℕ

-- the first test that does not hold
abbrev pub check : List Test → Header → Check
check [] h = Ok tt
check (t ∷ ts) h = cond (t.fits h) (check ts h) (Err t.number)

-- what the row of a header's number finds
unfoldable pub header_checked : ℕ → Header → Check
header_checked row h = check (get_or header_rows row []) h

-- what the row of a number finds, of the numbers up to it
unfoldable pub checked : ℕ → List ℕ → Check
checked row ns =
    cond (ltb row header_count) (header_checked row (header_from ns))
    (cond (landing_fits (header_from ns).count (landings_from ns) (row - header_count)) (Ok tt) (Err row))

-- ---- a header and a landing list that load accepts: each row lets them pass

-- nothing is wrong
abbrev pub passed : Check → Bool
passed c = is_ok c

-- so do the first n
abbrev pub first_pass : ℕ → Header → Bool
first_pass n h = each_below (λ (row : ℕ). passed (header_checked row h)) n

unfoldable pub accepts : Header → Bool
accepts h = first_pass header_count h

-- an entry of a landing list that has room for the most: as many as the header says are landing blocks, and those past them 0
abbrev pub entry_fits : Header → List ℕ → ℕ → Bool
entry_fits h l i = cond (ltb i h.landings) (landing_fits h.count l i) (eqb (get_or l i 0) 0)

unfoldable pub accepts_landings : Header → List ℕ → Bool
accepts_landings h l = each_below (entry_fits h l) most_landings

-- ---- two headers, or the first n of two landing lists, are the same: each number is

abbrev pub first_same : ℕ → List ℕ → List ℕ → Bool
first_same n ns ms = each_below (λ (k : ℕ). eqb (get_or ns k 0) (get_or ms k 0)) n

unfoldable pub same_header : Header → Header → Bool
same_header a b = first_same header_count (numbers_of a) (numbers_of b)

unfoldable pub same_landings : ℕ → List ℕ → List ℕ → Bool
same_landings n l m = first_same n l m
