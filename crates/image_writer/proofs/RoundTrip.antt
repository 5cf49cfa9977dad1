-- Reader and writers undo each other: what a writer wrote is read back, and what the reader accepted is written back byte for byte by the writer of its format.
-- Both follow from one fact: where two sources hand over the same numbers at the same places, they give the same scan.
use Rattle.std.specs.Prelude.{Ok}
use mathlib.Core.Path.{◌≡◌, refl, sym, ap, ◌∙◌}
use mathlib.Core.Bool.{Bool, true, false, ◌&&◌}
use Prim.Native.Nat.{ℕ, zero, suc, ◌+◌, ◌-◌, ◌*◌, ◌<◌, ◌≤◌}
use native.Mathlib.Omega.{arith}
use mathlib.Core.List.{List, [], ◌∷◌, ◌++◌}
use lib.ListN.{length, get_or, take, drop, take-append-drop, length-drop, length-append, get_or-append, get_or-eq_default}
use lib.Seq.{take-append_seam, drop-append_seam, drop_at, get_or_at, get_or-append-add, get_or-drop, get_or-take, length-take-le, ext_get_or}
use borrow.Author.Count.{below_more}
use borrow.Author.Tests.{eq-eqb, lt-ltb}
use Rattle.limits.specs.Limits.{most_landings, block_length}
use Rattle.image_result.specs.ImageResult.{done}
use Rattle.image_number.specs.Number.{number_bytes, number_at, read_as}
use Rattle.image_header.specs.Rows.{header_count, landing_count_row, row_count, landings_from, stands}
use Rattle.image_header.specs.Numbers.{numbers_of, header_from}
use Rattle.image_header.specs.Scan.{Source, Scanned, from_image, taken, more, scan, scanned_header, closed, scan_of, header_of, landings_of, blocks_of}
use Rattle.image_writer.specs.Writer.{words_of, word_bytes, landings_given, with_landings, given_numbers, bytes_at, first_numbers, image_of, judged_for, judged_write}
use Rattle.image_writer.specs.Writer.{written, overlaid, out_after}
use Rattle.image_header.specs.declared.Header.{Header}
use Rattle.image_header.specs.Scan.{HeaderJudged}
use Rattle.image_writer.specs.declared.Written.{Written}
use Rattle.num_le.specs.LittleEndian.{Bytes}
use Rattle.logic.proofs.Choice.{by, test, or_right}
use Rattle.logic.proofs.Has.{Has, whole, front, left, right, nil, join}
use Rattle.image_number.proofs.RoundTrip.{There, number_back, number_only}
use Rattle.image_header.proofs.Numbers.{numbers_of_header, same_numbers}
use Rattle.image_header.proofs.Rows.{most_of_lem, landing_stands, stands_back}
use Rattle.image_header.proofs.Scanning.{value, stays, takes, number_is, stands_then}
use Rattle.image_header.proofs.Accepted.{place, Accepted, accepted_header}
use Rattle.image_header.proofs.Read.{closed_is, read_fine}
use Rattle.image_header.proofs.HeaderGood.{header_is, header_good, landings_good}
use Rattle.image_writer.proofs.Words.{words_back, count_given, count_of_words, with_landings_lem}
use Rattle.image_writer.proofs.HeaderBytes.{one_more, room, image_length}
use Rattle.image_writer.proofs.Judged.{LandingsStand, judged_numbers, header_given, stands_given, given_is, small_numbers, placed, passed_judged}
use Rattle.image_writer.proofs.Judged.{judged_write_is, Fine, written_fine, put_there}

-- the same numbers at the same places give the same scan
module _ (n m : ℕ) (source other : Source) (a : Accepted n source)
    (same : (k : ℕ) → k < row_count → stands k (scan n source row_count).numbers ≡ true
    → other k (place n source k) ≡ read_as (value n source k) (place n source (suc k))) where
  -- a number comes next where it stands
  next : (k : ℕ) → k < row_count → (t : Bool) → stands k (scan n source row_count).numbers ≡ t
      → (done (scan n source k).result && stands k (scan n source k).numbers) ≡ t
  next k l t e = rw (a.fine k l) (sym (stands_then n source k row_count (omega arith)) ∙ e)

  pub same_scan : (k : ℕ) → k ≤ row_count → scan m other k ≡ scan n source k
  unfolding scan taken
  same_scan zero h = refl
  same_scan (suc k) h =
      let s = scan n source k in
      let l : k < row_count = omega arith in
      ap (more m other k) (same_scan k (omega arith))
      ∙ test (stands k (scan n source row_count).numbers)
      (λ e. takes m other k s (next k l true e) _ (same k l e) ∙ sym (takes n source k s (next k l true e) _ (a.numbers k l e)))
      (λ e. stays m other k s (next k l false e) ∙ sym (stays n source k s (next k l false e)))

-- a list that has the numbers at its front has each at its place
each_number : (s numbers : List ℕ) (m : ℕ) → Has s 0 (first_numbers numbers m) → (k : ℕ) → k < m → Has s (length (first_numbers numbers k)) (bytes_at numbers k)
unfolding first_numbers
each_number s numbers zero h k lt = absurd (omega arith)
each_number s numbers (suc m) h k lt =
    below_more (λ (j : ℕ). Has s (length (first_numbers numbers j)) (bytes_at numbers j)) m
    (each_number s numbers m (left (first_numbers numbers m) (bytes_at numbers m) h))
    (let e : 0 + length (first_numbers numbers m) ≡ length (first_numbers numbers m) = omega arith in
    rw e at (right (first_numbers numbers m) (bytes_at numbers m) (length (first_numbers numbers m)) refl h))
    k
    (omega arith)

-- ---- reading what was written

-- what an image of these numbers and blocks is read as
pub record ReadBack (numbers blocks image : List ℕ) : Type 0 where
  pub result : (header_of image).result ≡ Ok tt
  pub header : (header_of image).header ≡ header_from numbers
  pub landings : (i : ℕ) → i < (header_of image).header.landings → get_or (landings_of image) i 0 ≡ get_or (landings_from numbers) i 0
  pub body : blocks_of image ≡ blocks

module _ (format : ℕ) (numbers blocks : List ℕ) (space : ℕ) (ok : done (written format numbers (length blocks) space).result ≡ true) where
  fine : Fine format numbers (length blocks) space
  fine = written_fine format numbers (length blocks) space ok

  fits : done (scan 0 (given_numbers numbers) row_count).result ≡ true
  fits = fine.fits.judged

  stand : LandingsStand numbers
  stand = fine.passed.stand

  abbrev all : List ℕ
  all = (scan 0 (given_numbers numbers) row_count).numbers

  -- each number stands in the image where the writer judged it
  stood : (k : ℕ) → k < row_count → stands k all ≡ true → number_at (image_of numbers blocks) (place 0 (given_numbers numbers) k)
      ≡ read_as (value 0 (given_numbers numbers) k) (place 0 (given_numbers numbers) (suc k))
  unfolding image_of
  stood k lt e =
      let s = image_of numbers blocks in
      let t : stands k numbers ≡ true = stands_given numbers fits stand k ∙ e in
      let p = placed numbers fits stand k (omega arith) in
      let q = placed numbers fits stand (suc k) (omega arith) in
      let m : length (first_numbers numbers (suc k)) ≡ length (first_numbers numbers k) + length (number_bytes (get_or numbers k 0)) = rw t at (one_more numbers k) in
      let r : length (first_numbers numbers k) + length (number_bytes (get_or numbers k 0)) ≤ length (first_numbers numbers row_count) =
      rw t at (room numbers k row_count lt) in
      let l = image_length numbers blocks in
      let h : Has s (length (first_numbers numbers k)) (number_bytes (get_or numbers k 0)) =
      rw t at (each_number s numbers row_count (left (first_numbers numbers row_count) blocks (whole s)) k lt) in
      let n : length (first_numbers numbers k) + length (number_bytes (get_or numbers k 0)) ≡ place 0 (given_numbers numbers) (suc k) = omega arith in
      let v : get_or numbers k 0 ≡ value 0 (given_numbers numbers) k = sym (given_is numbers fits stand k lt t) ∙ number_is 0 (given_numbers numbers) row_count k lt in
      ap (number_at s) p
      ∙ number_back s (length (first_numbers numbers k)) (get_or numbers k 0) (small_numbers numbers fits stand k lt t) h (omega arith)
      ∙ ap (read_as (get_or numbers k 0)) n
      ∙ ap (λ (x : ℕ). read_as x (place 0 (given_numbers numbers) (suc k))) v

  read_scan : scan_of (image_of numbers blocks) ≡ scan 0 (given_numbers numbers) row_count
  read_scan =
      same_scan 0 (length (image_of numbers blocks)) (given_numbers numbers) (from_image (image_of numbers blocks)) (judged_numbers numbers fits stand) stood row_count
      (omega arith)

  read_header : header_of (image_of numbers blocks)
      ≡ record { result = Ok tt; header = scanned_header (scan 0 (given_numbers numbers) row_count); at = (scan 0 (given_numbers numbers) row_count).at }
  unfolding header_of
  read_header =
      let l = image_length numbers blocks in
      let p = placed numbers fits stand row_count (omega arith) in
      let b = fine.fits.long in
      ap (λ (s : Scanned). closed s (length (image_of numbers blocks))) read_scan
      ∙ closed_is (scan 0 (given_numbers numbers) row_count) (length (image_of numbers blocks)) fits (omega arith)

  read_landing : (i : ℕ) → i < (header_of (image_of numbers blocks)).header.landings → get_or (landings_of (image_of numbers blocks)) i 0 ≡ get_or (landings_from numbers) i 0
  unfolding landings_of
  read_landing i u =
      let g = (judged_numbers numbers fits stand).good.landings in
      let m = most_of_lem (header_from all).format in
      let c : (header_of (image_of numbers blocks)).header.landings ≡ get_or all landing_count_row 0 = ap (λ (r : HeaderJudged). r.header.landings) read_header in
      let h = header_given numbers fits stand landing_count_row (omega arith) in
      let t : stands (header_count + i) numbers ≡ true = landing_stands i numbers ∙ lt-ltb i (get_or numbers landing_count_row 0) (omega arith) in
      ap (λ (s : Scanned). get_or (landings_from s.numbers) i 0) read_scan
      ∙ get_or-drop header_count all i 0
      ∙ given_is numbers fits stand (header_count + i) (omega arith) t
      ∙ sym (get_or-drop header_count numbers i 0)

  pub image_read : ReadBack numbers blocks (image_of numbers blocks)
  unfolding blocks_of image_of
  image_read =
      record {
        result = ap (λ (r : HeaderJudged). r.result) read_header;
        header = ap (λ (r : HeaderJudged). r.header) read_header ∙ same_numbers all numbers (header_given numbers fits stand);
        landings = read_landing;
        body =
            rw (read_header)
            (ap (λ (k : ℕ). drop k (first_numbers numbers row_count ++ blocks)) (placed numbers fits stand row_count (omega arith))
            ∙ drop-append_seam (first_numbers numbers row_count) blocks);
      }

-- what the writer left at the front of the buffer is read as the numbers and blocks that it was given, and the rest of the buffer is as it was
pub record WrittenBack (format : ℕ) (numbers blocks out : List ℕ) : Type 0 where
  pub read : ReadBack numbers blocks (take (written format numbers (length blocks) (length out)).length (out_after format numbers blocks out))
  pub behind : drop (written format numbers (length blocks) (length out)).length (out_after format numbers blocks out)
      ≡ drop (written format numbers (length blocks) (length out)).length out

pub read_what_was_written : (format : ℕ) (numbers blocks out : List ℕ) → (written format numbers (length blocks) (length out)).result ≡ Ok tt
    → WrittenBack format numbers blocks out
unfolding overlaid
read_what_was_written format numbers blocks out h =
    let ok : done (written format numbers (length blocks) (length out)).result ≡ true = ap done h in
    let f = written_fine format numbers (length blocks) (length out) ok in
    let p = placed numbers f.fits.judged f.passed.stand row_count (omega arith) in
    let l = image_length numbers blocks in
    let w : (written format numbers (length blocks) (length out)).length ≡ (scan 0 (given_numbers numbers) row_count).at + length blocks =
    ap (λ (r : Written). r.length) f.is in
    let e : (written format numbers (length blocks) (length out)).length ≡ length (image_of numbers blocks) = omega arith in
    let o = put_there format numbers blocks out ok in
    record {
      read = rw (e, ← o, take-append_seam (image_of numbers blocks) (drop (length (image_of numbers blocks)) out)) (image_read format numbers blocks (length out) ok);
      behind = rw (e, ← o, drop-append_seam (image_of numbers blocks) (drop (length (image_of numbers blocks)) out));
    }

-- ---- writing what was read

module _ (image : List ℕ) (bytes : Bytes image) (ok : (header_of image).result ≡ Ok tt) where
  abbrev header : Header
  header = (header_of image).header

  -- the landing blocks, and the numbers that the writer is given
  abbrev pub landings_read : List ℕ
  landings_read = take header.landings (landings_of image)

  abbrev pub numbers_read : List ℕ
  numbers_read = with_landings (take landing_count_row (numbers_of header)) (word_bytes landings_read)

  abbrev read : List ℕ
  read = (scan_of image).numbers

  fine_image : done (header_of image).result ≡ true
  fine_image = ap done ok

  was : Accepted (length image) (from_image image)
  was = accepted_header (length image) (from_image image) (read_fine image fine_image).scanned

  abbrev v : ℕ → ℕ
  v = value (length image) (from_image image)

  abbrev p : ℕ → ℕ
  p = place (length image) (from_image image)

  few : header.landings ≤ most_landings
  few = let g = (header_good image ok).landings in let m = most_of_lem header.format in omega arith

  landings_long : length landings_read ≡ header.landings
  landings_long = length-take-le header.landings (landings_of image) (let g = (landings_good image ok).long in let f = few in omega arith)

  -- a landing list of the image, past its count too
  landing_read : (i : ℕ) → get_or landings_read i 0 ≡ get_or (landings_of image) i 0
  landing_read i =
      by i header.landings
      (λ u. get_or-take header.landings (landings_of image) i 0 u)
      (λ u. get_or-eq_default landings_read 0 (let e = landings_long in omega arith) ∙ sym ((landings_good image ok).past i u))

  landing_small : (i : ℕ) → get_or landings_read i 0 < 65536
  landing_small i =
      let e = landing_read i in
      let m = (header_good image ok).count.1 in
      by i header.landings (λ u. let b = (landings_good image ok).below i u in omega arith) (λ u. let z = (landings_good image ok).past i u in omega arith)

  numbers_are : numbers_read ≡ numbers_of header ++ landings_read
  numbers_are =
      let f = few in
      let e = landings_long in
      rw (count_of_words landings_read (omega arith), landings_long, words_back landings_read landing_small)

  -- they are those that the scan holds
  number_same : (k : ℕ) → get_or numbers_read k 0 ≡ get_or read k 0
  unfolding landings_of
  number_same k =
      ap (λ (l : List ℕ). get_or l k 0) numbers_are
      ∙ by k header_count
      (λ u. get_or-append (numbers_of header) landings_read 0 k u ∙ ap (λ (h : Header). get_or (numbers_of h) k 0) (header_is image ok)
      ∙ numbers_of_header read k u)
      (λ u.
      let q : k ≡ header_count + (k - header_count) = omega arith in
      rw q (get_or-append-add (numbers_of header) landings_read (k - header_count) 0 ∙ landing_read (k - header_count) ∙ get_or-drop header_count read (k - header_count) 0))

  stands_same : (k : ℕ) → stands k numbers_read ≡ stands k read
  stands_same k = stands_back numbers_read read k (λ j _ _. number_same j)

  landings_stand : LandingsStand numbers_read
  landings_stand =
      test (stands landing_count_row read)
      (λ e. rw (stands_same landing_count_row ∙ e))
      (λ e.
      rw (eq-eqb (get_or numbers_read landing_count_row 0) 0 (number_same landing_count_row ∙ was.absent landing_count_row (omega arith) e))
      (or_right (stands landing_count_row numbers_read)))

  -- each stands in the image in its shortest form
  there : (k : ℕ) → k < row_count → stands k read ≡ true → There image (p k) (get_or numbers_read k 0) (p (suc k))
  there k lt e =
      rw (number_same k ∙ number_is (length image) (from_image image) row_count k lt)
      (number_only image (p k) (v k) (p (suc k)) (bytes (p k)) (was.numbers k lt e))

  given_same : (k : ℕ) → k < row_count → stands k read ≡ true → given_numbers numbers_read k (p k) ≡ read_as (v k) (p (suc k))
  given_same k lt e =
      ap (read_as (get_or numbers_read k 0)) (sym (there k lt e).next)
      ∙ ap (λ (x : ℕ). read_as x (p (suc k))) (number_same k ∙ number_is (length image) (from_image image) row_count k lt)

  judged_scan : judged_for header.format numbers_read ≡ scan_of image
  judged_scan =
      passed_judged header.format numbers_read (ap (λ (l : List ℕ). get_or l 0 0) numbers_are) landings_stand
      ∙ same_scan (length image) 0 (from_image image) (given_numbers numbers_read) was given_same row_count (omega arith)

  -- the numbers' bytes are the front of the image
  has_front : (k : ℕ) → k ≤ row_count → (p k ≡ length (first_numbers numbers_read k)) × Has image 0 (first_numbers numbers_read k)
  unfolding scan first_numbers
  has_front zero h = (refl, nil)
  has_front (suc k) h =
      let lt : k < row_count = omega arith in
      let f = has_front k (omega arith) in
      let g = f.0 in
      let e : p k ≡ 0 + length (first_numbers numbers_read k) = omega arith in
      let m = one_more numbers_read k in
      test (stands k read)
      (λ t.
      let y = stands_same k ∙ t in
      let w = there k lt t in
      let n = w.next in
      let d : length (bytes_at numbers_read k) ≡ length (number_bytes (get_or numbers_read k 0)) = rw y in (
        omega arith,
        rw y (join (first_numbers numbers_read k) (number_bytes (get_or numbers_read k 0)) (length (first_numbers numbers_read k)) refl f.1 (rw e at w.has)),
      ))
      (λ t.
      let y = stands_same k ∙ t in
      let n = ap (λ (s : Scanned). s.at) (was.over k lt t) in
      let d : length (bytes_at numbers_read k) ≡ 0 = rw y in (
        omega arith,
        rw y (join (first_numbers numbers_read k) [] (length (first_numbers numbers_read k)) refl f.1 nil),
      ))

  blocks_are : blocks_of image ≡ drop (p row_count) image
  unfolding blocks_of header_of
  blocks_are = rw fine_image (ap (λ (r : HeaderJudged). drop r.at image) (read_fine image fine_image).is)

  image_back : image_of numbers_read (blocks_of image) ≡ image
  unfolding image_of
  image_back =
      let f = has_front row_count (omega arith) in
      let l = (read_fine image fine_image).long in
      let g = f.0 in
      rw (blocks_are, g)
      (ap (λ (x : List ℕ). x ++ drop (length (first_numbers numbers_read row_count)) image) (sym (front image (first_numbers numbers_read row_count) f.1 (omega arith)))
      ∙ take-append-drop (length (first_numbers numbers_read row_count)) image)

  -- the writer of the image's format, given the numbers and the blocks that were read, answers with the image's length and puts the image itself
  pub write_what_was_read : (out : List ℕ) → length image ≤ length out
      → (written header.format numbers_read (length (blocks_of image)) (length out) ≡ record { result = Ok tt; length = length image })
      × (out_after header.format numbers_read (blocks_of image) out ≡ overlaid image out)
  unfolding written
  write_what_was_read out h =
      let s = scan_of image in
      let l = (read_fine image fine_image).long in
      let b : length (blocks_of image) ≡ block_length * (scanned_header s).count = ap length blocks_are ∙ length-drop (p row_count) image ∙ omega arith in
      let e : s.at + length (blocks_of image) ≡ length image = omega arith in
      let w : written header.format numbers_read (length (blocks_of image)) (length out) ≡ record { result = Ok tt; length = length image } =
      ap (λ (x : Scanned). judged_write x (length (blocks_of image)) (length out)) judged_scan
      ∙ judged_write_is s (length (blocks_of image)) (length out) (read_fine image fine_image).scanned b (omega arith)
      ∙ ap (λ (n : ℕ). record { result = Ok tt; length = n }) e in
      (w, sym (put_there header.format numbers_read (blocks_of image) out (ap (λ (r : Written). done r.result) w)) ∙ ap (λ (x : List ℕ). overlaid x out) image_back)

-- ---- what the first of them gives when it is taken apart

module _ (format : ℕ) (numbers blocks out : List ℕ) (ok : (written format numbers (length blocks) (length out)).result ≡ Ok tt) where
  -- what stands at the front of the buffer
  abbrev pub image_written : List ℕ
  image_written = take (written format numbers (length blocks) (length out)).length (out_after format numbers blocks out)

  pub header_as_written : ((header_of image_written).result ≡ Ok tt) × ((header_of image_written).header ≡ header_from numbers)
  header_as_written = let r = (read_what_was_written format numbers blocks out ok).read in (r.result, r.header)

  pub blocks_back : blocks_of image_written ≡ blocks
  blocks_back = (read_what_was_written format numbers blocks out ok).read.body

  pub rest_stays : drop (written format numbers (length blocks) (length out)).length (out_after format numbers blocks out)
      ≡ drop (written format numbers (length blocks) (length out)).length out
  rest_stays = (read_what_was_written format numbers blocks out ok).behind

-- the landing blocks that are read are those that were given
module _ (format : ℕ) (numbers landings blocks out : List ℕ) (six : length numbers ≡ landing_count_row)
    (ok : (written format (with_landings numbers landings) (length blocks) (length out)).result ≡ Ok tt) where
  abbrev given : List ℕ
  given = with_landings numbers landings

  abbrev count : ℕ
  count = landings_given (length landings)

  abbrev image : List ℕ
  image = image_written format given blocks out ok

  back : ReadBack given blocks image
  back = (read_what_was_written format given blocks out ok).read

  counted : (header_of image).header.landings ≡ count
  counted = ap (λ (h : Header). h.landings) back.header ∙ get_or_at numbers count (words_of landings) 0 landing_count_row six

  words_given : landings_from given ≡ words_of landings
  words_given =
      let e = length-append numbers (count ∷ []) in
      ap landings_from (sym (with_landings_lem numbers landings (numbers ++ (count ∷ [])) refl))
      ∙ drop_at (numbers ++ (count ∷ [])) (words_of landings) header_count (omega arith)

  pub landings_back : take (header_of image).header.landings (landings_of image) ≡ words_of landings
  landings_back =
      let g = (header_good image back.result).landings in
      let m = most_of_lem (header_of image).header.format in
      let c = counted in
      let n = count_given landings (omega arith) in
      let l = (landings_good image back.result).long in
      let t = length-take-le (header_of image).header.landings (landings_of image) (omega arith) in
      ext_get_or 0 (take (header_of image).header.landings (landings_of image)) (words_of landings) (omega arith)
      (λ i u.
      let b : i < (header_of image).header.landings = omega arith in
      get_or-take (header_of image).header.landings (landings_of image) i 0 b ∙ back.landings i b ∙ ap (λ (ws : List ℕ). get_or ws i 0) words_given)
