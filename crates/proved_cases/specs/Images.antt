-- Images as document 01 writes them ("Examples and faults to shut out"): header 01 02 00 00, then start and count, then the blocks.
use Rattle.std.specs.Prelude.{ℕ, zero, suc, ◌+◌, List, [], ◌∷◌, ◌++◌, length}

-- a block: its code, D1, D2 and D3; the others are 00
abbrev pub block : ℕ → ℕ → ℕ → ℕ → List ℕ
block code first second third = code ∷ first ∷ second ∷ third ∷ 0 ∷ 0 ∷ 0 ∷ 0 ∷ []

-- a code and seven 00
abbrev pub plain : ℕ → List ℕ
plain code = block code 0 0 0

-- a code with a block's number, below 256, in D1 and D2
abbrev pub toward : ℕ → ℕ → List ℕ
toward code b = block code b 0 0

abbrev pub block_bytes : List (List ℕ) → List ℕ
block_bytes [] = []
block_bytes (b ∷ bs) = b ++ block_bytes bs

-- four numbers: format 1, a type, the boards in slots B and C
abbrev pub header_with : ℕ → ℕ → ℕ → List ℕ → List ℕ
header_with model b c rest = 0x01 ∷ model ∷ b ∷ c ∷ rest

-- both slots empty
abbrev pub header_for : ℕ → List ℕ → List ℕ
header_for model = header_with model 0 0

-- those of every example of document 01 but J's second: type 2, a 637
abbrev pub header : List ℕ → List ℕ
header = header_for 0x02

-- an image for a type of drive with these boards that begins at block 0
abbrev pub image_with : ℕ → ℕ → ℕ → List (List ℕ) → List ℕ
image_with model b c blocks = header_with model b c (0 ∷ length blocks ∷ block_bytes blocks)

-- the same with both slots empty
abbrev pub image_for : ℕ → List (List ℕ) → List ℕ
image_for model = image_with model 0 0

-- an image that begins at a block
abbrev pub image_at : ℕ → List (List ℕ) → List ℕ
image_at start blocks = header (start ∷ length blocks ∷ block_bytes blocks)

-- an image that begins at block 0
abbrev pub image : List (List ℕ) → List ℕ
image = image_at 0

-- format 2 (change request 1), type 2, both slots empty
abbrev pub landing_header : List ℕ → List ℕ
landing_header rest = 0x02 ∷ 0x02 ∷ 0 ∷ 0 ∷ rest

-- an image of format 2 that begins at a block, with these landing blocks; start, counts and landing blocks are below 128
abbrev pub landing_image_at : ℕ → List ℕ → List (List ℕ) → List ℕ
landing_image_at start landings blocks = landing_header (start ∷ length blocks ∷ length landings ∷ (landings ++ block_bytes blocks))

-- one that begins at block 0
abbrev pub landing_image : List ℕ → List (List ℕ) → List ℕ
landing_image = landing_image_at 0

-- the first n blocks, and blocks as the writer of format 2 is lent them: two bytes for each, of which the high one is 0 here
abbrev pub first_blocks : ℕ → List ℕ
first_blocks zero = []
first_blocks (suc n) = first_blocks n ++ (n ∷ [])

abbrev pub landing_bytes : List ℕ → List ℕ
landing_bytes [] = []
landing_bytes (a ∷ landings) = a ∷ 0 ∷ landing_bytes landings

-- 80: variable 0 = these four bytes, low byte first
abbrev pub assign : ℕ → ℕ → ℕ → ℕ → List ℕ
assign a b c d = 0x80 ∷ 0 ∷ a ∷ b ∷ c ∷ d ∷ 0 ∷ 0 ∷ []

-- case A's block: a jump to block 0
abbrev pub block_a : List ℕ
block_a = plain 0x55

abbrev pub case_a : List ℕ
case_a = image (block_a ∷ [])

-- n nested calls, from block b on: a program is a call of the next one, which stands two blocks on, and its last block; the innermost is its
-- last block alone. The last block of a sub-program is 53.
abbrev pub calls : ℕ → ℕ → List ℕ → List (List ℕ)
calls zero b last = last ∷ []
calls (suc n) b last = toward 0x52 (b + 2) ∷ last ∷ calls n (b + 2) (plain 0x53)

-- a chain of n nested calls: the main program stands at block 0 and its last block is A's; sub-program k stands at block 2 k
abbrev pub chain : ℕ → List ℕ
chain n = image (calls n 0 block_a)
