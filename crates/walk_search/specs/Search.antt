-- The search's own values and invariants. Each pair, a task at a block, has four of the lent marks: the set of depths seen, the set of those handed on at its
-- latest visit, and two bytes of a list. A pair is pending where the two sets differ; the list has the pending pairs, each once. Beside the marks a search has
-- for each task the set of depths that were handed to it at every landing block.
use Rattle.std.specs.Prelude.{ℕ, zero, suc, ◌+◌, ◌-◌, ◌*◌, ◌/◌, ◌%◌, ◌<◌, ◌≤◌, ◌≡◌, Bool, cond, List, [], ◌∷◌, length, get_or, set, replicate, eqb, ltb, Option, None, Some, Ok, Err}
use Rattle.limits.specs.Limits.{task_count, bias, most_blocks, depths, marks_length}
use Rattle.num_le.specs.LittleEndian.{le_number}
use Rattle.image_header.specs.declared.Header.{Header}
use Rattle.walk_flow.specs.Terms.{Terms}
use Rattle.command_judge.specs.BlockFault.{block_fault}
use Rattle.walk.specs.Blocks.{block_at, fault_at}
use Rattle.walk.specs.Graph.{In, Reach, has, lesser}
use Rattle.walk.specs.Index.{point_at}
use Rattle.walk.specs.Successors.{next_of}
use Rattle.walk.specs.Verdict.{Verdict, refused_by, root_of, reached, least_foreign, least_bad}
use Rattle.walk.specs.declared.Refusal.TheVariants as verdict
use Rattle.walk_graph.specs.Depths.{sets, digit, Has, union, least_depth}
use Rattle.walk_graph.specs.Onward.{pair_of, task_of, block_of, onward_of}
use Rattle.walk_graph.specs.declared.Onward.{Onward}
use Rattle.walk_search.specs.declared.search.Found.{Found}

-- ---- the marks

-- marks to a pair, and the pairs of an image
abbrev pub pair_marks : ℕ
pair_marks = 4

abbrev pub pairs : Terms → ℕ
pairs terms = task_count * terms.header.count

-- the depths seen of a pair, those handed on, and the k-th pair of the list
abbrev pub seen_in : List ℕ → ℕ → ℕ
seen_in marks p = get_or marks (pair_marks * p) 0

abbrev pub handed_in : List ℕ → ℕ → ℕ
handed_in marks p = get_or marks (pair_marks * p + 1) 0

abbrev pub list_in : List ℕ → ℕ → ℕ
list_in marks k = le_number (get_or marks (pair_marks * k + 2) 0 ∷ get_or marks (pair_marks * k + 3) 0 ∷ [])

-- stores to them
abbrev pub with_seen : ℕ → ℕ → List ℕ → List ℕ
with_seen p s marks = set marks (pair_marks * p) s

abbrev pub with_handed : ℕ → ℕ → List ℕ → List ℕ
with_handed p s marks = set marks (pair_marks * p + 1) s

abbrev pub with_entry : ℕ → ℕ → List ℕ → List ℕ
with_entry k q marks = set (set marks (pair_marks * k + 2) (q % 256)) (pair_marks * k + 3) (q / 256)

-- as a search begins: the first pair has seen depth 0 and is the list's one entry, and all else is 0
abbrev pub fresh : ℕ → ℕ → List ℕ
fresh n first = with_entry 0 first (with_seen first 1 (replicate n 0))

-- ---- a touch and a visit

-- the marks, with how many pairs are on the list
pub record Listing : Type 0 where
  pub marks : List ℕ
  pub pending : ℕ

abbrev pub listing : List ℕ → ℕ → Listing
listing marks pending = record { marks = marks; pending = pending }

-- the depths s are handed to pair q: it has seen them, and goes on the list where it was not pending and has not seen them all before
unfoldable pub touched : ℕ → ℕ → Listing → Listing
touched q s b =
    cond (eqb (union (seen_in b.marks q) s) (seen_in b.marks q)) b
    (cond (eqb (handed_in b.marks q) (seen_in b.marks q))
    (listing (with_entry b.pending q (with_seen q (union (seen_in b.marks q) s) b.marks)) (b.pending + 1))
    (listing (with_seen q (union (seen_in b.marks q) s) b.marks) b.pending))

-- where any depth is handed over, the marks have room for pair q, and for an entry where it goes on the list
pub record Room (marks : List ℕ) (pending q s : ℕ) : Type 0 where
  pub few : length marks < 65536
  pub pair : (s ≡ 0 → ⊥) → pair_marks * q + pair_marks ≤ length marks
  pub entry : (s ≡ 0 → ⊥) → handed_in marks q ≡ seen_in marks q → pair_marks * pending + pair_marks ≤ length marks

-- what a search works on: the marks, the depths that each task has at every landing block, and what it has found so far
pub record Board : Type 0 where
  pub marks : List ℕ
  pub landed : List ℕ
  pub found : Found

abbrev pub board : List ℕ → List ℕ → Found → Board
board marks landed found = record { marks = marks; landed = landed; found = found }

-- nothing is handed to landing blocks yet, in any task
abbrev pub none_landed : List ℕ
none_landed = replicate task_count 0

-- as a search begins: nothing is found
abbrev pub beginning : Terms → Board
beginning terms = board (fresh (pair_marks * pairs terms) (pair_of bias terms.header.start)) none_landed (record {
  pending = 1;
  foreign = None;
  bad = None;
})

-- the lesser of a number and the one found so far
abbrev pub least_with : ℕ → Option ℕ → ℕ
least_with a None = a
least_with a (Some b) = lesser a b

-- the least foreign block and the least bad point so far, and those of pair p
abbrev pub foreign_with : Bool → ℕ → Option ℕ → Option ℕ
foreign_with foreign block so = cond foreign (Some (least_with block so)) so

abbrev pub bad_with : ℕ → ℕ → Option ℕ → Option ℕ
bad_with bad p so = cond (eqb bad 0) so (Some (least_with (depths * p + least_depth bad) so))

-- the marks after the pair p with the depths s was taken off the list, all s noted as handed on
abbrev pub taken_off : ℕ → ℕ → Board → Listing
taken_off p s b = listing (with_handed p s b.marks) (b.found.pending - 1)

-- and after the depths were handed to the block named and to the block behind
abbrev pub handed_on : Onward → ℕ → Listing → Listing
handed_on o p b = touched (p + task_count) o.behind (touched o.named o.into b)

-- the depths s handed to task t at each of these landing blocks, one after the other
unfoldable pub touched_each : List ℕ → ℕ → ℕ → Listing → Listing
touched_each [] t s b = b
touched_each (a ∷ landings) t s b = touched_each landings t s (touched (pair_of t a) s b)

-- the depths that task t has at every landing block so far, with s beside them, and whether all of s are among them
abbrev pub landed_of : List ℕ → ℕ → ℕ
landed_of landed t = get_or landed t 0

abbrev pub landed_with : List ℕ → ℕ → ℕ → List ℕ
landed_with landed t s = set landed t (union (landed_of landed t) s)

abbrev pub all_landed : List ℕ → ℕ → ℕ → Bool
all_landed landed t s = eqb (union (landed_of landed t) s) (landed_of landed t)

-- the depths s handed to task t at every landing block, where it has not had them all there
unfoldable pub landed_on : List ℕ → ℕ → ℕ → List ℕ → Listing → Listing
landed_on landings t s landed b = cond (all_landed landed t s) b (touched_each landings t s b)

-- the marks and the list after a visit of pair p with the depths s
abbrev pub all_handed_on : List ℕ → Onward → ℕ → ℕ → Board → Listing
all_handed_on landings o p s b = landed_on landings o.lander o.landing b.landed (handed_on o p (taken_off p s b))

abbrev pub visited_by : List ℕ → Onward → ℕ → ℕ → Board → Board
visited_by landings o p s b = board (all_handed_on landings o p s b).marks (landed_with b.landed o.lander o.landing) (record {
  pending = (all_handed_on landings o p s b).pending;
  foreign = foreign_with o.foreign (block_of p) b.found.foreign;
  bad = bad_with o.bad p b.found.bad;
})

-- the pair p hands on all depths that it has seen
abbrev pub onward_from : Terms → List ℕ → ℕ → Board → Onward
onward_from terms bs p b = onward_of terms bs (task_of p) (block_of p) (seen_in b.marks p)

-- the last pair of the list is visited
abbrev pub last_of : Board → ℕ
last_of b = list_in b.marks (b.found.pending - 1)

unfoldable pub visited : Terms → List ℕ → Board → Board
visited terms bs b = visited_by terms.landings (onward_from terms bs (last_of b) b) (last_of b) (seen_in b.marks (last_of b)) b

-- as many visits, one after the other
unfoldable pub visits : ℕ → Terms → List ℕ → Board → Board
visits zero terms bs b = b
visits (suc n) terms bs b = visits n terms bs (visited terms bs b)

-- 1 where a visit hands depths to the landing blocks, and how many of so many visits do
abbrev pub lands_by : Onward → List ℕ → ℕ
lands_by o landed = cond (all_landed landed o.lander o.landing) 0 1

unfoldable pub landing_visits : ℕ → Terms → List ℕ → Board → ℕ
landing_visits zero terms bs b = 0
landing_visits (suc n) terms bs b = lands_by (onward_from terms bs (last_of b) b) b.landed + landing_visits n terms bs (visited terms bs b)

-- ---- what holds all through a search

-- point i is in the sets of a function
abbrev pub Seen : (ℕ → ℕ) → ℕ → Type 0
Seen f i = Has (f (i / depths)) (i % depths)

-- how many of the pairs below m are pending
unfoldable pub busy : ℕ → (ℕ → ℕ) → (ℕ → ℕ) → ℕ
busy zero hs ss = 0
busy (suc m) hs ss = cond (eqb (hs m) (ss m)) 0 1 + busy m hs ss

-- the first n of the list are the pending pairs of m, each once (that they are all follows from the count)
pub record Listed (m : ℕ) (hs ss list : ℕ → ℕ) (n : ℕ) : Type 0 where
  pub few : m ≤ task_count * most_blocks
  pub out : (p : ℕ) → m ≤ p → ss p ≡ 0
  pub small : (p : ℕ) → ss p < sets
  pub within : (p : ℕ) → hs p ≤ ss p
  pub count : n ≡ busy m hs ss
  pub pairs : (k : ℕ) → k < n → list k < m
  pub differ : (k : ℕ) → k < n → hs (list k) < ss (list k)
  pub once : (j k : ℕ) → j < k → k < n → list j ≡ list k → ⊥

-- of each task, the depths that are noted as landed are seen at every landing block
pub record Landed (landings landed : List ℕ) (ss : ℕ → ℕ) : Type 0 where
  pub long : length landed ≡ task_count
  pub small : (t : ℕ) → landed_of landed t < sets
  pub seen : (t d a : ℕ) → t < task_count → Has (landed_of landed t) d → In a landings → Has (ss (pair_of t a)) d

-- the marks have room for the depths s of task t at each of these landing blocks, one after the other
pub record RoomEach (landings marks : List ℕ) (pending t s : ℕ) : Type 0 where
  pub pairs : ℕ
  pub long : length marks ≡ pair_marks * pairs
  pub listed : Listed pairs (handed_in marks) (seen_in marks) (list_in marks) pending
  pub task : t < task_count
  pub small : s < sets
  pub inside : (a : ℕ) → In a landings → pair_of t a < pairs

-- what is seen is reached, what was handed on is seen, and what follows it is seen
pub record Sound (next : ℕ → List ℕ) (root : ℕ) (hs ss : ℕ → ℕ) : Type 0 where
  pub first : Seen ss root
  pub held : (i : ℕ) → Seen hs i → Seen ss i
  pub sound : (i : ℕ) → Seen ss i → Reach next root i
  pub closed : (i j : ℕ) → Seen hs i → In j (next i) → Seen ss j

pub record Going (terms : Terms) (bs marks landed : List ℕ) (n : ℕ) : Type 0 where
  pub long : length marks ≡ pair_marks * pairs terms
  pub lands : Landed terms.landings landed (seen_in marks)
  pub graph : Sound (next_of terms bs) (root_of terms) (handed_in marks) (seen_in marks)
  pub listed : Listed (pairs terms) (handed_in marks) (seen_in marks) (list_in marks) n

-- ---- what a search comes to

-- the points that walks reach were seen and handed on, and no other was
pub record Searched (terms : Terms) (bs marks : List ℕ) : Type 0 where
  pub long : length marks ≡ pair_marks * pairs terms
  pub seen : (i : ℕ) → digit (seen_in marks (i / depths)) (i % depths) ≡ cond (has (reached terms bs) i) 1 0
  pub small : (p : ℕ) → seen_in marks p < sets
  pub settled : (p : ℕ) → handed_in marks p ≡ seen_in marks p

-- a number that is below this one
abbrev pub below : ℕ → ℕ → Option ℕ
below most n = cond (ltb n most) (Some n) None

-- nothing is pending, and the least of what is reached is found
unfoldable pub found : Terms → List ℕ → Found
found terms bs = record {
  pending = 0;
  foreign = below most_blocks (least_foreign terms bs (reached terms bs));
  bad = below marks_length (least_bad terms bs (reached terms bs));
}

-- the verdict by the least foreign block, or else the least bad point
abbrev pub verdict_with : Terms → List ℕ → Option ℕ → Option ℕ → Verdict
verdict_with terms bs (Some b) bad = Err (verdict.Foreign b)
verdict_with terms bs None (Some i) = refused_by (λ f. verdict.Bad f (point_at i)) (fault_at terms bs (point_at i)) (Ok tt)
verdict_with terms bs None None = Ok tt

-- n blocks from block b on, each judged by itself, upwards
unfoldable pub each_verdict : Header → List ℕ → ℕ → ℕ → Verdict
each_verdict header bs b zero = Ok tt
each_verdict header bs b (suc n) = refused_by (λ f. verdict.Block f b) (block_fault header (block_at bs b)) (each_verdict header bs (b + 1) n)
