-- Words put one behind the other are one word put, so a line is put word by word; and where there is room, the text stands whole at the front.
use mathlib.Core.Path.{◌≡◌, refl, sym, ap, ◌∙◌}
use mathlib.Core.List.{List, [], ◌++◌, append_assoc}
use Prim.Native.Nat.{ℕ, ◌+◌, ◌-◌, ◌≤◌, min}
use native.Mathlib.Omega.{arith}
use lib.ListN.{length, take, drop, length-append, length-take, length-drop, take-append-drop}
use lib.Seq.{take_all, take_at, take-append-le, drop-append-add, drop-drop, length-take-le}
use borrow.Rule.Slice.PartMut.{put_mid}
use Rattle.std.specs.Counts.{IsPrefixLen}
use Rattle.logic.proofs.Choice.{by}
use Rattle.text.specs.Put.{put_at, end_after, Put}

-- the buffer keeps its length
pub put_length : (out : List ℕ) (at : ℕ) (a : List ℕ) → length (put_at out at a) ≡ length out
unfolding put_at
put_length out at a = simp (length-take, length-append, length-drop) (omega arith)

-- where there is room
pub whole : (out : List ℕ) (at : ℕ) (a : List ℕ) → at + length a ≤ length out → put_at out at a ≡ take at out ++ (a ++ drop (at + length a) out)
unfolding put_at
whole out at a h = take_all (length out) _ (simp (length-append, length-take, length-drop) (omega arith))

-- where there is none left behind the word
pub cut : (out : List ℕ) (at : ℕ) (a b : List ℕ) → length out ≤ at + length a
    → take (length out) (take at out ++ (a ++ b)) ≡ take (length out) (take at out ++ a)
cut out at a b h =
    ap (take (length out)) (sym (append_assoc (take at out) a b))
    ∙ take-append-le (length out) (take at out ++ a) b (simp (length-append, length-take) (omega arith))

module _ (out : List ℕ) (at : ℕ) (a b : List ℕ) where
  pub joined_end : end_after (length out) (end_after (length out) at a) b ≡ end_after (length out) at (a ++ b)
  unfolding end_after
  joined_end = simp length-append (omega arith)

  no_room : length out ≤ at + length a → put_at (put_at out at a) (end_after (length out) at a) b ≡ put_at out at (a ++ b)
  unfolding put_at end_after
  no_room l =
      let n : min (at + length a) (length out) ≡ length out = omega arith in
      let first = put_length out at a in
      rw (n, first, take_all (length out) (put_at out at a) (omega arith))
      (take-append-le (length out) (put_at out at a) _ (omega arith) ∙ take_all (length out) (put_at out at a) (omega arith)
      ∙ cut out at a _ l ∙ sym (cut out at a (b ++ drop (at + length (a ++ b)) out) l)
      ∙ ap (λ (x : List ℕ). take (length out) (take at out ++ x)) (sym (append_assoc a b _)))

  room : at + length a ≤ length out → put_at (put_at out at a) (end_after (length out) at a) b ≡ put_at out at (a ++ b)
  unfolding put_at end_after
  room l =
      let n : min (at + length a) (length out) ≡ at + length a = omega arith in
      let front = take at out ++ a in
      let rest = drop (at + length a) out in
      let long : length front ≡ at + length a = simp (length-append, length-take) (omega arith) in
      let is : put_at out at a ≡ front ++ rest = whole out at a l ∙ sym (append_assoc (take at out) a rest) in
      let behind : drop (at + length a + length b) (front ++ rest) ≡ drop (at + length (a ++ b)) out =
      ap (λ (k : ℕ). drop (k + length b) (front ++ rest)) (sym long) ∙ drop-append-add front rest (length b) ∙ drop-drop (length b) (at + length a) out
      ∙ (let e : at + length a + length b ≡ at + length (a ++ b) = simp length-append (omega arith) in ap (λ (k : ℕ). drop k out) e) in
      rw (n, put_length out at a, is, take_at front rest (at + length a) long, behind)
      (ap (take (length out)) (append_assoc (take at out) a _ ∙ ap (λ (x : List ℕ). take at out ++ x) (sym (append_assoc a b _))))

  -- two words put one behind the other
  pub joined : put_at (put_at out at a) (end_after (length out) at a) b ≡ put_at out at (a ++ b)
  joined = by (length out) (at + length a) (λ l. no_room (omega arith)) room

-- the first bytes, where a text stood in them and there was room for the word: that text and the word
pub behind : (out : List ℕ) (at : ℕ) (t word : List ℕ) → take at out ≡ t → at + length word ≤ length out
    → take (end_after (length out) at word) (put_at out at word) ≡ t ++ word
unfolding end_after
behind out at t word e l =
    let n : min (at + length word) (length out) ≡ at + length word = omega arith in
    let long : length (take at out ++ word) ≡ at + length word = simp (length-append, length-take) (omega arith) in
    let is = whole out at word l ∙ sym (append_assoc (take at out) word (drop (at + length word) out)) in
    rw (n, is, take_at (take at out ++ word) (drop (at + length word) out) (at + length word) long, e)

-- a text in a buffer that has room for it stands whole at its front
pub stands : (out word : List ℕ) → length word ≤ length out → take (end_after (length out) 0 word) (put_at out 0 word) ≡ word
stands out word l = behind out 0 [] word refl (omega arith)

-- the place behind a text counts bytes of the buffer
pub counts : (out : List ℕ) (at : ℕ) (word : List ℕ) → IsPrefixLen (end_after (length out) at word) (put_at out at word)
unfolding end_after
counts out at word = let n = put_length out at word in (omega arith, simp length-take (omega arith))

pub kept_length : {out last : List ℕ} {at end : ℕ} {word : List ℕ} → Put out at word end last → length last ≡ length out
kept_length {out} {last} {at} {end} {word} p = ap length p.holds ∙ put_length out at word

-- two calls, one after the other, put the two words as one
pub and_then : {out first last : List ℕ} {at r s : ℕ} {a b : List ℕ} → Put out at a r first → Put first r b s last → Put out at (a ++ b) s last
and_then {out} {first} {last} {at} {r} {s} {a} {b} p q =
    let n = kept_length p in record {
      ends = q.ends ∙ ap (λ (k : ℕ). end_after k r b) n ∙ ap (λ (k : ℕ). end_after (length out) k b) p.ends ∙ joined_end out at a b;
      counts = q.counts;
      holds = q.holds ∙ ap (λ (l : List ℕ). put_at l r b) p.holds ∙ ap (λ (k : ℕ). put_at (put_at out at a) k b) p.ends ∙ joined out at a b;
    }

-- no word put where a text ends
pub nothing : (out : List ℕ) (end : ℕ) → end ≤ length out → Put out end [] end out
unfolding end_after
nothing out end h =
    let e : end ≡ end_after (length out) end [] = omega arith in
    let n : end + 0 ≡ end = omega arith in
    let is : out ≡ put_at out end [] = sym (whole out end [] (omega arith) ∙ ap (λ (k : ℕ). take end out ++ drop k out) n ∙ take-append-drop end out) in
    record { ends = e; counts = (h, sym (length-take-le end out h)); holds = is }

-- an equal word is put
pub same_word : {out last : List ℕ} {at end : ℕ} {a b : List ℕ} → a ≡ b → Put out at a end last → Put out at b end last
same_word {out} {last} {at} {end} e p = rw e at p

-- a text put where none stood, in a buffer that has room for it: the first bytes are it
pub is_text : {out last : List ℕ} {end : ℕ} {word : List ℕ} → Put out 0 word end last → length word ≤ length out → take end last ≡ word
is_text {out} {last} {end} {word} p l = rw (p.ends, p.holds) (stands out word l)

-- ---- what `put` leaves

-- where the text fills the buffer, nothing changes
pub full : (out : List ℕ) (at : ℕ) (word : List ℕ) → length out ≤ at → Put out at word (length out) out
unfolding put_at end_after
full out at word h = record {
  ends = omega arith;
  counts = (omega arith, sym (ap length (take_all (length out) out (omega arith))));
  holds = sym (rw (take_all at out h) (take-append-le (length out) out _ (omega arith) ∙ take_all (length out) out (omega arith)));
}

-- s copied over the k bytes of d from index a on, where it is as long as they are
copied : (d s x : List ℕ) (a k : ℕ) → a + length s ≤ length d → k ≡ length s → x ≡ s → put_mid a k d x ≡ put_at d a s
copied d s x a k h q e = rw (e, q, whole d a s h, drop-drop)

-- so much of a word as there is room for
kept : (d s : List ℕ) (a n : ℕ) → a ≤ length d → n ≡ length d - a → n ≤ length s → put_at d a (take n s) ≡ put_at d a s
unfolding put_at
kept d s a n h q l =
    let e = length-take-le n s l in
    cut d a (take n s) _ (omega arith)
    ∙ sym (cut d a (take n s) (drop n s ++ drop (a + length s) d) (omega arith))
    ∙ ap (λ (x : List ℕ). take (length d) (take a d ++ x)) (sym (append_assoc (take n s) (drop n s) _)
    ∙ ap (λ (x : List ℕ). x ++ drop (a + length s) d) (take-append-drop n s))

-- so much of a word as there is room for, copied into its place
pub copied_front : (d s x : List ℕ) (a n : ℕ) → a ≤ length d → n ≡ min (length s) (length d - a) → x ≡ take n s → Put d a s (a + n) (put_mid a n d x)
unfolding end_after
copied_front d s x a n h q e =
    let is : put_mid a n d x ≡ put_at d a s =
    by (length d - a) (length s)
    (λ l.
    let m : n ≡ length d - a = omega arith in
    let k = length-take-le n s (omega arith) in
    copied d (take n s) x a n (omega arith) (sym k) e ∙ kept d s a n h m (omega arith))
    (λ l. let m : n ≡ length s = omega arith in copied d s x a n (omega arith) m (e ∙ take_all n s (omega arith))) in
    let ends : a + n ≡ end_after (length d) a s = omega arith in
    record { ends = ends; counts = rw (is, ends) (counts d a s); holds = is }
