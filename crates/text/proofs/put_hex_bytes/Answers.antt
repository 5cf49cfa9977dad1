-- A byte's digits are put behind those of the bytes before it.
use Rattle.std.proofs.Common.{◌≡◌, ap, sym, add-one, length, arith}
use Rattle.text.specs.Text.{hex_first}
use Rattle.text.proofs.Joined.{and_then, nothing, same_word}
use Rattle.text.proofs.put_hex_bytes.Goals as goal

pub loop-byte-init : goal.loop-byte-init
unfolding hex_first
loop-byte-init c = let p = c.put-end in nothing p.new.out p.result p.ensures.counts.0

pub loop-byte-preserved : goal.loop-byte-preserved
unfolding hex_first
loop-byte-preserved c =
    let v = c.loop-byte in
    same_word (ap (hex_first c.args.bytes.now) (sym (add-one v.byte-index))) (and_then v.invariant c.put_hex-end.ensures)

pub returns : goal.returns
returns c =
    let v = c.loop-byte in
    let all : v.byte-index ≡ length c.args.bytes.now = omega arith in
    and_then c.put-end.ensures (same_word (ap (hex_first c.args.bytes.now) all) v.invariant)
