-- The place from its two bytes, then the byte there, if it is in the buffer.
use Rattle.std.proofs.Common.{ℕ, ◌%◌, get_or, sym, ap, ◌∙◌, arith}
use lib.Seq.{set_out}
use Rattle.num_le.specs.LittleEndian.{le_bytes}
use Rattle.state_bytes.specs.Bytes.{puts}
use Rattle.manual.specs.Run.{with_byte}
use Rattle.manual.proofs.put_byte.Goals as goal

pub returns-then-place-ge-STATE_LENGTH : goal.returns-then-place-ge-STATE_LENGTH
unfolding with_byte puts
returns-then-place-ge-STATE_LENGTH c =
    let a = c.args in
    let v = get_or a.entry.now 3 0 in
    sym (set_out a.state.now c.read_u16-place.result (v % 256) (omega arith))
    ∙ ap (λ (p : ℕ). puts a.state.now p (le_bytes 1 v)) c.read_u16-place.ensures

pub returns : goal.returns
unfolding with_byte
returns c =
    let a = c.args in
    c.put_byte.ensures ∙ ap (λ (p : ℕ). puts a.state.now p (le_bytes 1 (get_or a.entry.now 3 0))) c.read_u16-place.ensures
