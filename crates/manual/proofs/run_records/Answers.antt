-- A record more is carried out, and at the end all of them.
use Rattle.std.proofs.Common.{rules, ℕ, ◌≡◌, ◌+◌, ◌*◌, ◌/◌, List, length, drop, refl, sym, ap, ◌∙◌, add-one, length-append, length-drop, arith}
use Rattle.std.proofs.lemmas.List.{length_push}
use Rattle.std.specs.Slice.Iter.{chunks_exact_rest}
use Rattle.manual.specs.Run.{record_length, recorded, after}
use Rattle.manual.proofs.Ran.{cut_out, next_record}
use Rattle.manual.proofs.run_records.Goals as goal

pub loop-entry-init : goal.loop-entry-init
unfolding after
loop-entry-init g c = record {
  long = search rules;
  size = search rules;
  rest = search rules;
  within = omega arith;
  ran = refl;
}

pub loop-entry-preserved : goal.loop-entry-preserved
unfolding after
loop-entry-preserved g c =
    let image = c.args.image.now in
    let steps = c.args.steps.now in
    let l = c.loop-entry in
    let i = l.invariant in
    let k = length l.yielded in
    let s = c.in-Some.ensures.steps in
    let left = sym i.rest ∙ s.1.0 in
    let n = next_record steps c.in-Some.entry.now (chunks_exact_rest c.next.new.self) k left (s.1.1 ∙ i.size) in
    let more = length_push l.yielded c.in-Some.entry in
    let ran : recorded image steps (record_length * k) (after image steps k c.args.state.now) ≡ after image steps (k + 1) c.args.state.now = rw add-one in record {
      long = search rules;
      size = s.0 ∙ i.size;
      rest = n.1 ∙ ap (λ (j : ℕ). drop (record_length * j) steps) (sym more);
      within =
          omega (
            arith,
            more,
            i.size,
            s.1.1,
            ap length left,
            length-append c.in-Some.entry.now (chunks_exact_rest c.next.new.self),
            length-drop (record_length * k) steps,
          );
      ran =
          c.in_ok-run_record.ensures ∙ ap (λ (e : List ℕ). recorded image e 0 l.state) n.0 ∙ cut_out image steps l.state (record_length * k)
          ∙ ap (recorded image steps (record_length * k)) i.ran ∙ ran ∙ ap (λ (j : ℕ). after image steps j c.args.state.now) (sym more);
    }

pub returns : goal.returns
returns g c =
    let steps = c.args.steps.now in
    let l = c.loop-entry in
    let i = l.invariant in
    let all : length l.yielded ≡ length steps / record_length =
    omega (arith, i.size, c.in-None.ensures.steps.1.0, ap length i.rest, length-drop (record_length * length l.yielded) steps) in
    i.ran ∙ ap (λ (k : ℕ). after c.args.image.now steps k c.args.state.now) all
