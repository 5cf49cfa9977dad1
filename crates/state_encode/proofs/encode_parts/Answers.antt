-- `encode_parts` meets its contract: one section behind the other, but for the landing list, which stands there, and zeros behind them.
use native.Mathlib.Omega.{arith}
use native.Mathlib.Numerals.{add-one}
use mathlib.Core.Path.{◌≡◌, refl, ap, ◌∙◌}
use mathlib.Core.List.{List}
use Prim.Native.Nat.{ℕ, ◌+◌}
use lib.ListN.{length, get_or}
use Rattle.limits.specs.Limits.{task_count, cells}
use Rattle.state.specs.State.{no_task}
use Rattle.state.specs.declared.Task.{Task}
use Rattle.state_bytes.specs.Bytes.{puts}
use borrow.Author.Rules.{rules}
use Rattle.num_le.specs.LittleEndian.{Bytes}
use Rattle.state_layout.specs.Codecs.{landings_in, task_bytes}
use Rattle.state_layout.specs.Layout.{landings_at, task_place, state_of}
use Rattle.state_sections.proofs.Sections.{put, done}
use Rattle.state_layout.proofs.Buffer.{encoded_put, landings_stay}
use Rattle.state_encode.proofs.encode_parts.Invariants.{tasks_put}
use Rattle.state_encode.proofs.encode_parts.Goals as goal

pub loop-t-init : goal.loop-t-init
loop-t-init c = refl

-- one more task put

task_more : (b l l' : List ℕ) (tasks : List Task) (t at : ℕ) → l ≡ tasks_put b tasks t → at ≡ task_place t
    → l' ≡ puts l at (task_bytes (get_or tasks t no_task)) → l' ≡ tasks_put b tasks (t + 1)
task_more b l l' tasks t at e q h = rw add-one (h ∙ (λ ι. puts (e ι) (q ι) (task_bytes (get_or tasks t no_task))))

pub loop-t-preserved : goal.loop-t-preserved
loop-t-preserved c = let l = c.loop-t in task_more _ l.b _ c.args.tasks l.t _ l.invariant (omega arith) c.put_task.ensures

pub returns : goal.returns
returns c =
    let a = c.args in
    let flags : length a.flags.now ≡ cells = omega arith in
    let outputs : length a.outputs.now ≡ cells = omega arith in
    let bytes : Bytes a.b.now = λ k. search rules in
    let after = state_of a.variables.now a.flags.now a.outputs.now a.header (landings_in a.b.now landings_at) a.motion a.notes
    a.tasks in
    let kept = landings_stay after flags outputs _ _ bytes refl
    (put c.put_variables.ensures
    (put c.put_levels.ensures
    (put c.put_levels-2.ensures
    (put c.put_layout.ensures
    (put c.put_header.ensures
    done))))) in
    let l = c.loop-t in
    let e : l.t ≡ task_count = omega arith in
    let all : l.b ≡ tasks_put c.put_starts.new.b a.tasks task_count = l.invariant ∙ ap (tasks_put c.put_starts.new.b a.tasks) e in
    encoded_put _ flags outputs _ _ _ c.requires
    (put c.put_variables.ensures
    (put c.put_levels.ensures
    (put c.put_levels-2.ensures
    (put c.put_layout.ensures
    (put c.put_header.ensures
    (put kept
    (put c.put_motion.ensures
    (put c.put_notes.ensures
    (put c.put_starts.ensures
    (put refl
    (put refl
    (put all
    done))))))))))))
    c.put_unused.ensures
