-- A step of a buffer that holds a state: refused by 18 or 17 it leaves the buffer, and else its parts are those of the engine's step.
use Rattle.std.specs.Prelude.{None}
use Prim.Native.Nat.{ℕ, ◌<◌, ◌≤◌}
use mathlib.Core.Path.{◌≡◌, refl, sym, ap, ◌∙◌}
use mathlib.Core.Bool.{true}
use mathlib.Core.List.{List}
use native.Mathlib.Omega.{arith}
use lib.ListN.{length, get_or, take}
use Rattle.limits.specs.Limits.{task_count, most_landings, inputs_length}
use Rattle.num_le.specs.LittleEndian.{Bytes}
use Rattle.image_header.specs.Scan.{blocks_of}
use Rattle.image_header.specs.declared.Header.{Header}
use Rattle.image_header.proofs.Rows.{most_of_lem}
use Rattle.command_operands.specs.declared.Command.{Command}
use Rattle.walk.specs.Blocks.{command_at}
use Rattle.walk_flow.specs.Terms.{under}
use Rattle.walk_point.specs.declared.Point.{Point}
use Rattle.state.specs.State.{task_at}
use Rattle.state.specs.Change.{values_of, cells_after, motion_after}
use Rattle.state.specs.declared.Cells.{Cells}
use Rattle.state.specs.declared.Motion.{Motion}
use Rattle.state.specs.declared.Notes.{Notes}
use Rattle.state.specs.declared.Task.{Task}
use Rattle.state.specs.declared.Values.{Values}
use Rattle.state_layout.specs.Codecs.{header_in, landings_in}
use Rattle.state_layout.specs.Layout.{header_at, landings_at, values_in, tasks_in, state_of, decoded, encoded}
use Rattle.state_layout.specs.IsState.{is_state}
use lib.Seq.{length-take-le}
use Rattle.state_layout.proofs.Codecs.{words_count}
use Rattle.state_layout.proofs.RoundTrip.{state_good, encode_decode}
use Rattle.machine.specs.Inputs.{Inputs}
use Rattle.machine.specs.Effect.{effect_of}
use Rattle.machine.specs.DepthAllows.{DepthAllows}
use Rattle.machine.specs.Engine.{refuse, point_of, answer_to, notes_after, tasks_after, performed, terms_held, task_step, step}
use Rattle.machine.specs.Answers.{Answer}
use Rattle.machine.specs.declared.NotDone.{NotDone}
use Rattle.machine.specs.declared.Context.{Context}
use Rattle.machine.proofs.Steps.Room.{deep}
use Rattle.exec_action.specs.Action.{acted}
use Rattle.exec_action.specs.declared.Action.{Action}
use Rattle.exec_step.specs.Readiness.{context_with, ready_for}
use Rattle.std.specs.Prelude.{Result, Ok, Err}
use Rattle.exec_step.proofs.StepCases.{Room, room, refused_step, Carried, carried_step, of_task}
use Rattle.bias_results.specs.Results.{answer_for}
use Rattle.bias.specs.Step.{refuse_step, handed, step_state}
use Rattle.bias.proofs.ByTest.{of_state}

module _ (b : List ℕ) (bytes : Bytes b) (holds : is_state b ≡ true) where
  module _ (image : List ℕ) (x : Inputs) (such : x.task < task_count) where
    pub refused_is : (task : Task) (a : NotDone) → length x.levels ≡ inputs_length → task ≡ task_at (decoded b) x.task
        → Err a ≡ ready_for image (terms_held (decoded b)) x.task task → handed (step image (decoded b) x) ≡ refuse_step (answer_for None (Err a)) b
    unfolding handed
    refused_is task a e i r =
        ap handed (sym (of_task image (decoded b) x such e) ∙ ap (task_step image (decoded b) x) (sym i) ∙ refused_step image (decoded b) x task a r) ∙ kept
      where
        kept : handed (refuse (decoded b) (Err a)) ≡ refuse_step (answer_for None (Err a)) b
        kept = ap (λ (l : List ℕ). refuse_step (answer_for None (Err a)) l) (encode_decode b bytes holds)

    module _ (task : Task) (c : Command) (task-is : task ≡ task_at (decoded b) x.task)
        (r : Ok c ≡ ready_for image (terms_held (decoded b)) x.task task) where
      found : Carried image (decoded b) x task c
      found = carried_step image (decoded b) x task c r

      -- there is room for what the command does
      pub task_room : Room task
      task_room = rw task-is (room (decoded b) (state_good b bytes holds) x.task such)

      pub depth_allows : (levels ls : List ℕ) (g : Context) (v : Values) → DepthAllows task.depth (effect_of levels ls g c v).outcome
      depth_allows levels ls g v =
          rw found.is (deep (blocks_of image) (terms_held (decoded b)) x.task task found.fitting task_room.depth levels ls g v)

      -- the parts, as they are found, are the step's
      pub carried_is : (action : Action) (h : Header) (ls : List ℕ) (ts after : List Task) (v w : Cells) (m n : Motion) (notes noted : Notes) (p : Point) (a : Answer)
          → h ≡ header_in b header_at → ls ≡ (terms_held (decoded b)).landings → ts ≡ tasks_in b → values_of v m notes ≡ values_in b
          → acted action (values_of v m notes)
          ≡ effect_of x.levels ls (context_with h.drive x.start x.ramp_ended x.in_window task.time task.turns) c (values_of v m notes)
          → w ≡ cells_after action.change v → n ≡ motion_after action.change m
          → noted ≡ notes_after x.task x.start action.outcome action.request notes
          → after ≡ tasks_after h.start x.task task action.outcome ts → p ≡ point_of x.task task → a ≡ answer_to action.outcome p
          → handed (task_step image (decoded b) x task) ≡ record {
            answer = answer_for action.request a;
            buffer = encoded (state_of w.variables w.flags w.outputs h (landings_in b landings_at) n noted after);
          }
      unfolding handed performed decoded
      carried_is action h ls ts after v w m n notes noted p a eh els ets ev ee ew em en ea ep eq =
          ap handed (found.step_is ∙ ap (performed (decoded b) x task) (sym (ee ∙ effect_is))) ∙ rw (eq, ep, en, ea, eh, ets, ew, em)
        where
          effect_is : effect_of x.levels ls (context_with h.drive x.start x.ramp_ended x.in_window task.time task.turns) c (values_of v m notes)
              ≡ effect_of x.levels (terms_held (decoded b)).landings (context_with (header_in b header_at).drive x.start x.ramp_ended x.in_window task.time task.turns)
              (command_at (blocks_of image) task.block) (values_in b)
          effect_is = rw (eh, els, ev, found.is)

-- what is found with the header and the landing list that were read, of the state's own
pub ready_of : (b image : List ℕ) (h : Header) (l : List ℕ) (t : ℕ) (task : Task) (r : Result Command NotDone) → h ≡ header_in b header_at → l ≡ landings_in b landings_at
    → r ≡ ready_for image (under h l) t task → r ≡ ready_for image (terms_held (decoded b)) t task
unfolding decoded
ready_of b image h l t task r e i f = f ∙ rw (e, i) refl

-- the landing blocks that are handed on are the state's
pub blocks_of_lem : (b : List ℕ) (h : Header) (l : List ℕ) → h ≡ header_in b header_at → l ≡ landings_in b landings_at
    → take h.landings l ≡ (terms_held (decoded b)).landings
unfolding decoded
blocks_of_lem b h l e i = rw (e, i) refl

-- a state's landing list has room for its landing blocks, and zeros behind them
module _ (b : List ℕ) (bytes : Bytes b) (holds : is_state b ≡ true) (h : Header) (e : h ≡ header_in b header_at) where
  pub few_landings : h.landings ≤ most_landings
  unfolding decoded
  few_landings =
      let g = (state_good b bytes holds).header.landings in
      let m = most_of_lem (header_in b header_at).format in
      rw e (omega arith)

  pub as_many : (l : List ℕ) → l ≡ landings_in b landings_at → h.landings ≡ length (take h.landings l)
  as_many l i =
      let n = few_landings in
      let m = ap length i ∙ words_count most_landings b landings_at in
      sym (length-take-le h.landings l (omega arith))

  pub zeros_behind : (k : ℕ) → h.landings ≤ k → get_or (landings_in b landings_at) k 0 ≡ 0
  unfolding decoded
  zeros_behind k u = (state_good b bytes holds).landings.past k (rw e at u)

-- the step of a buffer that holds a state is that of its task
pub whole : (b image : List ℕ) (x : Inputs) (task : Task) → task ≡ task_at (decoded b) x.task → is_state b ≡ true → x.task < task_count
    → length x.levels ≡ inputs_length → handed (task_step image (decoded b) x task) ≡ step_state image b x
whole b image x task e holds l i =
    ap handed (ap (task_step image (decoded b) x) e ∙ of_task image (decoded b) x l i) ∙ sym (of_state image b x holds)
