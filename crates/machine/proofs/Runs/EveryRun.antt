-- The theorem over every list of steps (specs/Theorem.antt), from what holds of one step.
use Prim.Native.Nat.{ℕ, zero, suc, ◌<◌}
use mathlib.Core.Path.{◌≡◌, refl}
use mathlib.Core.List.{List, [], ◌∷◌}
use native.Mathlib.Omega.{arith}
use lib.ListN.{get_or}
use Rattle.limits.specs.Limits.{task_count}
use Rattle.num_le.specs.LittleEndian.{Bytes}
use Rattle.image_header.specs.Scan.{landings_of}
use Rattle.walk.specs.Walk.{Walk}
use Rattle.state.specs.State.{runs, no_task, task_at, fresh, fresh_values, running, never_started}
use Rattle.state.specs.declared.Values.{Values}
use Rattle.state.specs.declared.State.{State}
use Rattle.machine.specs.Inputs.{Inputs}
use Rattle.machine.specs.Engine.{step, point_of}
use Rattle.machine.specs.Reference.{Machine, reference_step, reference_loaded, idle, thread_at}
use Rattle.machine.specs.Alike.{SameTask, SameValues, Alike}
use Rattle.machine.specs.Run.{outs, state_after, reference_outs, machine_after, SameHanded, Permitted}
use Rattle.machine.specs.StepRule.{no_calls, Past, no_past, past_after, EachStep}
use Rattle.machine.specs.Theorem.{loaded, EveryValueRun}
use Rattle.machine.proofs.Runs.Accepted.{Accepted, accepted, hd, body, within}
use Rattle.machine.proofs.Steps.Reached.{Sound, never_sound}
use Rattle.machine.proofs.Steps.Together.{Agree}
use Rattle.machine.proofs.Steps.Agrees.{step_same}
use Rattle.image_header.proofs.HeaderGood.{header_good, landings_good}
use Rattle.image_result.proofs.Done.{is_done}
use Rattle.state.specs.GoodState.{GoodState}
use Rattle.state.proofs.Fresh.{fresh_good}
use Rattle.machine.proofs.Steps.KeepsGood.{keeps_good}
use Rattle.machine.proofs.Steps.Parts.{Counts, Told, step_parts}

values_same : (v w : Values) → v ≡ w → SameValues v w
values_same v w e = rw e (record {
  variables = refl;
  flags = refl;
  outputs = refl;
  position = refl;
  speed = refl;
  acceleration = refl;
  deceleration = refl;
  mark = refl;
  level = refl;
  moved = refl;
})

module _ (image : List ℕ) where
  -- the fresh states agree
  first_same : SameTask (running (hd image).header.start) (thread_at (hd image).header.start (hd image).header.start 0 0 [])
  first_same = record { running = refl; block = λ _. refl; returns = λ _. refl; start = λ _. refl; time = λ _. refl; turns = λ _. refl }

  idle_same : SameTask never_started idle
  idle_same = record {
    running = refl;
    block = λ e. absurd (omega arith);
    returns = λ e. absurd (omega arith);
    start = λ e. absurd (omega arith);
    time = λ e. absurd (omega arith);
    turns = λ e. absurd (omega arith);
  }

  first_sound : Sound (hd image) (body image) 0 (running (hd image).header.start)
  first_sound = record {
    reach = λ _. record { path = []; walk = Walk.begin };
    home = λ _. record { path = []; walk = Walk.begin };
    backs = λ _ i l. absurd (omega arith);
    long = refl;
    wait = λ _. refl;
  }

  fresh_agree : Agree image (loaded image) (reference_loaded image)
  unfolding fresh reference_loaded fresh_values
  fresh_agree = record {
    header = refl;
    landings = refl;
    both = record { three = refl; also = refl; sound = sound; same = same; first = refl };
    values = refl;
  }
    where
      sound : (t : ℕ) → t < task_count → Sound (hd image) (body image) t (get_or (running (hd image).header.start ∷ never_started ∷ never_started ∷ []) t no_task)
      sound zero l = first_sound
      sound (suc zero) l = never_sound (hd image) (body image) 1
      sound (suc (suc zero)) l = never_sound (hd image) (body image) 2
      sound (suc (suc (suc t))) l = absurd (omega arith)

      same : (t : ℕ) → t < task_count
          → SameTask (get_or (running (hd image).header.start ∷ never_started ∷ never_started ∷ []) t no_task)
          (get_or (thread_at (hd image).header.start (hd image).header.start 0 0 [] ∷ idle ∷ idle ∷ []) t idle)
      same zero l = first_same
      same (suc zero) l = idle_same
      same (suc (suc zero)) l = idle_same
      same (suc (suc (suc t))) l = absurd (omega arith)

  module _ (ok : Accepted image) where
    pub handed : (s : State) (m : Machine) → Agree image s m → (xs : List Inputs) → SameHanded (outs image s xs) (reference_outs image m xs)
    unfolding outs reference_outs
    handed s m g [] = SameHanded.none
    handed s m g (x ∷ xs) = let k = step_same image ok s m g x in
        SameHanded.more k.answer k.request (handed (step image s x).state (reference_step image m x).machine k.agree xs)

    pub kept : (s : State) (m : Machine) → Agree image s m → (xs : List Inputs) → Agree image (state_after image s xs) (machine_after image m xs)
    unfolding state_after machine_after
    kept s m g [] = g
    kept s m g (x ∷ xs) = kept (step image s x).state (reference_step image m x).machine (step_same image ok s m g x).agree xs

    alike : (s : State) (m : Machine) → Agree image s m → Alike s m
    alike s m g = record { tasks = g.both.same; values = values_same s.values m.values g.values }

    permitted : (s : State) (m : Machine) → Agree image s m → (t : ℕ) → t < task_count → (task_at s t).status ≡ runs → Permitted image t (task_at s t)
    permitted s m g t l r =
        let q = (g.both.sound t l).reach r in
        let w = within image ok (point_of t (task_at s t)) q in
        record { block = w.block; sound = ok.blocks (task_at s t).block w.block; fine = ok.fine (point_of t (task_at s t)) q; depth = w.depth }

    each : (s : State) (m : Machine) (past : Past) → Agree image s m → Told past s m → (xs : List Inputs) → EachStep image past s xs
    each s m past g n [] = EachStep.none
    each s m past g n (x ∷ xs) =
        let k = step_parts image ok s m g past n x in
        EachStep.more k.0 (each (step image s x).state (reference_step image m x).machine (past_after image s x past) (step_same image ok s m g x).agree
        k.1 xs)

  goods : Bytes image → (s : State) → GoodState s → (xs : List Inputs) → GoodState (state_after image s xs)
  unfolding state_after
  goods b s g [] = g
  goods b s g (x ∷ xs) = goods b (step image s x).state (keeps_good image b s g x) xs

  fresh_counts : Counts no_calls (reference_loaded image).threads
  unfolding reference_loaded
  fresh_counts zero = refl
  fresh_counts (suc zero) = refl
  fresh_counts (suc (suc zero)) = refl
  fresh_counts (suc (suc (suc u))) = refl

  fresh_told : Told no_past (loaded image) (reference_loaded image)
  unfolding fresh fresh_values
  fresh_told = record { calls = fresh_counts; moved = refl }

-- the theorem
pub every_value_run : EveryValueRun
every_value_run image n e xs =
    let ok = accepted image n e in
    let g = kept image ok (loaded image) (reference_loaded image) (fresh_agree image) xs in
    record {
      answers = handed image ok (loaded image) (reference_loaded image) (fresh_agree image) xs;
      alike = alike image ok _ _ g;
      permitted = permitted image ok _ _ g;
      steps = each image ok (loaded image) (reference_loaded image) no_past (fresh_agree image) (fresh_told image) xs;
      good = λ b. goods image b (loaded image) (fresh_good (hd image).header (header_good image (is_done _ ok.read)) (landings_of image) (landings_good image (is_done _ ok.read))) xs;
    }
