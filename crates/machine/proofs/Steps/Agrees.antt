-- One step: from states that agree, the engine and the reference machine give the same answer and request, and agree afterwards.
use Prim.Native.Nat.{ℕ}
use mathlib.Core.Path.{◌≡◌, refl, ap, subst, ◌∙◌}
use mathlib.Core.Bool.{true}
use mathlib.Core.List.{List}
use lib.ListN.{length}
use Rattle.walk_flow.specs.Flow.{flow_of}
use Rattle.state.specs.State.{task_at}
use Rattle.state.specs.declared.Task.{Task}
use Rattle.state.specs.declared.Values.{Values}
use Rattle.state.specs.declared.State.{State}
use Rattle.machine.specs.Inputs.{Inputs}
use Rattle.machine.specs.Engine.{point_of, answer_to, performed, step}
use Rattle.machine.specs.declared.StepOut.{StepOut}
use Rattle.machine.specs.Reference.{Thread, Machine, ReferenceOut, replies, does, reference_step}
use Rattle.command_operands.specs.declared.Command.{Command}
use Rattle.machine.specs.StepRule.{command_of}
use Rattle.machine.specs.Allows.{Allows}
use Rattle.machine.proofs.Rows.Forms.{timeless}
use Rattle.machine.specs.declared.Effect.{Effect}
use Rattle.machine.specs.declared.Outcome.{Outcome}
use Rattle.machine.specs.declared.Outcome.TheVariants.{GoOn, Stay, Jump, Call, Return, Start, Restart, End, Halt}
use Rattle.machine.proofs.Runs.Accepted.{Accepted, hd}
use Rattle.machine.proofs.Steps.TasksAfter.{turned}
use Rattle.machine.proofs.Steps.Notes.{noted_alike}
use Rattle.machine.proofs.Steps.Together.{Agree, Ran, Case, effect_here, thread_of, step_case, held_same}

-- both answer alike
answers_same : (o : Outcome) (t : ℕ) (task : Task) (p : Thread) → task.block ≡ p.block → task.depth ≡ length p.returns
    → answer_to o (point_of t task) ≡ replies o t p
answers_same GoOn t task p e f = refl
answers_same (Stay time turns) t task p e f = refl
answers_same (Jump a) t task p e f = refl
answers_same (Call a) t task p e f = refl
answers_same Return t task p e f = refl
answers_same (Start u a) t task p e f = refl
answers_same Restart t task p e f = refl
answers_same End t task p e f = refl
answers_same (Halt q) t task p e f = rw (e, f)

module _ (image : List ℕ) where
  pub record SameStep (o : StepOut) (d : ReferenceOut) : Type 0 where
    pub agree : Agree image o.state d.machine
    pub request : o.request ≡ d.request
    pub answer : o.answer ≡ d.answer

  module _ (ok : Accepted image) (s : State) (m : Machine) (g : Agree image s m) (x : Inputs) where
    abbrev t : ℕ
    t = x.task

    abbrev task : Task
    task = task_at s t

    abbrev p : Thread
    p = thread_of image m x

    abbrev c : Command
    c = command_of image s x

    done_same : Ran image s m x → (e : Effect) → Allows (hd image).landings (flow_of (hd image) c) e.outcome → timeless c.code e.outcome ≡ true
        → e.values.notes ≡ s.values.notes
        → SameStep (performed s x task e) (does m x p e)
    unfolding performed does
    done_same r e f w k = record {
      agree = record {
        header = g.header;
        landings = g.landings;
        both = rw g.header (turned image ok s.tasks m.threads g.both t r.task r.running e.outcome f w);
        values = noted_alike s x task e m.values.notes (k ∙ ap (λ (v : Values). v.notes) g.values);
      };
      request = refl;
      answer = answers_same e.outcome t task p ((g.both.same t r.task).block r.running) r.depth;
    }

    pub step_same : SameStep (step image s x) (reference_step image m x)
    unfolding flow_of
    step_same = go (step_case image ok s m g x)
      where
        go : Case image s m x → SameStep (step image s x) (reference_step image m x)
        go (Case.refused a n i j) = rw (i, j) (record { agree = g; request = refl; answer = refl })
        go (Case.ran r) = rw (r.engine, r.reference) (done_same r (effect_here image s x) (subst (λ (l : List ℕ). Allows l (flow_of (hd image) c) (effect_here image s x).outcome) (held_same image g) r.law.outcome.flow) r.law.outcome.calm r.law.notes)
