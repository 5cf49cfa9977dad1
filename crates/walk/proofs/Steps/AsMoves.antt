-- A step of a walk from a point that breaks nothing is a move by the command's flow, a stay, or a return to a start; and each move is a step.
use Prim.Native.Nat.{ℕ}
use mathlib.Core.Path.{◌≡◌, refl, sym, ap, ◌∙◌}
use mathlib.Core.Bool.{Bool, true, ◌&&◌}
use mathlib.Core.Logic.{◌⊎◌, inl, inr, ⊎_elim}
use mathlib.Core.List.{List}
use lib.Dec.{eqb}
use borrow.Author.Tests.{eqb-true, eqb-false, eq-eqb}
use Rattle.limits.specs.Limits.{bias}
use Rattle.walk_flow.specs.Terms.{Terms}
use Rattle.command_table.specs.Rows.{row_of}
use Rattle.command_operands.specs.declared.Command.{Command}
use Rattle.walk_flow.specs.Flow.{flow_of}
use Rattle.walk_flow.specs.Permission.{permitted}
use Rattle.walk_point.specs.PointFault.{point}
use Rattle.walk_point.specs.declared.Point.{Point}
use Rattle.walk.specs.Graph.{In}
use Rattle.walk.specs.Walk.{Named, starts, goes_on, start_of, WalkStep}
use Rattle.walk.specs.Walk.{stays as waits}
use Rattle.walk.specs.Successors.{leads_to}
use Rattle.logic.proofs.Choice.{both, test}
use Rattle.walk.proofs.Steps.Moves.{Flows, carried, on_by, starts_by, lands_by, call_f, wait_f, Flowing, flowing, Move, moved, moves}

-- where a step leads that is no move
pub data Special (h : Terms) (bs : List ℕ) (path : List Point) (p : Point) (c : Command) (q : Point) : Type 0 where
  stays : waits c.code ≡ true → q ≡ p → Special h bs path p c q
  restarts : (a : ℕ) → c.code ≡ 0x51 → start_of h bs p.task path ≡ Named.at a → q ≡ point p.task a 0 → Special h bs path p c q

module _ (h : Terms) (bs : List ℕ) (path : List Point) (p : Point) (c : Command) (allowed : permitted h c.code p.task ≡ true) where
  codes : Flows c.code (row_of c.code).flow
  codes = carried h c.code p.task allowed

  flow : Flowing (row_of c.code).flow c.word (flow_of h c)
  unfolding flow_of
  flow = flowing c.x c.word (row_of c.code).flow codes.some

  begins : (u : ℕ) → starts c.code u ≡ starts_by (row_of c.code).flow u
  begins u = rw (codes.begins_bias, codes.begins_plc, codes.begins_mathematics)

  on : (t : ℕ) → goes_on c.code t ≡ on_by (row_of c.code).flow t
  on t =
      rw (
        codes.ends,
        codes.calls,
        codes.returns,
        codes.goes_to,
        codes.computes,
        codes.begins_bias,
        codes.begins_plc,
        codes.begins_mathematics,
        codes.computes_bias,
      )

  lands : (u : ℕ) → (eqb c.code 0x5B && eqb u bias) ≡ lands_by (row_of c.code).flow u
  lands u = rw codes.computes_bias

  called : c.code ≡ 0x52 → call_f (flow_of h c) ≡ true
  called e = sym flow.call ∙ sym codes.calls ∙ eq-eqb _ _ e

  step_move : (q : Point) → WalkStep h bs path p c q → Move h.landings (flow_of h c) c.word p q ⊎ Special h bs path p c q
  step_move _ (WalkStep.next e) = inl (Move.on (sym (flow.on p.task) ∙ sym (on p.task) ∙ e))
  step_move _ (WalkStep.stay e) = inr (Special.stays e refl)
  step_move _ (WalkStep.jump e) = inl (Move.jump (sym flow.jump ∙ sym codes.jumping ∙ e))
  step_move _ (WalkStep.call e) = inl (Move.call (called e))
  step_move _ (WalkStep.behind e) = inl (Move.behind (called e))
  step_move _ (WalkStep.start u e n) = inl (Move.start u (sym (flow.start u) ∙ sym (begins u) ∙ e))
  step_move _ (WalkStep.own e) = inl (Move.start p.task (sym (flow.start p.task) ∙ sym (begins p.task) ∙ e))
  step_move _ (WalkStep.land a e m) = inl (Move.compute a (sym flow.compute ∙ sym codes.computes ∙ eq-eqb _ _ e) m)
  step_move _ (WalkStep.land_bias a e m) = inl (Move.land bias a (sym (flow.land bias) ∙ sym (lands bias) ∙ ap (λ (t : Bool). t && true) (eq-eqb _ _ e)) m)
  step_move _ (WalkStep.restart a e x s) = inr (Special.restarts a e s refl)

  move_step : (q : Point) → Move h.landings (flow_of h c) c.word p q → WalkStep h bs path p c q
  move_step _ (Move.on e) = WalkStep.next (on p.task ∙ flow.on p.task ∙ e)
  move_step _ (Move.jump e) = WalkStep.jump (codes.jumping ∙ flow.jump ∙ e)
  move_step _ (Move.call e) = WalkStep.call (eqb-true _ _ (codes.calls ∙ flow.call ∙ e))
  move_step _ (Move.behind e) = WalkStep.behind (eqb-true _ _ (codes.calls ∙ flow.call ∙ e))
  move_step _ (Move.start u e) = test (eqb u p.task) (λ i. own (eqb-true u p.task i)) (λ i. WalkStep.start u there (eqb-false u p.task i))
    where
      there : starts c.code u ≡ true
      there = begins u ∙ flow.start u ∙ e

      own : u ≡ p.task → WalkStep h bs path p c (point u c.word 0)
      own i = rw i (WalkStep.own (rw i at there))
  move_step _ (Move.compute a e m) = WalkStep.land a (eqb-true _ _ (codes.computes ∙ flow.compute ∙ e)) m
  move_step _ (Move.land u a e m) =
      let b = both (eqb c.code 0x5B) (eqb u bias) (lands u ∙ flow.land u ∙ e) in
      rw (eqb-true u bias b.1) (WalkStep.land_bias a (eqb-true _ _ b.0) m)

  -- a step leads to a point that follows, stays, or returns to a start
  pub step_follows : (q : Point) → WalkStep h bs path p c q → In q (leads_to h.landings p (flow_of h c)) ⊎ Special h bs path p c q
  step_follows q s = ⊎_elim (λ m. inl (moved h.landings c.word p (flow_of h c) flow.names q m)) (λ k. inr k) (step_move q s)

  pub follow_step : (q : Point) → In q (leads_to h.landings p (flow_of h c)) → WalkStep h bs path p c q
  follow_step q m = move_step q (moves h.landings c.word p (flow_of h c) flow.names q m)

  -- the point that a start names follows
  pub start_follows : (u : ℕ) → starts c.code u ≡ true → In (point u c.word 0) (leads_to h.landings p (flow_of h c))
  start_follows u e = moved h.landings c.word p (flow_of h c) flow.names _ (Move.start u (sym (flow.start u) ∙ sym (begins u) ∙ e))

  -- a command may stay exactly when its flow is a wait
  pub may_stay : waits c.code ≡ wait_f (flow_of h c)
  may_stay = codes.staying ∙ flow.stay
