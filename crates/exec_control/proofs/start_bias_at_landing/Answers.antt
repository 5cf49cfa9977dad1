-- `start_bias_at_landing` meets its contract: the task goes to the landing block that was found.
use Rattle.std.proofs.Common.{rules}
use Rattle.limits.specs.Limits.{bias}
use Rattle.machine.specs.declared.Outcome.TheVariants.{Start}
use Rattle.exec_action.proofs.Landings.{landing_done}
use Rattle.exec_control.proofs.start_bias_at_landing.Goals as goal

pub returns : goal.returns
returns c = landing_done (Start bias) c.args.landings.now c.flows.ensures (search rules) c.find_landing-found.ensures (search rules)
