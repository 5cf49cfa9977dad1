-- `jump_to_landing` meets its contract: the task goes to the landing block that was found.
use Rattle.std.proofs.Common.{rules}
use Rattle.machine.specs.declared.Outcome.TheVariants.{Jump}
use Rattle.exec_action.proofs.Landings.{landing_done}
use Rattle.exec_control.proofs.jump_to_landing.Goals as goal

pub returns : goal.returns
returns c = landing_done Jump c.args.landings.now c.flows.ensures (search rules) c.find_landing-found.ensures (search rules)
