-- `block_fits` meets its contract: both tests are of the instruction that was read.
use mathlib.Core.Path.{ap, ap₂, ◌∙◌}
use mathlib.Core.Bool.{◌&&◌}
use lib.Dec.{eqb}
use Rattle.command_judge.specs.BlockFault.{BlockResult, block_fault_number}
use Rattle.command_judge.proofs.Numbers.{block_passes}
use Rattle.walk_fault.specs.Fault.{FaultResult, fault_number}
use Rattle.walk_fault.proofs.NoFault.{point_passes}
use Rattle.exec_step.proofs.StepCases.{laid, coded, judged}
use Rattle.exec_step.proofs.block_fits.Goals as goal

pub judge_read-by_itself-requires : goal.judge_read-by_itself-requires
judge_read-by_itself-requires c = laid c.args.i c.args.block c.requires

pub fault-there-requires : goal.fault-there-requires
fault-there-requires c = coded c.args.i c.args.block c.requires

pub returns : goal.returns
returns c =
    ap₂ ◌&&◌
    (c.is_ok.ensures.value ∙ block_passes _
    ∙ ap (λ (r : BlockResult). eqb (block_fault_number r) 0) (c.judge_read-by_itself.ensures ∙ judged c.args.i c.args.block c.requires c.args.header))
    (c.is_ok-2.ensures.value ∙ point_passes _ ∙ ap (λ (r : FaultResult). eqb (fault_number r) 0) c.fault-there.ensures)
