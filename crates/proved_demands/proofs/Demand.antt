-- Demand 3, whole.
use Rattle.proved_demands.specs.Theorem.{Demand}
use Rattle.proved_demands.proofs.Loads.{load_of, refused_exactly}
use Rattle.proved_demands.proofs.Runs.{every_run}

pub demand : Demand
demand = record { runs = every_run; loads = load_of; exactly = refused_exactly }
