-- A result that is no refusal is Ok.
use Rattle.std.specs.Prelude.{Ok, Err}
use mathlib.Core.Path.{◌≡◌, refl, sym}
use mathlib.Core.Bool.{true}
use Rattle.logic.proofs.Choice.{clash}
use Rattle.image_result.specs.ImageResult.{done}
use Rattle.image_result.specs.ImageResult.{ImageResult}

pub is_done : (o : ImageResult) → done o ≡ true → o ≡ Ok tt
is_done (Ok _) e = refl
is_done (Err f) e = clash (sym e)
