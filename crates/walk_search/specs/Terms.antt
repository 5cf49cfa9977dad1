-- What a program is judged under: its header and its landing blocks.
use Rattle.std.specs.Prelude.{ℕ, List}
use Rattle.image_header.specs.declared.Header.{Header}
use Rattle.walk_flow.specs.Terms.{Terms}

abbrev pub terms : Header → List ℕ → Terms
terms h landings = record { header = h; landings = landings }
