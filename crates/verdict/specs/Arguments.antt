-- What the verdict program is asked for.
use Rattle.std.specs.Prelude.{ℕ, cond, ltb}
use Rattle.verdict.specs.declared.Purpose.{Purpose}
use Rattle.verdict.specs.declared.Purpose.TheVariants.{Judge, Usage}

-- by how many arguments there are, the first of which is the program's own name: any behind it asks how the program is used
abbrev pub purpose_of : ℕ → Purpose
purpose_of arguments = cond (ltb 1 arguments) Usage Judge
