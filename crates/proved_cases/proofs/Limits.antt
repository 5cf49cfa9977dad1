-- Each limit is the papers' number.
use mathlib.Core.Path.{refl}
use Rattle.proved_cases.specs.Limits.{LimitsAre}

pub limits_are : LimitsAre
limits_are = record {
  bias = refl;
  plc = refl;
  mathematics = refl;
  tasks = refl;
  blocks = refl;
  block = refl;
  landings = refl;
  depth = refl;
  cells = refl;
  level = refl;
  run = refl;
  speed = refl;
  ramp = refl;
  time = refl;
  wait = refl;
  marks = refl;
  state = refl;
  inputs = refl;
  image = refl;
}
