-- The limits by the papers' own numbers, which stand here, in the reference machine and in the table of cases.
use Rattle.std.specs.Prelude.{◌≡◌}
use Rattle.limits.specs.Limits as limits
use Rattle.image_header.specs.Longest.{longest_image}

pub record LimitsAre : Type 0 where
  -- document 01, "Walks": 0 BIAS, 1 PLC, 2 mathematics; 15 above 2
  pub bias : limits.bias ≡ 0
  pub plc : limits.plc ≡ 1
  pub mathematics : limits.mathematics ≡ 2
  pub tasks : limits.task_count ≡ 3
  -- document 01, "The image": up to 1500 blocks; "Refused because of the input": 8 bytes each
  pub blocks : limits.most_blocks ≡ 1500
  pub block : limits.block_length ≡ 8
  -- change request 1: a landing count of 0 to 64
  pub landings : limits.most_landings ≡ 64
  -- change request 6: 5 in place of document 01's 8
  pub depth : limits.most_depth ≡ 5
  -- document 01, "Running": 256 variables, flags and outputs; 000, the pages of 60 and 72: levels 0 and 1
  pub cells : limits.cells ≡ 256
  pub level : limits.most_level ≡ 1
  -- 000, the page of 86; document 01, "The commands carried", and 000, the pages of 21 to 23: speed and ramps
  pub run : limits.most_run ≡ 32
  pub speed : limits.most_speed ≡ 12000
  pub ramp : limits.most_ramp ≡ 64000
  -- 000, the pages of 59 and 5A: twice the word, in ms
  pub time : limits.most_time ≡ 65535
  pub wait : limits.longest_wait ≡ 131070
  -- 13, by change request 6: three tasks, 1500 blocks, depths 0 to 5; document 01, "Running": the stretch, the input levels
  pub marks : limits.marks_length ≡ 27000
  pub state : limits.state_length ≡ 2048
  pub inputs : limits.inputs_length ≡ 256
  -- include/bias.h, BIAS_MOST_IMAGE_LENGTH: header of 4 + 2 + 2 + 1 + 128 bytes, 1500 blocks
  pub image : longest_image ≡ 12137
