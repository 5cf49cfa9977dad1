-- `perform` meets its contract: each arm of the match is the row of its code.
use mathlib.Core.Path.{refl}
use Rattle.limits.specs.Limits.{bias, most_speed, most_ramp}
use Rattle.state.specs.State.{with_speed, with_acceleration, with_deceleration}
use Rattle.machine.specs.Effect.{effect_in}
use Rattle.machine.specs.declared.Outcome.TheVariants.{Jump, Start}
use Rattle.machine.specs.declared.Request.TheVariants.{MoveTo, MoveBy, Forward, Backward}
use Rattle.exec_dispatch.proofs.Found.{found, missed, found_move, found_parameter, found_wait, found_quotient, found_landing}
use Rattle.exec_dispatch.proofs.perform.Goals as goal

pub returns-in-0 : goal.returns-in-0
unfolding effect_in
returns-in-0 c = found_move _ _ _ _ _ MoveTo c.in-0.is c.move_to.ensures refl

pub returns-in-1 : goal.returns-in-1
unfolding effect_in
returns-in-1 c = found_move _ _ _ _ _ MoveBy c.in-1.is c.move_by.ensures refl

pub returns-in-3 : goal.returns-in-3
unfolding effect_in
returns-in-3 c = found_move _ _ _ _ _ Forward c.in-3.is c.forward.ensures refl

pub returns-in-4 : goal.returns-in-4
unfolding effect_in
returns-in-4 c = found_move _ _ _ _ _ Backward c.in-4.is c.backward.ensures refl

pub returns-in-14 : goal.returns-in-14
unfolding effect_in
returns-in-14 c = found _ _ _ _ _ c.in-14.is c.set_mark.ensures refl

pub returns-in-15 : goal.returns-in-15
unfolding effect_in
returns-in-15 c = found _ _ _ _ _ c.in-15.is c.stop.ensures refl

pub returns-in-31 : goal.returns-in-31
unfolding effect_in
returns-in-31 c = found _ _ _ _ _ c.in-31.is c.stop_by.ensures refl

pub returns-in-32 : goal.returns-in-32
unfolding effect_in
returns-in-32 c = found _ _ _ _ _ c.in-32.is c.set_position.ensures refl

pub returns-in-33 : goal.returns-in-33
unfolding effect_in
returns-in-33 c = found _ _ _ _ _ c.in-33.is c.set_speed.ensures refl

pub returns-in-34 : goal.returns-in-34
unfolding effect_in
returns-in-34 c = found _ _ _ _ _ c.in-34.is c.set_acceleration.ensures refl

pub returns-in-35 : goal.returns-in-35
unfolding effect_in
returns-in-35 c = found _ _ _ _ _ c.in-35.is c.set_deceleration.ensures refl

pub returns-in-48 : goal.returns-in-48
unfolding effect_in
returns-in-48 c = found _ _ _ _ _ c.in-48.is c.load_position.ensures refl

pub returns-in-49 : goal.returns-in-49
unfolding effect_in
returns-in-49 c = found_parameter _ _ _ _ _ most_speed with_speed c.in-49.is c.load_speed.ensures refl

pub returns-in-50 : goal.returns-in-50
unfolding effect_in
returns-in-50 c = found_parameter _ _ _ _ _ most_ramp with_acceleration c.in-50.is c.load_acceleration.ensures refl

pub returns-in-51 : goal.returns-in-51
unfolding effect_in
returns-in-51 c = found_parameter _ _ _ _ _ most_ramp with_deceleration c.in-51.is c.load_deceleration.ensures refl

pub returns-in-64 : goal.returns-in-64
unfolding effect_in
returns-in-64 c = found _ _ _ _ _ c.in-64.is c.store_position.ensures refl

pub returns-in-65 : goal.returns-in-65
unfolding effect_in
returns-in-65 c = found _ _ _ _ _ c.in-65.is c.store_speed.ensures refl

pub returns-in-66 : goal.returns-in-66
unfolding effect_in
returns-in-66 c = found _ _ _ _ _ c.in-66.is c.store_acceleration.ensures refl

pub returns-in-67 : goal.returns-in-67
unfolding effect_in
returns-in-67 c = found _ _ _ _ _ c.in-67.is c.store_deceleration.ensures refl

pub returns-in-80 : goal.returns-in-80
unfolding effect_in
returns-in-80 c = found _ _ _ _ _ c.in-80.is c.flows.ensures refl

pub returns-in-81 : goal.returns-in-81
unfolding effect_in
returns-in-81 c = found _ _ _ _ _ c.in-81.is c.end.ensures refl

pub returns-in-82 : goal.returns-in-82
unfolding effect_in
returns-in-82 c = found _ _ _ _ _ c.in-82.is c.call.ensures refl

pub returns-in-83 : goal.returns-in-83
unfolding effect_in
returns-in-83 c = found _ _ _ _ _ c.in-83.is c.come_back.ensures refl

pub returns-in-84 : goal.returns-in-84
unfolding effect_in
returns-in-84 c = found _ _ _ _ _ c.in-84.is c.start_plc.ensures refl

pub returns-in-85 : goal.returns-in-85
unfolding effect_in
returns-in-85 c = found _ _ _ _ _ c.in-85.is c.jump.ensures refl

pub returns-in-86 : goal.returns-in-86
unfolding effect_in
returns-in-86 c = found_landing _ _ _ _ _ Jump c.in-86.is c.jump_to_landing.ensures refl

pub returns-in-87 : goal.returns-in-87
unfolding effect_in
returns-in-87 c = found _ _ _ _ _ c.in-87.is c.start_bias.ensures refl

pub returns-in-88 : goal.returns-in-88
unfolding effect_in
returns-in-88 c = found _ _ _ _ _ c.in-88.is c.wait_for_position.ensures refl

pub returns-in-89 : goal.returns-in-89
unfolding effect_in
returns-in-89 c = found _ _ _ _ _ c.in-89.is c.wait.ensures refl

pub returns-in-90 : goal.returns-in-90
unfolding effect_in
returns-in-90 c = found_wait _ _ _ _ _ c.in-90.is c.wait_by_variable.ensures refl

pub returns-in-91 : goal.returns-in-91
unfolding effect_in
returns-in-91 c = found_landing _ _ _ _ _ (Start bias) c.in-91.is c.start_bias_at_landing.ensures refl

pub returns-in-96 : goal.returns-in-96
unfolding effect_in
returns-in-96 c = found _ _ _ _ _ c.in-96.is c.set_flag.ensures refl

pub returns-in-97 : goal.returns-in-97
unfolding effect_in
returns-in-97 c = found _ _ _ _ _ c.in-97.is c.jump_by_flag.ensures refl

pub returns-in-98 : goal.returns-in-98
unfolding effect_in
returns-in-98 c = found _ _ _ _ _ c.in-98.is c.copy_flag.ensures refl

pub returns-in-99 : goal.returns-in-99
unfolding effect_in
returns-in-99 c = found _ _ _ _ _ c.in-99.is c.flag_from_input.ensures refl

pub returns-in-100 : goal.returns-in-100
unfolding effect_in
returns-in-100 c = found _ _ _ _ _ c.in-100.is c.flag_from_output.ensures refl

pub returns-in-101 : goal.returns-in-101
unfolding effect_in
returns-in-101 c = found _ _ _ _ _ c.in-101.is c.and_flags.ensures refl

pub returns-in-102 : goal.returns-in-102
unfolding effect_in
returns-in-102 c = found _ _ _ _ _ c.in-102.is c.or_flags.ensures refl

pub returns-in-103 : goal.returns-in-103
unfolding effect_in
returns-in-103 c = found _ _ _ _ _ c.in-103.is c.xor_flags.ensures refl

pub returns-in-104 : goal.returns-in-104
unfolding effect_in
returns-in-104 c = found _ _ _ _ _ c.in-104.is c.not_flag.ensures refl

pub returns-in-110 : goal.returns-in-110
unfolding effect_in
returns-in-110 c = found _ _ _ _ _ c.in-110.is c.jump_by_bit.ensures refl

pub returns-in-112 : goal.returns-in-112
unfolding effect_in
returns-in-112 c = found _ _ _ _ _ c.in-112.is c.jump_by_input.ensures refl

pub returns-in-113 : goal.returns-in-113
unfolding effect_in
returns-in-113 c = found _ _ _ _ _ c.in-113.is c.jump_by_output.ensures refl

pub returns-in-114 : goal.returns-in-114
unfolding effect_in
returns-in-114 c = found _ _ _ _ _ c.in-114.is c.set_output.ensures refl

pub returns-in-115 : goal.returns-in-115
unfolding effect_in
returns-in-115 c = found _ _ _ _ _ c.in-115.is c.output_from_flag.ensures refl

pub returns-in-128 : goal.returns-in-128
unfolding effect_in
returns-in-128 c = found _ _ _ _ _ c.in-128.is c.set_variable.ensures refl

pub returns-in-129 : goal.returns-in-129
unfolding effect_in
returns-in-129 c = found _ _ _ _ _ c.in-129.is c.jump_by_value.ensures refl

pub returns-in-130 : goal.returns-in-130
unfolding effect_in
returns-in-130 c = found _ _ _ _ _ c.in-130.is c.add_value.ensures refl

pub returns-in-131 : goal.returns-in-131
unfolding effect_in
returns-in-131 c = found _ _ _ _ _ c.in-131.is c.sub_value.ensures refl

pub returns-in-132 : goal.returns-in-132
unfolding effect_in
returns-in-132 c = found _ _ _ _ _ c.in-132.is c.mul_value.ensures refl

pub returns-in-133 : goal.returns-in-133
unfolding effect_in
returns-in-133 c = found_quotient _ _ _ _ _ _ c.in-133.is c.div_value.ensures refl

pub returns-in-134 : goal.returns-in-134
unfolding effect_in
returns-in-134 c = found _ _ _ _ _ c.in-134.is c.flags_as_number.ensures refl

pub returns-in-136 : goal.returns-in-136
unfolding effect_in
returns-in-136 c = found _ _ _ _ _ c.in-136.is c.copy_variable.ensures refl

pub returns-in-137 : goal.returns-in-137
unfolding effect_in
returns-in-137 c = found _ _ _ _ _ c.in-137.is c.jump_by_variable.ensures refl

pub returns-in-138 : goal.returns-in-138
unfolding effect_in
returns-in-138 c = found _ _ _ _ _ c.in-138.is c.add_variable.ensures refl

pub returns-in-139 : goal.returns-in-139
unfolding effect_in
returns-in-139 c = found _ _ _ _ _ c.in-139.is c.sub_variable.ensures refl

pub returns-in-140 : goal.returns-in-140
unfolding effect_in
returns-in-140 c = found _ _ _ _ _ c.in-140.is c.mul_variable.ensures refl

pub returns-in-141 : goal.returns-in-141
unfolding effect_in
returns-in-141 c = found_quotient _ _ _ _ _ _ c.in-141.is c.div_variable.ensures refl

pub returns-in-144 : goal.returns-in-144
unfolding effect_in
returns-in-144 c = found _ _ _ _ _ c.in-144.is c.start_mathematics.ensures refl

pub returns-in_default : goal.returns-in_default
unfolding effect_in
returns-in_default c = missed _ _ _ _ _ c.in_default.in_default-own.rest c.flows-in_default.ensures refl
