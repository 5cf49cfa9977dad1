-- A digit more stands before those put.
use Rattle.std.proofs.Common.{rules, sym, ◌∙◌, arith}
use Rattle.text.proofs.Digits.{room_left, one_more, first}
use Rattle.text.proofs.put_digits.Goals as goal

pub loop-rest-preserved : goal.loop-rest-preserved
loop-rest-preserved c =
    let v = c.loop-rest in
    let left = room_left v.rest v.at c.loop-rest-test.true v.invariant.few in record {
      same_length = search rules;
      room = (omega arith, omega arith);
      few = left.1;
      holds = v.invariant.holds ∙ one_more v.digits v.at v.invariant.room.0 (omega arith) v.rest c.loop-rest-test.true;
    }

pub returns-clause-digits_after : goal.returns-clause-digits_after
returns-clause-digits_after c =
    let v = c.loop-rest in
    sym (v.invariant.holds ∙ first v.digits v.at v.invariant.room.0 (omega arith) v.rest (omega arith))
