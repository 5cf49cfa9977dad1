-- Two parts are compared.
use Rattle.std.proofs.Common.{arith}
use Rattle.text_step.proofs.Parts.{parts_same}
use Rattle.text_step.proofs.Buffers.same.Goals as goal

pub returns : goal.returns
returns c =
    let a = c.args in
    parts_same a.self.now.before.now a.self.now.after.now a.at _ a.width _ (omega arith) (omega arith) (omega arith) c.eq.ensures
