-- There is room for the line.
use Rattle.text.proofs.Joined.{is_text}
use Rattle.text_verdict.proofs.line_of.Goals as goal

pub returns : goal.returns
returns c =
    let p = c.put_line-length.ensures in
    record { counts = p.put.counts; is = is_text p.put p.fits }
