-- `image_header::reader::place_of_landing` meets its contract: after j turns the bytes of the first j landing blocks are counted behind the header's.
use mathlib.Core.Path.{◌≡◌, ap, ◌∙◌}
use Prim.Native.Nat.{ℕ, ◌+◌}
use native.Mathlib.Omega.{arith}
use native.Mathlib.Numerals.{add-one}
use lib.ListN.{length, get_or}
use lib.Seq.{get_or-take, length-take-le}
use Rattle.image_number.specs.Number.{number_bytes}
use Rattle.image_number.proofs.Numbers.{size_most}
use Rattle.image_header.proofs.Beside.{landing_bytes, landing_place}
use Rattle.image_header.proofs.reader.place_of_landing.Goals as goal

pub loop-block-init : goal.loop-block-init
unfolding landing_bytes
loop-block-init c = (omega arith, omega arith)

pub overflow_add-at : goal.overflow_add-at
overflow_add-at c =
    let i = c.loop-block.invariant in
    let p = c.place_of-at.ensures.1 in
    let s = c.size-at.ensures in
    let m = size_most c.from.result in
    let r = c.requires.0 in
    let t = c.loop-block-test.true in
    let l = length-take-le c.args.i c.args.landings.now (omega arith) in
    omega arith

pub loop-block-preserved : goal.loop-block-preserved
unfolding landing_bytes
loop-block-preserved c =
    let j = c.loop-block.block-index in
    let l = c.args.landings.now in
    let t = c.loop-block-test.true in
    let r = c.requires.0 in
    let k = length-take-le c.args.i l (omega arith) in
    let s = c.size-at.ensures ∙ ap (λ (v : ℕ). length (number_bytes v)) (c.from.ensures ∙ get_or-take c.args.i l j 0 (omega arith)) in
    let m = size_most (get_or l j 0) in
    let i = c.loop-block.invariant in
    (rw (add-one j) (omega arith), rw (add-one j) (omega arith))

pub returns : goal.returns
returns c =
    let l = c.loop-block in
    let a = c.args in
    let i = l.invariant in
    let p = c.place_of-at.ensures in
    let r = c.requires.0 in
    let f = c.loop-block-test.false in
    let k = length-take-le a.i a.landings.now (omega arith) in
    let e : l.block-index ≡ a.i = omega arith in
    let q = landing_place a.n c.well_formed.0.1.0.1 a.landings.now a.i c.requires.1 in
    let b : l.at ≡ c.place_of-at.result + landing_bytes a.landings.now a.i = rw e at i.0 in
    omega arith
