-- `walk` meets its contract: what holds all through a search holds at each turn, and less is left to be handed on.
use native.Mathlib.Omega.{arith}
use Rattle.walk_search.specs.Program.{terms_of}
use Rattle.walk_search.specs.Search.{board}
use Rattle.walk_search.proofs.Ends.{begun, running_after, less_after, found_is, searched}
use Rattle.walk_search.proofs.search.walk.Goals as goal

pub loop-found-init : goal.loop-found-init
loop-found-init c = let p = c.args.program.now in rw c.requires (begun (terms_of p) p.blocks.now p.bounds)

pub loop-found-smaller : goal.loop-found-smaller
loop-found-smaller c =
    let v = c.loop-found in
    let p = c.args.program.now in
    less_after (terms_of p) p.blocks.now p.bounds (board v.marks v.landed v.found) v.invariant c.loop-found-test.true _ c.visit-found.ensures

pub loop-found-preserved : goal.loop-found-preserved
loop-found-preserved c =
    let v = c.loop-found in
    let p = c.args.program.now in
    running_after (terms_of p) p.blocks.now p.bounds (board v.marks v.landed v.found) v.invariant c.loop-found-test.true _ c.visit-found.ensures

pub returns-clause-value : goal.returns-clause-value
returns-clause-value c =
    let v = c.loop-found in
    let p = c.args.program.now in
    found_is (terms_of p) p.blocks.now p.bounds (board v.marks v.landed v.found) v.invariant (omega arith)

pub returns-clause-searched : goal.returns-clause-searched
returns-clause-searched c =
    let v = c.loop-found in
    let p = c.args.program.now in
    searched (terms_of p) p.blocks.now p.bounds (board v.marks v.landed v.found) v.invariant (omega arith)
