-- `find_landing` meets its contract: a test of two numbers is the test of their bits.
use Rattle.std.proofs.Common.{rules, tests, pos, sym, ◌∙◌}
use Rattle.std.proofs.lemmas.Iterator.{YieldsList-from_slice}
use Rattle.std.proofs.lemmas.Iterator.Adapters.{option_map_id}
use Rattle.std.proofs.lemmas.Iterator.Consumers.{YieldsList-from_copied}
use Rattle.std.proofs.lemmas.Iterator.Search.{find_from_yields_List}
use Rattle.num_arith.proofs.Comparisons.{same_bits}
use Rattle.num_arith.specs.Ops.{eq_z}
use Rattle.exec_action.specs.Action.{landing_of}
use Rattle.exec_action.proofs.find_landing.Goals as goal

pub returns : goal.returns
unfolding landing_of
returns c =
    sym (option_map_id c.find.result)
    ∙ find_from_yields_List (λ a. eq_z c.args.content (pos a)) _ _ _ c.find.ensures.ran
    (YieldsList-from_copied (YieldsList-from_slice c.args.landings.now cc))
    (λ x b q k. search (rules, tests, same_bits))
