-- What a program is judged under.
use Rattle.walk_flow.specs.Terms.{Terms}
use Rattle.walk_search.specs.Terms.{terms}
use Rattle.walk_search.specs.declared.program.Program.{Program}

abbrev pub terms_of : Program → Terms
terms_of program = terms program.header program.landings.now
