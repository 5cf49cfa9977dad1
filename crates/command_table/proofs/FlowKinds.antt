-- Kinds of flow by a number of each, so that a law over the rows can test for one.
use Prim.Native.Nat.{ℕ}
use mathlib.Core.Path.{◌≡◌, refl, sym, ap, ◌∙◌}
use mathlib.Core.Bool.{Bool, true, false, ◌||◌}
use mathlib.Core.List.{List, [], ◌∷◌}
use lib.Dec.{eqb}
use lib.ListN.{get_or}
use borrow.Author.Tests.{eqb-true}
use Rattle.command_table.specs.declared.FlowKind.{FlowKind}
use Rattle.command_table.specs.declared.FlowKind.TheVariants.{Nothing, Next, Wait, Jump, Branch, Call, Return, StartBias, StartPlc, StartMathematics}
use Rattle.command_table.specs.declared.FlowKind.TheVariants.{Ending, ComputedJump, ComputedStartBias}

abbrev kinds : List FlowKind
kinds = Nothing ∷ Next ∷ Wait ∷ Jump ∷ Branch ∷ Call ∷ Return ∷ StartBias ∷ StartPlc ∷ StartMathematics ∷ Ending ∷ ComputedJump ∷ ComputedStartBias ∷ []

abbrev number : FlowKind → ℕ
number Nothing = 0
number Next = 1
number Wait = 2
number Jump = 3
number Branch = 4
number Call = 5
number Return = 6
number StartBias = 7
number StartPlc = 8
number StartMathematics = 9
number Ending = 10
number ComputedJump = 11
number ComputedStartBias = 12

back : (k : FlowKind) → get_or kinds (number k) Nothing ≡ k
back Nothing = refl
back Next = refl
back Wait = refl
back Jump = refl
back Branch = refl
back Call = refl
back Return = refl
back StartBias = refl
back StartPlc = refl
back StartMathematics = refl
back Ending = refl
back ComputedJump = refl
back ComputedStartBias = refl

-- the same kind, as a test
abbrev pub is : FlowKind → FlowKind → Bool
is k j = eqb (number k) (number j)

abbrev pub is_one_of : List FlowKind → FlowKind → Bool
is_one_of [] k = false
is_one_of (j ∷ js) k = is k j || is_one_of js k

pub is_true : (k j : FlowKind) → is k j ≡ true → k ≡ j
is_true k j e = sym (back k) ∙ ap (λ (n : ℕ). get_or kinds n Nothing) (eqb-true (number k) (number j) e) ∙ back j
