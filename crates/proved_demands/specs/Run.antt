-- Runs on buffers: a list of steps, each given the buffer that the one before it left, with the image unchanged. They are folds of the very names
-- that stand in the promises of `bias_load` and `bias_step`.
use Rattle.std.specs.Prelude.{ℕ, List, [], ◌∷◌}
use Rattle.machine.specs.Inputs.{Inputs}
use Rattle.machine.specs.Reference.{Machine, reference_step}
use Rattle.bias_results.specs.Results.{answer_for}
use Rattle.bias_results.specs.declared.BiasAnswer.{BiasAnswer}
use Rattle.bias.specs.Step.{stepped}

-- what the steps answer, and the buffer after them
unfoldable pub answers : List ℕ → List ℕ → List Inputs → List BiasAnswer
answers image b [] = []
answers image b (x ∷ xs) = (stepped image b x).answer ∷ answers image (stepped image b x).buffer xs

unfoldable pub buffer_after : List ℕ → List ℕ → List Inputs → List ℕ
buffer_after image b [] = b
buffer_after image b (x ∷ xs) = buffer_after image (stepped image b x).buffer xs

-- what the reference machine answers, as C would be handed it
unfoldable pub reference_answers : List ℕ → Machine → List Inputs → List BiasAnswer
reference_answers image m [] = []
reference_answers image m (x ∷ xs) = answer_for (reference_step image m x).request (reference_step image m x).answer
    ∷ reference_answers image (reference_step image m x).machine xs
