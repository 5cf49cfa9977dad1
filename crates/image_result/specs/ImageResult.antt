-- Document 01's number and place for each result: "Refused because of the input".
use Rattle.std.specs.Prelude.{ℕ, Bool, is_ok, Result, Ok, Err}
use Rattle.image_result.specs.declared.ImageFault.{ImageFault}
use Rattle.image_result.specs.declared.ImageFault.TheVariants.{EndsEarly, NotShortest, OutOfRange, LeftOver, NoRoom, BadLanding}

-- what reading or writing an image comes to
abbrev pub ImageResult : Type 0
ImageResult = Result (Unit {0}) ImageFault

abbrev pub result_number : ImageResult → ℕ
result_number (Ok _) = 0
result_number (Err (EndsEarly p)) = 1
result_number (Err (NotShortest p)) = 2
result_number (Err (OutOfRange p)) = 3
result_number (Err (LeftOver p)) = 4
result_number (Err (NoRoom p)) = 14
result_number (Err (BadLanding p)) = 21

abbrev pub result_place : ImageResult → ℕ
result_place (Ok _) = 0
result_place (Err (EndsEarly p)) = p
result_place (Err (NotShortest p)) = p
result_place (Err (OutOfRange p)) = p
result_place (Err (LeftOver p)) = p
result_place (Err (NoRoom p)) = p
result_place (Err (BadLanding p)) = p

-- no refusal
abbrev pub done : ImageResult → Bool
done r = is_ok r
