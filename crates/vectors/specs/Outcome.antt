-- What comes of a header that was read.
use Rattle.std.specs.Prelude.{Result, Ok, Err}
use Rattle.image_result.specs.ImageResult.{ImageResult}
use Rattle.image_result.specs.declared.ImageFault.{ImageFault}
use Rattle.image_header.specs.declared.reader.HeaderRead.{HeaderRead}

abbrev pub outcome : Result HeaderRead ImageFault → ImageResult
outcome (Ok _) = Ok tt
outcome (Err f) = Err f
