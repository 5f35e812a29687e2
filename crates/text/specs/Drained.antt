-- What is printed of a sheet that was drained, or of its refusal. A definition alone.
use Rattle.std.specs.Prelude.{List, ℕ, Result, Ok, Err, ◌++◌}
use Rattle.refusals.specs.declared.Refusal.{Refusal}
use Rattle.refusals.specs.Numbers.{number}
use Rattle.lines.specs.Lines.{heading, refusal}
use Rattle.text.specs.Text.{routes}
use Rattle.text.specs.declared.Drained.{Drained}

abbrev pub text_of : Result Drained Refusal → List ℕ
text_of (Ok d) = heading d.sheet.boxes d.sheet.links d.moved ++ routes d.board d.sheet.boxes
text_of (Err e) = refusal (number e)
