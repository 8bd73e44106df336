-- The bytes that were read, the line that they have come to, and what was written at the lines that they have ended.
-- Assumes nothing.
use Rattle.std.proofs.Common.{◌≡◌, ℕ, List, ◌++◌, length, drop}
use Rattle.std.specs.Io.KnownBytes.{Appends, Consumes}
use Rattle.text.specs.Lines.{lines_of, known_in}
use Rattle.text.specs.Answers.{answers_from}
use Rattle.text.proofs.answers.answer_lines.Given as goal

abbrev pub invariant-loop : goal.invariant-loop
invariant-loop g l = record {
  room : length l.buffer ≡ 4096;
  bytes : List ℕ;
  read : Consumes (g.R.Read.remaining l.fn.input) (g.R.Read.remaining l.input) bytes;
  line : l.line ≡ known_in (lines_of bytes);
  written : Appends (g.W.Write.contents l.fn.output) (g.W.Write.contents l.output) (answers_from (g.A.Answers.answer_text l.fn.answers) 1 (lines_of bytes).ended);
}

abbrev pub invariant-loop-byte : goal.invariant-loop-byte
invariant-loop-byte g l = record {
  bytes : List ℕ;
  read : Consumes (g.R.Read.remaining l.fn.input) (g.R.Read.remaining l.input) (bytes ++ drop l.byte-index l.byte-items);
  line : l.line ≡ known_in (lines_of bytes);
  written : Appends (g.W.Write.contents l.fn.output) (g.W.Write.contents l.output) (answers_from (g.A.Answers.answer_text l.fn.answers) 1 (lines_of bytes).ended);
}
