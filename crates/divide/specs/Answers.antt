-- What `divide` answers to a line. Assumes nothing.
use Rattle.std.specs.Prelude.{ℕ, List, ◌++◌, Ok, Err, codes, decimal, Result}
use Rattle.refusals.specs.declared.Fault.{Fault}
use Rattle.refusals.specs.Refusals.{refusal_number}
use Rattle.rounding.specs.declared.mode.Mode.{Mode}
use Rattle.rounding.specs.Flags.{flags_number}
use Rattle.rounding.specs.Modes.{mode_numbered}
use Rattle.divider.specs.declared.outcome.QuotientWord.{QuotientWord}
use Rattle.divider.specs.Divisions.{word_division}
use Rattle.text.specs.Texts.{word_text}
use Rattle.divide.specs.declared.request.Request.{Request}
use Rattle.divide.specs.declared.request.Defect.{Defect}
use Rattle.divide.specs.declared.request.Defect.TheVariants.{Mode as ModeDefect, Dividend, Divisor}
use Rattle.divide.specs.declared.answer.Quotient.{Quotient}
use Rattle.divide.specs.declared.answer.Problem.{Problem}
use Rattle.divide.specs.declared.answer.Problem.TheVariants.{Refused, Malformed}
use Rattle.divide.specs.Requests.{request_in}

-- a refusal, at whatever place
abbrev pub refused : Fault → Problem
refused f = Refused f.refusal

abbrev pub division_answer : Result QuotientWord Fault → Result Quotient Problem
division_answer (Ok q) = Ok (record { 0 = q })
division_answer (Err f) = Err (refused f)

-- the mode is judged before the source
abbrev pub mode_answer : ℕ → Request → Result Mode Fault → Result Quotient Problem
mode_answer claim r (Ok mode) = division_answer (word_division claim mode r.pair.dividend r.pair.divisor)
mode_answer claim r (Err f) = Err (refused f)

abbrev pub request_answer : ℕ → ℕ → Result Request Defect → Result Quotient Problem
request_answer claim n (Ok r) = mode_answer claim r (mode_numbered r.mode)
request_answer claim n (Err d) = Err (Malformed n d)

-- the answer to the line of this number and text, over a source with this claim
abbrev pub answered : ℕ → ℕ → List ℕ → Result Quotient Problem
answered claim n text = request_answer claim n (request_in text)

abbrev pub defect_text : Defect → List ℕ
defect_text ModeDefect = codes "the mode is not one to nine digits"
defect_text Dividend = codes "the dividend is not eight hexadecimal digits followed by a blank"
defect_text Divisor = codes "the divisor is not eight hexadecimal digits at the end of the line"

-- the quotient's word and its flags
abbrev pub quotient_text : QuotientWord → List ℕ
quotient_text q = word_text q.word ++ (codes " " ++ decimal (flags_number q.flags))

-- the number of a refusal, or what is wrong with which line
abbrev pub problem_text : Problem → List ℕ
problem_text (Refused r) = codes "R " ++ decimal (refusal_number r)
problem_text (Malformed n d) = codes "? line " ++ (decimal n ++ (codes ": " ++ defect_text d))

abbrev pub answer_text : Result Quotient Problem → List ℕ
answer_text (Ok q) = quotient_text q.0
answer_text (Err p) = problem_text p
