-- The sixteen refusals: the number and the layer of each. Assumes nothing.
use Rattle.std.specs.Prelude.{ℕ}
use Rattle.refusals.specs.declared.Layer.{Layer}
use Rattle.refusals.specs.declared.Layer.TheVariants.{Numbers, Source, Divider, Card, Sheet}
use Rattle.refusals.specs.declared.Refusal.{Refusal}
use Rattle.refusals.specs.declared.Refusal.TheVariants.{SheetTooLong, AnswerSpaceShort, LineLength, UnknownLetter, NotANumber, CoefficientTooLarge, ExponentOutOfRange, RoundOutOfRange, UnknownMode, UnknownStep, ClaimUnderNine, DivisorNotSevenDigits, OperandNotFinite, ZeroDivisor, CardFull, QuotientTooLarge}
use Rattle.refusals.specs.declared.Fault.{Fault}

abbrev pub layer_number : Layer → ℕ
layer_number Numbers = 1
layer_number Source = 2
layer_number Divider = 3
layer_number Card = 4
layer_number Sheet = 5

abbrev pub refusal_number : Refusal → ℕ
refusal_number SheetTooLong = 1
refusal_number AnswerSpaceShort = 2
refusal_number LineLength = 3
refusal_number UnknownLetter = 4
refusal_number NotANumber = 5
refusal_number CoefficientTooLarge = 6
refusal_number ExponentOutOfRange = 7
refusal_number RoundOutOfRange = 8
refusal_number UnknownMode = 9
refusal_number UnknownStep = 10
refusal_number ClaimUnderNine = 11
refusal_number DivisorNotSevenDigits = 12
refusal_number OperandNotFinite = 13
refusal_number ZeroDivisor = 14
refusal_number CardFull = 15
refusal_number QuotientTooLarge = 16

abbrev pub refusal_layer : Refusal → Layer
refusal_layer SheetTooLong = Sheet
refusal_layer AnswerSpaceShort = Sheet
refusal_layer LineLength = Sheet
refusal_layer UnknownLetter = Sheet
refusal_layer NotANumber = Sheet
refusal_layer CoefficientTooLarge = Numbers
refusal_layer ExponentOutOfRange = Numbers
refusal_layer RoundOutOfRange = Numbers
refusal_layer UnknownMode = Card
refusal_layer UnknownStep = Card
refusal_layer ClaimUnderNine = Divider
refusal_layer DivisorNotSevenDigits = Source
refusal_layer OperandNotFinite = Divider
refusal_layer ZeroDivisor = Divider
refusal_layer CardFull = Card
refusal_layer QuotientTooLarge = Card

-- a refusal of a call that has no columns and no records
abbrev pub at_no_place : Refusal → Fault
at_no_place r = record { refusal = r; place = 0 }
