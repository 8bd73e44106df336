-- What is kept of a line tells whether it is a word, and which. Assumes nothing.
use Rattle.std.proofs.Common.{◌≡◌, ℕ, List, length, take, Result, sym, ap, ◌∙◌, inl, inr, arith}
use Rattle.std.proofs.lemmas.List.{take_all, length-take-le}
use Rattle.std.proofs.lemmas.Bool.{cases_lt}
use Rattle.text.specs.Texts.{word_in}
use Rattle.text.proofs.Digits.{too_long}
use Rattle.words.specs.declared.answer.Word.{Word}
use Rattle.words.specs.declared.answer.NotAWord.{NotAWord}
use Rattle.words.specs.Answers.{answer_for, answered}

word_kept : (bs : List ℕ) → word_in (take 33 bs) ≡ word_in bs
word_kept bs =
    elim (cases_lt 33 (length bs)) [
      | inl h ↦
          let n : length (take 33 bs) ≡ 33 = length-take-le 33 bs (omega arith) in
          too_long (take 33 bs) (omega arith) ∙ sym (too_long bs (omega arith))
      | inr h ↦ ap word_in (take_all 33 bs h)
    ]

-- the answer by what was read of the text that is kept
pub by_kept : (n : ℕ) (kept : List ℕ) (a : Result Word NotAWord) → a ≡ answered n kept → (text : List ℕ) → kept ≡ take 33 text → a ≡ answered n text
by_kept n kept a e text k = e ∙ ap (answered n) k ∙ ap (answer_for n) (word_kept text)
