-- What `words` answers to a line. Assumes nothing.
use Rattle.std.specs.Prelude.{ℕ, List, ◌++◌, Some, None, Ok, Err, codes, decimal, Option, Result}
use Rattle.decimal.specs.Words.{decimal32, number_of, word_of}
use Rattle.text.specs.Texts.{word_text, number_text, word_in}
use Rattle.words.specs.declared.answer.Word.{Word}
use Rattle.words.specs.declared.answer.NotAWord.{NotAWord}

abbrev pub answer_for : ℕ → Option ℕ → Result Word NotAWord
answer_for n None = Err (record { 0 = n })
answer_for n (Some w) = Ok (record { 0 = w })

-- the answer to the line of this number and text
abbrev pub answered : ℕ → List ℕ → Result Word NotAWord
answered n text = answer_for n (word_in text)

-- the word, the number that it stands for, and that number's canonical word
abbrev pub word_answer : ℕ → List ℕ
word_answer w =
    word_text w ++ (codes " " ++ (number_text (number_of decimal32 w) ++ (codes " " ++ word_text (word_of decimal32 (number_of decimal32 w)))))

abbrev pub no_word : ℕ → List ℕ
no_word n = codes "? line " ++ (decimal n ++ codes ": not eight hexadecimal digits")

abbrev pub answer_text : Result Word NotAWord → List ℕ
answer_text (Ok w) = word_answer w.0
answer_text (Err n) = no_word n.0
