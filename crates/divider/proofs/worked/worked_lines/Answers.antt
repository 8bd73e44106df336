-- Each quotient is the definition's, which computes.
-- Assumes nothing.
use Rattle.std.proofs.Common.{◌≡◌, [], ◌∷◌, ◌∙◌}
use Rattle.divider.specs.declared.outcome.QuotientWord.{QuotientWord}
use Rattle.divider.proofs.Computed.{computed, words_computed}
use Rattle.divider.proofs.worked.worked_lines.Goals as goal

seven : {a b c d e f g a' b' c' d' e' f' g' : QuotientWord} → a ≡ a' → b ≡ b' → c ≡ c' → d ≡ d' → e ≡ e' → f ≡ f' → g ≡ g'
    → a ∷ (b ∷ (c ∷ (d ∷ (e ∷ (f ∷ (g ∷ [])))))) ≡ a' ∷ (b' ∷ (c' ∷ (d' ∷ (e' ∷ (f' ∷ (g' ∷ []))))))
seven p q r s t u v = λ i. p i ∷ (q i ∷ (r i ∷ (s i ∷ (t i ∷ (u i ∷ (v i ∷ []))))))

pub returns : goal.returns
returns c =
    record {
      words = seven c.quotient_of.ensures c.quotient_of-2.ensures c.quotient_of-3.ensures c.quotient_of-4.ensures c.quotient_of-5.ensures c.quotient_of-6.ensures c.quotient_of-7.ensures
          ∙ words_computed;
      definitions = computed;
    }
