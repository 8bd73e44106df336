-- Assumes nothing.
use Rattle.std.proofs.Common.{◌≡◌, ◌-◌, ◌^◌, ◌<◌, false, [], Some, ap, ◌∙◌, subst, rules}
use Rattle.std.specs.Option.{option_map}
use Rattle.std.specs.Fmt.{DisplaysOnOk, format_spec, padded_integral, styled_digits_output}
use Rattle.text.specs.Texts.{word_text}
use Rattle.text.proofs.Digits.{word_shown}
use Rattle.text.proofs.display.WordTextDisplay.fmt.Goals as goal

pub returns-clause-writes : goal.returns-clause-writes
returns-clause-writes g c =
    let word = c.args.self.now.0 in
    let small : word < 2 ^ 32 = search rules in
    let options = format_spec 32 0 4 8 (2 ^ 64 - 1) in
    let shown : styled_digits_output c.in_radix.result c.laid_out.result ≡ Some (word_text word) =
    ap (styled_digits_output c.in_radix.result) {y = options} c.laid_out.ensures
    ∙ ap (option_map (padded_integral options false [])) c.in_radix.ensures
    ∙ ap Some (word_shown word small) in
    subst (λ text. DisplaysOnOk g.W.Write.write_str_gives c.args.f.now c.write.result text c.write.new.self) shown c.write.ensures.writes
