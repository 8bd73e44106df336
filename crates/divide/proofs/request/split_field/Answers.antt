-- Assumes nothing.
use Rattle.std.proofs.Common.{◌≡◌, rules, ap, sym, ◌∙◌}
use borrow.Author.Tests.{tests}
use Rattle.std.proofs.lemmas.Iterator.{YieldsList-from_slice}
use Rattle.std.proofs.lemmas.Iterator.Search.{position_from_yields_List}
use Rattle.std.specs.List.{position}
use Rattle.std.specs.Option.{option_map}
use Rattle.divide.specs.Requests.{is_blank}
use Rattle.divide.proofs.Kept.{split, unsplit}
use Rattle.divide.proofs.request.split_field.Goals as goal

pub returns-in_err-blank : goal.returns-in_err-blank
returns-in_err-blank c =
    let e : c.position.result ≡ position is_blank c.args.text.now =
    position_from_yields_List is_blank _ _ _ c.position.ensures.ran (YieldsList-from_slice c.args.text.now cc) (λ x b q k. search (rules, tests)) in
    ap (option_map (λ f. (f.0.now, f.1.now))) c.from_residual.ensures ∙ unsplit c.args.text.now (sym e ∙ c.in_err-blank.was)

pub returns : goal.returns
returns c =
    let e : c.position.result ≡ position is_blank c.args.text.now =
    position_from_yields_List is_blank _ _ _ c.position.ensures.ran (YieldsList-from_slice c.args.text.now cc) (λ x b q k. search (rules, tests)) in
    split c.args.text.now c.in_ok-blank.blank (sym e ∙ c.in_ok-blank.was)
