-- How a line keeps its bytes: in front of an array, with zeros behind them, so that what is known of a line gives it back. Assumes nothing.
use Rattle.std.proofs.Common.{◌≡◌, ◌-◌, ◌≤◌, ◌++◌, length, take, drop, replicate, sym, ap, ◌∙◌, arith}
use Rattle.std.proofs.lemmas.List.{length-take-le, take-append-drop}
use Rattle.text.specs.Lines.{Known}
use Rattle.text.specs.declared.line.Line.TheInside.{Inside}

abbrev pub known : Inside → Known
known l = record { number = l.number; text = take l.len l.bytes }

pub record Padded (l : Inside) : Type 0 where
  pub long : length l.bytes ≡ 33
  pub short : l.len ≤ 33
  pub zeros : drop l.len l.bytes ≡ replicate (33 - l.len) 0

abbrev pub line_of : Known → Inside
line_of k = record { number = k.number; bytes = k.text ++ replicate (33 - length k.text) 0; len = length k.text }

pub line_back : (l : Inside) → Padded l → line_of (known l) ≡ l
line_back l p =
    let n : length (take l.len l.bytes) ≡ l.len = length-take-le l.len l.bytes (omega (arith, p.long, p.short)) in
    let b : take l.len l.bytes ++ replicate (33 - length (take l.len l.bytes)) 0 ≡ l.bytes =
    ap (λ k. take l.len l.bytes ++ replicate (33 - k) 0) n ∙ ap (λ zs. take l.len l.bytes ++ zs) (sym p.zeros) ∙ take-append-drop l.len l.bytes in
    λ i. record { number = l.number; bytes = b i; len = n i }
