-- Assumes nothing.
use Rattle.std.proofs.Common.{◌+◌, ◌++◌, ◌∷◌, [], take, drop, get_or, sym, subst, ap, ◌∙◌, append_assoc, append-nil, arith}
use Rattle.std.proofs.lemmas.List.{at_drop_more, at_drop_all}
use Rattle.std.specs.Io.KnownBytes.{Appends, Consumes}
use Rattle.std.proofs.KnownBytes.{Consumes-trans}
use Rattle.text.specs.Lines.{lines_of}
use Rattle.text.specs.Answers.{answers_from}
use Rattle.text.proofs.Written.{line_ended, line_goes_on, finished}
use Rattle.text.proofs.answers.answer_lines.Goals as goal
use Rattle.text.proofs.answers.answer_lines.Goals.{in-Some+in_ok-answer_line, in_default}

pub returns-then-count-eq0 : goal.returns-then-count-eq0
returns-then-count-eq0 g c =
    let i = c.loop.invariant in
    let r = c.in_ok-count.ensures.bytes in
    let z = c.if-count-eq0.true in
    finished (g.A.Answers.answer_text c.args.answers.now) c.answer_rest.result _ _ _ i.bytes _ c.loop.line _ _ _ i.read r.0 (ap (λ n. take n c.read.new.buf) z) (r.1 z (omega arith)) i.line i.written
    c.answer_rest.ensures

pub loop-byte-init : goal.loop-byte-init
loop-byte-init g c =
    let i = c.loop.invariant in
    record { bytes = i.bytes; read = Consumes-trans _ _ _ i.bytes _ i.read c.in_ok-count.ensures.bytes.0; line = i.line; written = i.written }

pub loop-byte-preserved : goal.loop-byte-preserved
loop-byte-preserved g c =
    let i = c.loop-byte.invariant in
    let items = take c.in_ok-count.count c.read.new.buf in
    let at = c.loop-byte.byte-index in
    let b = get_or items at 0 in
    let answer = g.A.Answers.answer_text c.args.answers.now in
    record {
      bytes = i.bytes ++ (b ∷ []);
      read = subst (Consumes _ _) (at_drop_more (λ t. i.bytes ++ t) items at 0 c.loop-byte-test.true ∙ sym (append_assoc i.bytes (b ∷ []) (drop (at + 1) items))) i.read;
      line = c.take.ensures.goes_on i.bytes i.line;
      written = elim c.match-take.branch [
        | in-Some+in_ok-answer_line w ↦
            line_ended answer i.bytes b c.loop-byte.line w.in-Some.ended _ _ _ w.in-Some.ensures.line i.line i.written
            (subst (λ o. Appends (g.W.Write.contents c.loop-byte.output) (g.W.Write.contents o) (answer w.in-Some.ended ++ (10 ∷ []))) (sym w.output-is) w.in_ok-answer_line.ensures)
        | in_default w ↦
            subst (λ o. Appends (g.W.Write.contents c.args.output.now) (g.W.Write.contents o) (answers_from answer 1 (lines_of (i.bytes ++ (b ∷ []))).ended)) (sym w.output-is)
            (subst (Appends _ _) (sym (line_goes_on answer i.bytes b c.loop-byte.line w.in_default.ensures.line)) i.written)
      ];
    }

pub loop-preserved : goal.loop-preserved
loop-preserved g c =
    let i = c.loop-byte.invariant in
    let items = take c.in_ok-count.count c.read.new.buf in
    record {
      room = c.if-count-eq0.array_long;
      bytes = i.bytes;
      read = subst (Consumes _ _) (at_drop_all (λ t. i.bytes ++ t) items c.loop-byte.byte-index c.loop-byte-test.false ∙ append-nil i.bytes) i.read;
      line = i.line;
      written = i.written;
    }
