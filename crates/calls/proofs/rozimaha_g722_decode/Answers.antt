use Rattle.std.proofs.Common.{ap, ◌∙◌, ◌/◌, length, rules}
use Rattle.answers.specs.Outcomes.{number_of}
use Rattle.calls.specs.G722.{decode_call_number, decode_call_out, decode_call_mark}
use Rattle.calls.proofs.Numbers.{not_done, decode_coded}
use Rattle.calls.proofs.Coded.{Call, call_refused, call_done, decoder, decodes}
use Rattle.calls.proofs.rozimaha_g722_decode.Goals as goal
use Rattle.calls.proofs.rozimaha_g722_decode.Goals.{in-Ok, in_default}

pub returns : goal.returns
unfolding decode_call_number decode_call_out decode_call_mark
returns c =
    let a = c.args in
    let input = a.input.now in
    let out = a.out.now in
    let r = c.restore-restored.result in
    let d = decoder input out in
    let call : Call d a.mark.now a.next.now r (number_of c.call_outcome.result) = record {
      restores = c.restore-restored.ensures;
      coded = number_of c.decode_outcome-decoded.result;
      coded_is = ap number_of c.decode_outcome-decoded.ensures ∙ decode_coded r.session (length input) (length out / 2) _;
      number_is = c.call_outcome.ensures;
    } in
    elim c.match-call_outcome.branch [
      | in-Ok w ↦ (
          let e = w.decode_to_bytes in
          let codes = decodes input out r.session (search rules) e.ensures.answer e.ensures.written in
          let l = call_done d a.mark.now a.next.now call (ap number_of w.in-Ok.is) e.result w.write.result codes w.write.ensures.answer w.write.ensures.written in
          record {
            value = c.number.ensures ∙ ap number_of w.outcome-is ∙ l.value;
            out_after = w.out-is ∙ l.output;
            next_after = w.next-is ∙ l.mark_after;
          }
          )
      | in_default w ↦ (
          let l = call_refused d a.mark.now a.next.now call out (not_done c.call_outcome.result w.in_default.not-Ok) in
          record {
            value = c.number.ensures ∙ ap number_of w.outcome-is ∙ l.value;
            out_after = w.out-is ∙ l.output;
            next_after = w.next-is ∙ l.mark_after;
          }
          )
    ]
