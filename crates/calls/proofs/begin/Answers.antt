use Rattle.calls.proofs.Begun.{begin_no_byte, begin_refused, begin_done}
use Rattle.calls.proofs.begin.Goals as goal

pub returns-in_err-start : goal.returns-in_err-start
returns-in_err-start g c =
    let a = c.args in
    let d = begin_no_byte _ g.K.Kind.letter a.rate a.start a.mark.now _ c.try_from.ensures _ c.in_err-start.ensures c.from_residual.ensures.1 in
    record { value = d.0; mark_after = d.1 }

pub returns-in_err-begun : goal.returns-in_err-begun
returns-in_err-begun g c =
    let a = c.args in
    let d =
    begin_refused _ g.K.Kind.letter a.rate a.start a.mark.now _ c.try_from.ensures c.in_ok-start.ensures c.begin-begun.ensures _ c.in_err-begun.was
    c.from_residual-in_err-begun.ensures.1 in
    record { value = d.0; mark_after = d.1 }

pub returns : goal.returns
returns g c =
    let a = c.args in
    let w = c.write.ensures in
    let d =
    begin_done _ g.K.Kind.letter a.rate a.start a.mark.now _ c.try_from.ensures c.in_ok-start.ensures c.begin-begun.ensures c.in_ok-begun.was
    w.answer w.written in
    record { value = d.0; mark_after = d.1 }
