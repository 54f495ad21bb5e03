use Rattle.std.proofs.Common.{◌∙◌, sym, ap, bytes_eq, rules}
use Rattle.cqp_words.proofs.Decimals.{not_read, not_plain}
use Rattle.cqp_words.proofs.Bools.{same_text}
use Rattle.cqp_words.proofs.number.number.Goals as goal
use Rattle.cqp_words.proofs.number.number.Goals.{then-same, else-same}

pub returns-in-Err : goal.returns-in-Err
returns-in-Err c = λ n h t. not_read c.args.text.now c.parse.result c.in-Err.field-0 n c.in-Err.is c.parse.ensures.value.0 h t

pub returns-after-same : goal.returns-after-same
returns-after-same c =
    let plain = c.as_bytes.ensures.value ∙ c.in_ok-plain-in-Ok.ensures.ok in
    let text = c.as_bytes-in-Ok.ensures.value in
    elim c.if-same.branch [
      | then-same w ↦
          let same = same_text c.as_bytes.result.now c.as_bytes-in-Ok.result.now (sym c.eq-same.ensures ∙ w.if-same.true) in
          rw w.result-is (sym text ∙ sym same ∙ plain, search rules)
      | else-same w ↦
          let other = ap (bytes_eq c.as_bytes.result.now) (sym text) ∙ sym c.eq-same.ensures ∙ w.if-same.false in
          let read = c.parse.ensures.value.0 in
          rw w.result-is (λ n h t. not_plain c.args.text.now c.as_bytes.result.now c.parse.result c.in-Ok.n n c.in-Ok.is read plain other h t)
    ]
