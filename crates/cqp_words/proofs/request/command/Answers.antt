use Rattle.std.proofs.Common.{[], sym, subst}
use Rattle.std.specs.Borrow.{Bor}
use Rattle.cqp_words.specs.Items.{Text}
use Rattle.cqp_words.specs.Options.{values_in}
use Rattle.cqp_words.proofs.Requesting.{Refuses, one_text, two_texts}
use Rattle.cqp_words.proofs.request.command.Goals as goal

pub returns-in-len1-clause-usage : goal.returns-in-len1-clause-usage
returns-in-len1-clause-usage c =
    let words = one_text c.args.words.now (record { ref_ptr = (0, 0); now = [] }) c.in-len1.len_at_least c.in-len1.len_below in
    subst (λ ts. Refuses c.alone.result ts (values_in c.args.options)) (sym words) c.alone.ensures.usage

pub returns-in-len2-clause-usage : goal.returns-in-len2-clause-usage
returns-in-len2-clause-usage c =
    let none : Bor Text = record { ref_ptr = (0, 0); now = [] } in
    let words = two_texts c.args.words.now none none c.in-len2.len_at_least c.in-len2.len_below in
    subst (λ ts. Refuses c.with_number.result ts (values_in c.args.options)) (sym words) c.with_number.ensures.usage
