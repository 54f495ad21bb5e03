use Rattle.std.proofs.Common.{map, codes, ◌∙◌, ap}
use Rattle.clap.specs.Walk.{rows_of}
use Rattle.clap.specs.Matches.{found_of}
use Rattle.cqp_words.specs.declared.options.Options.{Options}
use Rattle.cqp_words.specs.Items.{flag_id}
use Rattle.cqp_words.specs.Given.{values_at}
use Rattle.cqp_words.specs.Options.{values_in}
use Rattle.cqp_words.proofs.Requesting.{values_same, refuse_same}
use Rattle.cqp_words.proofs.words.asked.Goals as goal

pub returns-clause-usage : goal.returns-clause-usage
returns-clause-usage c =
    let o : Options = record {
      workers = c.as_slice.result;
      script = c.as_slice-2.result;
      seed = c.as_slice-3.result;
      born = c.as_slice-4.result;
      rules = c.as_slice-5.result;
    } in
    let rows = rows_of (found_of c.args.matches.now) in
    let words = ap (map (λ v. v.now)) c.as_slice-6.ensures.value ∙ c.in_ok-words.ensures in
    let options = values_same o rows (ap (map (λ v. v.now)) c.as_slice.ensures.value ∙ c.in_ok-workers.ensures)
    (ap (map (λ v. v.now)) c.as_slice-2.ensures.value ∙ c.in_ok-script.ensures)
    (ap (map (λ v. v.now)) c.as_slice-3.ensures.value ∙ c.in_ok-seed.ensures) (ap (map (λ v. v.now)) c.as_slice-4.ensures.value ∙ c.in_ok-born.ensures)
    (ap (map (λ v. v.now)) c.as_slice-5.ensures.value ∙ c.in_ok-rules.ensures) in
    refuse_same c.command.result (map (λ v. v.now) c.as_slice-6.result.now) (values_at (codes "word") rows) (values_in o)
    (λ f. values_at (flag_id f) rows) words options c.command.ensures.usage
