use Rattle.cqp_words.proofs.Forms.{known_option}
use Rattle.cqp_words.proofs.known.is_some_option.Goals as goal

pub returns : goal.returns
returns c =
    rw (c.is_option-workers.ensures, c.is_option-script.ensures, c.is_option-seed.ensures, c.is_option-born.ensures, c.is_option-rules.ensures)
    (known_option c.args.word.now)
