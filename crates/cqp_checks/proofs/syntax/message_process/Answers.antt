use Rattle.std.proofs.Common.{rules}
use Rattle.cqp_syntax.specs.Examples.{one_message}
use Rattle.cqp_syntax.proofs.Examples.{message_listing, message_listed, same_listing}
use Rattle.cqp_checks.proofs.syntax.message_process.Goals as goal

pub make-requires-clause-listed : goal.make-requires-clause-listed
make-requires-clause-listed c =
    (one_message, same_listing one_message message_listing _ _ _ _ (search rules) (search rules) (search rules) (search rules) message_listed)
