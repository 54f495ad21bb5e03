use Rattle.std.proofs.Common.{arith, length, sym, ap, ◌∙◌}
use mathlib.Core.Option.{some-injective}
use lib.ListN.{get_elem?}
use Rattle.cqp_book.specs.Views.{seen_of}
use Rattle.cqp_book.proofs.Kept.{closes}
use Rattle.cqp_book.proofs.steps.close.Goals as goal

pub free-requires : goal.free-requires
free-requires g c k h = let none = c.requires.size.1 in let all = c.close_with-closed.ensures.counts.1 in absurd (omega arith)

pub returns : goal.returns
returns g c = let b = c.requires.book in
    let w = closes g.M.Machine.means _ _ _ b.0 b.1 b.2 _ _ b.3 c.close_with-closed.ensures.values.2 in
    sym (some-injective _ _ (sym (ap (λ l. get_elem? l 0) w) ∙ c.word-word.ensures)) ∙ sym (ap (λ v. length (seen_of v)) b.3)
