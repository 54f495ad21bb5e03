use Rattle.std.proofs.Common.{◌≡◌, ◌∷◌, ◌++◌, [], length, length-append, arith, ap, subst, ◌∙◌}
use Rattle.std.proofs.lemmas.List.{nil_from_length}
use Rattle.cqp_expand.specs.Copies.{IsSmall}
use Rattle.cqp_expand.proofs.Alone.{alone_is, lists_are}
use Rattle.cqp_expand.proofs.spread.spread.Goals as goal

pub returns-in-Some : goal.returns-in-Some
returns-in-Some c = λ t types s.
    let main = c.in-Some.main in
    let rest = c.pop.new.self.items in
    let some = c.in-Some.ensures.items in
    let none : length rest ≡ 0 =
    omega (
      arith,
      ap length some,
      length-append rest (main ∷ []),
      c.len.ensures,
      c.args.outlines.ok.0,
      c.if-len-gt1.false,
    ) in
    let alone : c.args.outlines.items ≡ main ∷ [] =
    some ∙ ap (λ xs. xs ++ main ∷ []) (nil_from_length _ none) in
    let is = alone_is t types main (subst (IsSmall t types) alone s) in
    lists_are _ t types _ _ _ c.alone.ensures.nodes c.alone.ensures.types c.alone.ensures.offsets is
