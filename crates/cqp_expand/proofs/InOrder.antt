-- The outlines of a program as the scan leaves them, the last one first, are those of its definitions in order.
use Rattle.std.proofs.Common.{◌≡◌, List, [], ◌∷◌, ◌++◌, sym, ◌∙◌, subst, append_assoc}
use Rattle.cqp_syntax.specs.declared.ty.Ty.{Ty}
use Rattle.cqp_grammar.specs.Trees.{ProcessTree, DefinitionTree, ProgramTree}
use Rattle.cqp_expand.specs.declared.outline.Outline.{Outline}
use Rattle.cqp_expand.specs.Outlines.{names_of, AreOutlines, AreBehind, main_def, defs_after}

-- outlines of definitions that are done, and behind them those of the others and of the main process
record Split (types : List Ty) (outlines : List Outline) (done defs : List DefinitionTree) (main : ProcessTree) : Type 0 where
  front : List Outline
  more : List Outline
  is : outlines ≡ front ++ more
  are : AreOutlines types front done
  behind : AreBehind types front (names_of done) defs main more

-- outlines stand so behind each of the definitions
split : (types : List Ty) (outlines : List Outline) (done defs : List DefinitionTree) (main : ProcessTree)
    → AreOutlines types outlines (main_def main ∷ defs_after done defs) → Split types outlines done defs main
split types outlines done [] main a = record { front = a.0; more = a.1 ∷ []; is = a.2; are = a.4; behind = a.3 }
split types outlines done (d ∷ defs) main a =
    let later = split types outlines (d ∷ done) defs main a in
    let k = later.are in
    record {
      front = k.0;
      more = k.1 ∷ later.more;
      is = later.is ∙ subst (λ front. front ++ later.more ≡ k.0 ++ k.1 ∷ later.more) (sym k.2) (append_assoc k.0 (k.1 ∷ []) later.more);
      are = k.4;
      behind = (k.3, subst (λ front. AreBehind types front (names_of (d ∷ done)) defs main later.more) k.2 later.behind);
    }

-- the outlines of a program in order
pub in_order : (types : List Ty) (outlines : List Outline) (t : ProgramTree) → AreOutlines types outlines (main_def t.main ∷ defs_after [] t.defs)
    → AreBehind types [] [] t.defs t.main outlines
in_order types outlines t a =
    let s = split types outlines [] t.defs t.main a in
    let whole = subst (λ front. outlines ≡ front ++ s.more) s.are s.is in
    subst (λ more. AreBehind types [] [] t.defs t.main more) (sym whole) (subst (λ front. AreBehind types front [] t.defs t.main s.more) s.are s.behind)
