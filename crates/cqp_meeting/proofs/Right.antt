-- In a configuration with no wrong operand each part has right ones, and those that meet agree.
use Rattle.std.proofs.Common.{◌≡◌, ℕ, List, [], ◌∷◌, length, Bool, true, false, not, ◌||◌, ◌&&◌, ◌==◌, refl, subst, if◌then◌else◌}
use Rattle.std.proofs.Common.{arith}
use Rattle.std.specs.Prelude.{Some, None, is_none}
use Rattle.std.specs.List.{list_any}
use Rattle.std.proofs.lemmas.Bool.Decides.{nat_tests}
use Rattle.cqp_syntax.specs.declared.val.Val.TheVariants as val
use Rattle.cqp_syntax.specs.Trees.{valued, Expr, Binder, Process, input, output}
use Rattle.cqp_syntax.proofs.Same.{same_number}
use Rattle.cqp_cells.specs.Config.{Config, Part, part_at}
use Rattle.cqp_cells.specs.Operands.{has_name_left, has_no_number, has_no_qubit, has_no_gate, has_no_channel, is_wrong, differ_in_count, has_wrong_operand}
use Rattle.cqp_cells.specs.Redex.{next_redex_of}
use Rattle.cqp_meeting.specs.Laws.{RightLaw}
use Rattle.cqp_cells.proofs.Options.{none_is_some, same_some, yes_is_no}

-- neither of two tests passes
pub neither : (a b : Bool) → (a || b) ≡ false → (a ≡ false) × (b ≡ false)
neither false b h = (refl, h)
neither true b h = absurd (yes_is_no h)

-- what no part passes, a part that is there doesn't pass
none_at : (f : Process → Bool) (i : ℕ) (parts : List Part) (p : Process) → list_any (λ part. f part.process) parts ≡ false → part_at i parts ≡ Some p
    → f p ≡ false
none_at f i [] p h at = absurd (none_is_some at)
none_at f i (part ∷ parts) p h at = by_number (part.number == i) at (λ g. none_at f i parts p both.1 g)
  where
    both : (f part.process ≡ false) × (list_any (λ part. f part.process) parts ≡ false)
    both = neither (f part.process) (list_any (λ part. f part.process) parts) h

    by_number : (b : Bool) → (if b then Some part.process else part_at i parts) ≡ Some p → (part_at i parts ≡ Some p → f p ≡ false) → f p ≡ false
    by_number true g later = subst (λ q. f q ≡ false) (same_some g) both.0
    by_number false g later = later g

-- no part has a wrong operand
pub part_right : RightLaw
part_right c h i p at =
    none_at (is_wrong c.state.qubits) i c.parts p
    (neither (list_any (λ part. is_wrong c.state.qubits part.process) c.parts)
    (list_any (λ s. list_any (λ r. differ_in_count s.process r.process) c.parts) c.parts) h).0 at

-- so none stands before what is no channel
pub channel_right : (n : ℕ) (p : Process) → is_wrong n p ≡ false → has_no_channel p ≡ false
channel_right n p h = (neither (has_name_left p || has_no_number p || has_no_qubit n p || has_no_gate p) (has_no_channel p) h).1

-- two parts don't differ in count
none_differ : (c : Config) → has_wrong_operand c ≡ false → (i j : ℕ) (p q : Process) → part_at i c.parts ≡ Some p → part_at j c.parts ≡ Some q
    → differ_in_count p q ≡ false
none_differ c h i j p q at there =
    none_at (differ_in_count p) j c.parts q
    (none_at (λ s. list_any (λ r. differ_in_count s r.process) c.parts) i c.parts p
    (neither (list_any (λ part. is_wrong c.state.qubits part.process) c.parts)
    (list_any (λ s. list_any (λ r. differ_in_count s.process r.process) c.parts) c.parts) h).1 at) there

-- a test that passes where the others do
third : (a b d : Bool) → (a && b && not d) ≡ false → a ≡ true → b ≡ true → d ≡ true
third true true true h k l = refl
third true true false h k l = absurd (yes_is_no h)
third true false d h k l = absurd (yes_is_no (l_is l))
  where
    l_is : false ≡ true → true ≡ false
    l_is e = cc
third false b d h k l = absurd (yes_is_no (k_is k))
  where
    k_is : false ≡ true → true ≡ false
    k_is e = cc

-- what is sent and what is received on one channel are as many
pub as_many : (c : Config) → has_wrong_operand c ≡ false → (i j k : ℕ) (es : List Expr) (p : Process) (bs : List Binder) (q : Process)
    → next_redex_of es ≡ None
    → part_at i c.parts ≡ Some (output (valued (val.Chan k)) es p) → part_at j c.parts ≡ Some (input (valued (val.Chan k)) bs q)
    → length es ≡ length bs
as_many c h i j k es p bs q ready at there =
    let same : (k == k) ≡ true = grind (arith, nat_tests) in
    let now : is_none (next_redex_of es) ≡ true = rw ready refl in
    same_number (length es) (length bs) (third (is_none (next_redex_of es)) (k == k) (length es == length bs) (none_differ c h i j _ _ at there) now same)
