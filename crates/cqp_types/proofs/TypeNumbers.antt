-- Types and their numbers.
use Rattle.std.proofs.Common.{◌≡◌, ℕ, ◌<◌, ◌==◌, true, List, length, sym, ◌∙◌, ap, subst}
use Rattle.cqp_syntax.specs.declared.ty.Ty.{Ty}
use Rattle.cqp_syntax.specs.TypeTrees.{type_at, IsOnlyNumber, same_type}
use Rattle.cqp_syntax.proofs.Bools.{fails, decide, same_number, number_same}
use Rattle.cqp_syntax.proofs.TypeTests.{type_is, type_same}

-- two numbers are the same where their types are
pub numbers_tell : (types : List Ty) (m n : ℕ) → IsOnlyNumber types m → n < length types → (m == n) ≡ same_type (type_at types m) (type_at types n)
numbers_tell types m n only within =
    decide (m == n)
    (λ e.
    let same = same_number m n e in
    e ∙ sym (type_same (type_at types m)) ∙ ap (λ k. same_type (type_at types m) (type_at types k)) same)
    (λ e.
    decide (same_type (type_at types m) (type_at types n))
    (λ t.
    let same = only n within (type_is (type_at types m) (type_at types n) t) in
    absurd (fails (sym e ∙ subst (λ k. (m == k) ≡ true) same (number_same m))))
    (λ t. e ∙ sym t))
