-- A process that is typed gives typed parts, and no two of them hold one qubit.
use Rattle.std.proofs.Common.{◌≡◌, ℕ, ◌+◌, ◌≤◌, List, [], ◌∷◌, ◌++◌, map, Bool, true, false, refl, ap, arith, subst}
use Rattle.std.specs.Prelude.{if◌then◌else◌, ◌||◌, not, ◌==◌}
use Rattle.std.specs.List.{AllByRecursion, list_any}
use Rattle.std.proofs.lemmas.List.Folds.{list_any-append}
use Rattle.cqp_syntax.specs.TypeTrees.{TypeTree, qbit_type, chan_type}
use Rattle.cqp_syntax.specs.Trees.{Binder, Process, nil, par, new, qbit, act, input, output, branch}
use Rattle.cqp_syntax.specs.Binders.{binders_of, HasDistinctBinders}
use Rattle.cqp_syntax.specs.Free.{same_slot, free_slots}
use Rattle.cqp_types.specs.Contexts.{Context, Has, Splits}
use Rattle.cqp_types.specs.Derivations.{Derives, nil_, par_, new_, qbit_, act_, input_, output_, branch_}
use Rattle.cqp_types.proofs.Relevance.{weakened}
use Rattle.cqp_types.proofs.Known.{free_known}
use Rattle.cqp_cells.specs.Config.{flattened}
use Rattle.cqp_syntax.specs.Lists.{is_distinct}
use Rattle.cqp_paths.specs.Made.{qubit_slot}
use Rattle.cqp_paths.specs.Invariant.{held}
use Rattle.cqp_cells.specs.Owners.{holds}
use Rattle.cqp_paths.proofs.Parts.{total_of, total_of-append, all-append, all_map}
use Rattle.cqp_cells.proofs.Options.{both_true}
use Rattle.cqp_syntax.proofs.Bools.{fails}

-- qubits that have a type have type Qbit
abbrev pub AreQubitsTyped : Context → Type 0
AreQubitsTyped g = (q : ℕ) (t : TypeTree) → Has g (qubit_slot q) t → t ≡ qbit_type

-- each process of the flattening is typed
pub flat_typed : {g : Context} {p : Process} → Derives g p → AllByRecursion (λ q. Derives g q) (flattened p)
flat_typed nil_ = tt
flat_typed (par_ {g = g} {left = l} {right = r} {p = p} {q = q} splits a b) =
    all-append (λ s. Derives g s) (flattened p) (flattened q)
    (all_map (λ s. Derives l s) (λ s. Derives g s) (λ s d. weakened l g splits.left_in d) (flattened p) (flat_typed a))
    (all_map (λ s. Derives r s) (λ s. Derives g s) (λ s d. weakened r g splits.right_in d) (flattened q) (flat_typed b))
flat_typed (new_ d) = (new_ d, tt)
flat_typed (qbit_ d) = (qbit_ d, tt)
flat_typed (act_ t d) = (act_ t d, tt)
flat_typed (input_ is d) = (input_ is d, tt)
flat_typed (output_ is once fits d) = (output_ is once fits d, tt)
flat_typed (branch_ e f a b) = (branch_ e f a b, tt)

-- if not both of two tests pass, they count together at most as often as one test that is either
one_side : (a b c : Bool) → (a ≡ true → b ≡ true → ⊥) → c ≡ (a || b) → (if a then 1 else 0) + (if b then 1 else 0) ≤ (if c then 1 else 0)
one_side true true c apart e = absurd (apart refl refl)
one_side true false c apart e = rw e (omega arith)
one_side false true c apart e = rw e (omega arith)
one_side false false c apart e = rw e (omega arith)

-- no qubit is held on both sides of what is divided
sides_apart : {g l r : Context} {p s : Process} (q : ℕ) → AreQubitsTyped g → Splits g l r → Derives l p → Derives r s
    → holds q p ≡ true → holds q s ≡ true → ⊥
sides_apart {g} {l} {r} q only splits a b left right =
    let in_left = free_known l (qubit_slot q) a left in
    let in_right = free_known r (qubit_slot q) b right in
    let left_is : in_left.0 ≡ qbit_type = only q in_left.0 (splits.left_in (qubit_slot q) in_left.0 in_left.1) in
    let right_is : in_right.0 ≡ qbit_type = only q in_right.0 (splits.right_in (qubit_slot q) in_right.0 in_right.1) in
    splits.once (qubit_slot q) (subst (λ t. Has l (qubit_slot q) t) left_is in_left.1) (subst (λ t. Has r (qubit_slot q) t) right_is in_right.1)

-- a number with 0 added is at most the number
one : (n : ℕ) → n + 0 ≤ n
one n = omega arith

-- the parts of a process hold a qubit together at most as often as the process
pub flat_held : {g : Context} {p : Process} (q : ℕ) → AreQubitsTyped g → Derives g p → total_of (held q) (flattened p) ≤ held q p
flat_held q only nil_ = omega arith
flat_held q only (par_ {left = l} {right = r} {p = p} {q = s} splits a b) =
    let first = flat_held q (λ n t h. only n t (splits.left_in (qubit_slot n) t h)) a in
    let second = flat_held q (λ n t h. only n t (splits.right_in (qubit_slot n) t h)) b in
    let sides =
    one_side (holds q p) (holds q s) (holds q (par p s)) (sides_apart q only splits a b)
    (list_any-append (same_slot (qubit_slot q)) (free_slots p) (free_slots s)) in
    omega (arith, first, second, sides, total_of-append (held q) (flattened p) (flattened s))
flat_held q only (new_ {x = x} {ts = ts} {p = p} d) = one (held q (new (record { name = x; ty = chan_type ts }) p))
flat_held q only (qbit_ {x = x} {p = p} d) = one (held q (qbit x p))
flat_held q only (act_ {e = e} {p = p} t d) = one (held q (act e p))
flat_held q only (input_ {c = c} {bs = bs} {p = p} is d) = one (held q (input c bs p))
flat_held q only (output_ {c = c} {es = es} {p = p} is once fits d) = one (held q (output c es p))
flat_held q only (branch_ {e = e} {f = f} {p = p} {q = s} t u a b) = one (held q (branch e f p s))

-- distinct numbers stay distinct in both parts of a list
not_any_left : (a b c : Bool) → not c ≡ true → c ≡ (a || b) → (not a ≡ true) × (not b ≡ true)
not_any_left true b c h e = absurd (fails (rw e at h))
not_any_left false true c h e = absurd (fails (rw e at h))
not_any_left false false c h e = (refl, refl)

-- of distinct numbers in two lists, those of each list are distinct
pub distinct-append : (xs ys : List ℕ) → is_distinct (xs ++ ys) ≡ true → (is_distinct xs ≡ true) × (is_distinct ys ≡ true)
distinct-append [] ys h = (refl, h)
distinct-append (x ∷ xs) ys h =
    let tests = both_true (not (list_any (λ y. x == y) (xs ++ ys))) (is_distinct (xs ++ ys)) h in
    let rest = distinct-append xs ys tests.1 in
    let none =
    not_any_left (list_any (λ y. x == y) xs) (list_any (λ y. x == y) ys) (list_any (λ y. x == y) (xs ++ ys)) tests.0
    (list_any-append (λ y. x == y) xs ys) in
    (rw none.0 rest.0, rest.1)

-- the names of binders in two lists are the names of the one and then of the other
names-append : (bs cs : List Binder) → map (λ b. b.name) (bs ++ cs) ≡ map (λ b. b.name) bs ++ map (λ b. b.name) cs
names-append [] cs = refl
names-append (b ∷ bs) cs = ap (λ xs. b.name ∷ xs) (names-append bs cs)

-- of binders in two lists with distinct names, those of each list have distinct names
pub binders-append : (bs cs : List Binder) → is_distinct (map (λ b. b.name) (bs ++ cs)) ≡ true
    → (is_distinct (map (λ b. b.name) bs) ≡ true) × (is_distinct (map (λ b. b.name) cs) ≡ true)
binders-append bs cs h = distinct-append (map (λ b. b.name) bs) (map (λ b. b.name) cs) (subst (λ xs. is_distinct xs ≡ true) (names-append bs cs) h)

-- each process of the flattening binds each name once, if the process does
pub flat_binders : (p : Process) → HasDistinctBinders p → AllByRecursion HasDistinctBinders (flattened p)
flat_binders nil h = tt
flat_binders (par p q) h =
    let both = binders-append (binders_of p) (binders_of q) h in
    all-append HasDistinctBinders (flattened p) (flattened q) (flat_binders p both.0) (flat_binders q both.1)
flat_binders (new b p) h = (h, tt)
flat_binders (qbit x p) h = (h, tt)
flat_binders (act e p) h = (h, tt)
flat_binders (input c bs p) h = (h, tt)
flat_binders (output c es p) h = (h, tt)
flat_binders (branch e f p q) h = (h, tt)
