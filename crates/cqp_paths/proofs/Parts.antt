-- Lists of parts: what stands at a number after one part goes on, and the sizes.
use Rattle.std.proofs.Common.{◌≡◌, ◌≢◌, ℕ, ◌+◌, ◌<◌, ◌≤◌, List, [], ◌∷◌, ◌++◌, length, Bool, true, false, refl, ap, ◌∙◌, arith, subst}
use Rattle.std.specs.Prelude.{Some, if◌then◌else◌, ◌==◌}
use Rattle.std.specs.List.{AllByRecursion}
use Rattle.std.proofs.lemmas.Bool.Decides.{nat_tests}
use Rattle.cqp_syntax.specs.Trees.{Process, nil, par, new, qbit, act, input, output, branch}
use Rattle.cqp_cells.specs.Config.{Config, Part, flattened, numbered, goes_on, numbers_taken, replaced, part_at, continued}
use Rattle.cqp_syntax.specs.Measures.{size}
use Rattle.cqp_cells.specs.Size.{total}
use Rattle.cqp_paths.specs.Invariant.{AllParts}
use Rattle.cqp_cells.specs.Numbered.{AreBelow}
use Rattle.cqp_cells.proofs.Options.{none_is_some, same_some}

-- the sum over processes
abbrev pub total_of : (Process → ℕ) → List Process → ℕ
total_of f [] = 0
total_of f (p ∷ ps) = f p + total_of f ps

module _ (f : Process → ℕ) where
  -- the sum over two lists of parts is the sum of the two sums
  total-append : (ps qs : List Part) → total f (ps ++ qs) ≡ total f ps + total f qs
  total-append [] qs = omega arith
  total-append (p ∷ ps) qs = omega (arith, total-append ps qs)

  -- the sum over two lists of processes is the sum of the two sums
  pub total_of-append : (ps qs : List Process) → total_of f (ps ++ qs) ≡ total_of f ps + total_of f qs
  total_of-append [] qs = omega arith
  total_of-append (p ∷ ps) qs = omega (arith, total_of-append ps qs)

  -- numbering processes keeps their sum
  pub total-numbered : (n : ℕ) (ps : List Process) → total f (numbered n ps) ≡ total_of f ps
  total-numbered n [] = refl
  total-numbered n (p ∷ ps) = ap (λ k. f p + k) (total-numbered (n + 1) ps)

  -- the parts that a part becomes have the sum of their processes
  total-goes_on : (i n : ℕ) (ps : List Process) → total f (goes_on i n ps) ≡ total_of f ps
  total-goes_on i n [] = refl
  total-goes_on i n (p ∷ ps) = ap (λ k. f p + k) (total-numbered n ps)

  -- parts in the place of one change the sum by theirs less that one's
  total-replaced : (i : ℕ) (now parts : List Part) (p : Process) → part_at i parts ≡ Some p → total f (replaced i now parts) + f p ≡ total f parts + total f now
  total-replaced i now [] p at = absurd (none_is_some at)
  total-replaced i now (part ∷ parts) p at = by_test (part.number == i) at (λ g. total-replaced i now parts p g)
    where
      by_test : (b : Bool) → (if b then Some part.process else part_at i parts) ≡ Some p
          → (part_at i parts ≡ Some p → total f (replaced i now parts) + f p ≡ total f parts + total f now)
          → total f (if b then now ++ parts else part ∷ replaced i now parts) + f p ≡ f part.process + total f parts + total f now
      by_test true g more = let same : f part.process ≡ f p = ap f (same_some g) in omega (arith, total-append now parts, same)
      by_test false g more = omega (arith, more g)

  -- where a part goes on, the sum of all changes by that of its continuation, less its own
  pub total-continued : (i : ℕ) (q : Process) (c : Config) (p : Process) → part_at i c.parts ≡ Some p
      → total f (continued i q c).parts + f p ≡ total f c.parts + total_of f (flattened q)
  total-continued i q c p at = omega (arith, total-replaced i (goes_on i c.made (flattened q)) c.parts p at, total-goes_on i c.made (flattened q))

-- the sizes of the processes of a flattening sum to the size
pub size_all-flattened : (p : Process) → total_of size (flattened p) ≡ size p
size_all-flattened nil = refl
size_all-flattened (par p q) = omega (arith, total_of-append size (flattened p) (flattened q), size_all-flattened p, size_all-flattened q)
size_all-flattened (new b p) = omega arith
size_all-flattened (qbit x p) = omega arith
size_all-flattened (act e p) = omega arith
size_all-flattened (input c bs p) = omega arith
size_all-flattened (output c es p) = omega arith
size_all-flattened (branch e f p q) = omega arith

-- where a part goes on, the size of all changes by that of its continuation, less its own
pub size_parts-continued : (i : ℕ) (q : Process) (c : Config) (p : Process) → part_at i c.parts ≡ Some p
    → total size (continued i q c).parts + size p ≡ total size c.parts + size q
size_parts-continued i q c p at = omega (arith, total-continued size i q c p at, size_all-flattened q)

-- the parts at the start have together the size of the process
pub size_parts-start : (p : Process) → total size (numbered 0 (flattened p)) ≡ size p
size_parts-start p = total-numbered size 0 (flattened p) ∙ size_all-flattened p

-- what holds of each process in a list
module _ (P : Process → Type 0) where
  -- what holds in two lists of processes holds in both together
  pub all-append : (ps qs : List Process) → AllByRecursion P ps → AllByRecursion P qs → AllByRecursion P (ps ++ qs)
  all-append [] qs left right = right
  all-append (p ∷ ps) qs left right = (left.0, all-append ps qs left.1 right)

  -- what holds in two lists of parts holds in both together
  parts-append : (ps qs : List Part) → AllParts P ps → AllParts P qs → AllParts P (ps ++ qs)
  parts-append [] qs left right = right
  parts-append (p ∷ ps) qs left right = (left.0, parts-append ps qs left.1 right)

  -- what holds of processes holds of them as numbered parts
  pub all-numbered : (n : ℕ) (ps : List Process) → AllByRecursion P ps → AllParts P (numbered n ps)
  all-numbered n [] all = tt
  all-numbered n (p ∷ ps) all = (all.0, all-numbered (n + 1) ps all.1)

  -- what holds of processes holds of the parts that a part becomes
  all-goes_on : (i n : ℕ) (ps : List Process) → AllByRecursion P ps → AllParts P (goes_on i n ps)
  all-goes_on i n [] all = tt
  all-goes_on i n (p ∷ ps) all = (all.0, all-numbered n ps all.1)

  -- what holds of parts and of those that replace one holds after it
  all-replaced : (i : ℕ) (now parts : List Part) → AllParts P now → AllParts P parts → AllParts P (replaced i now parts)
  all-replaced i now [] new_ old = tt
  all-replaced i now (part ∷ parts) new_ old = by_test (part.number == i) (all-replaced i now parts new_ old.1)
    where
      by_test : (b : Bool) → AllParts P (replaced i now parts) → AllParts P (if b then now ++ parts else part ∷ replaced i now parts)
      by_test true more = parts-append now parts new_ old.1
      by_test false more = (old.0, more)

  -- what holds of all parts, and of each process of a continuation, holds after that part goes on
  pub all-continued : (i : ℕ) (q : Process) (c : Config) → AllByRecursion P (flattened q) → AllParts P c.parts → AllParts P (continued i q c).parts
  all-continued i q c new_ old = all-replaced i (goes_on i c.made (flattened q)) c.parts (all-goes_on i c.made (flattened q) new_) old

  -- what holds of all parts holds of the process of a part that is there
  pub all-part_at : (i : ℕ) (parts : List Part) (p : Process) → AllParts P parts → part_at i parts ≡ Some p → P p
  all-part_at i [] p all at = absurd (none_is_some at)
  all-part_at i (part ∷ parts) p all at = by_test (part.number == i) at (λ g. all-part_at i parts p all.1 g)
    where
      by_test : (b : Bool) → (if b then Some part.process else part_at i parts) ≡ Some p → (part_at i parts ≡ Some p → P p) → P p
      by_test true g more = let same : part.process ≡ p = same_some g in subst P same all.0
      by_test false g more = more g

-- where one thing follows from another, it follows for all parts
pub all_parts_map : (P Q : Process → Type 0) → ((p : Process) → P p → Q p) → (parts : List Part) → AllParts P parts → AllParts Q parts
all_parts_map P Q f [] all = tt
all_parts_map P Q f (part ∷ parts) all = (f part.process all.0, all_parts_map P Q f parts all.1)

-- where one thing follows from another, it follows for all processes in a list
pub all_map : (P Q : Process → Type 0) → ((p : Process) → P p → Q p) → (ps : List Process) → AllByRecursion P ps → AllByRecursion Q ps
all_map P Q f [] all = tt
all_map P Q f (p ∷ ps) all = (f p all.0, all_map P Q f ps all.1)

-- part numbers below m are below each n that is no less
below_more : (m n : ℕ) (parts : List Part) → m ≤ n → AreBelow m parts → AreBelow n parts
below_more m n [] le all = tt
below_more m n (part ∷ parts) le all = let first : part.number < m = all.0 in let low : part.number < n = omega arith in (low, below_more m n parts le all.1)

-- part numbers below n in two lists are below n in both together
below-append : (n : ℕ) (ps qs : List Part) → AreBelow n ps → AreBelow n qs → AreBelow n (ps ++ qs)
below-append n [] qs left right = right
below-append n (p ∷ ps) qs left right = (left.0, below-append n ps qs left.1 right)

-- parts that are numbered from m on have numbers below m and their count
below-numbered : (m n : ℕ) (ps : List Process) → m + length ps ≤ n → AreBelow n (numbered m ps)
below-numbered m n [] le = tt
below-numbered m n (p ∷ ps) le = let low : m < n = omega arith in let rest : m + 1 + length ps ≤ n = omega arith in (low, below-numbered (m + 1) n ps rest)

-- the parts that a part becomes have numbers below the new count
below-goes_on : (i m : ℕ) (ps : List Process) → i < m → AreBelow (m + numbers_taken ps) (goes_on i m ps)
below-goes_on i m [] less = tt
below-goes_on i m (p ∷ ps) less = let low : i < m + length ps = omega arith in (low, below-numbered m (m + length ps) ps (omega arith))

-- parts in the place of one have numbers below n, if they and the others have
below-replaced : (n i : ℕ) (now parts : List Part) → AreBelow n now → AreBelow n parts → AreBelow n (replaced i now parts)
below-replaced n i now [] new_ old = tt
below-replaced n i now (part ∷ parts) new_ old = by_test (part.number == i) (below-replaced n i now parts new_ old.1)
  where
    by_test : (b : Bool) → AreBelow n (replaced i now parts) → AreBelow n (if b then now ++ parts else part ∷ replaced i now parts)
    by_test true more = below-append n now parts new_ old.1
    by_test false more = (old.0, more)

-- at the start part numbers are below their count
pub below-start : (p : Process) → AreBelow (length (flattened p)) (numbered 0 (flattened p))
below-start p = below-numbered 0 (length (flattened p)) (flattened p) (omega arith)

-- a part that is there has a number below the count
pub below-part_at : (n i : ℕ) (parts : List Part) (p : Process) → AreBelow n parts → part_at i parts ≡ Some p → i < n
below-part_at n i [] p all at = absurd (none_is_some at)
below-part_at n i (part ∷ parts) p all at = by_test (part.number == i) refl at (λ g. below-part_at n i parts p all.1 g)
  where
    by_test : (b : Bool) → (part.number == i) ≡ b → (if b then Some part.process else part_at i parts) ≡ Some p → (part_at i parts ≡ Some p → i < n) → i < n
    by_test true test g more = let same : part.number ≡ i = grind (arith, nat_tests) in let first : part.number < n = all.0 in omega arith
    by_test false test g more = more g

-- part numbers stay below their count where a part goes on
pub below-continued : (i : ℕ) (q : Process) (c : Config) → i < c.made → AreBelow c.made c.parts → AreBelow (continued i q c).made (continued i q c).parts
below-continued i q c less all =
    below-replaced (c.made + numbers_taken (flattened q)) i (goes_on i c.made (flattened q)) c.parts (below-goes_on i c.made (flattened q) less)
    (below_more c.made (c.made + numbers_taken (flattened q)) c.parts (omega arith) all)

-- a part with a lesser number is found behind numbered parts
part_at-numbered : (to m : ℕ) (ps : List Process) (parts : List Part) → to < m → part_at to (numbered m ps ++ parts) ≡ part_at to parts
part_at-numbered to m [] parts less = refl
part_at-numbered to m (p ∷ ps) parts less =
    let other : (m == to) ≡ false = grind (arith, nat_tests) in
    let later : to < m + 1 = omega arith in
    rw other (part_at-numbered to (m + 1) ps parts later)

-- another part is found behind the parts that part i becomes
part_at-goes_on : (to i m : ℕ) (ps : List Process) (parts : List Part) → to ≢ i → to < m → part_at to (goes_on i m ps ++ parts) ≡ part_at to parts
part_at-goes_on to i m [] parts differs less = refl
part_at-goes_on to i m (p ∷ ps) parts differs less =
    let other : (i == to) ≡ false = grind (arith, nat_tests) in
    rw other (part_at-numbered to m ps parts less)

-- another part is found where part i is replaced
part_at-replaced : (to i m : ℕ) (ps : List Process) (parts : List Part) → to ≢ i → to < m → part_at to (replaced i (goes_on i m ps) parts) ≡ part_at to parts
part_at-replaced to i m ps [] differs less = refl
part_at-replaced to i m ps (part ∷ parts) differs less = by_test (part.number == i) refl (part_at-replaced to i m ps parts differs less)
  where
    by_test : (b : Bool) → (part.number == i) ≡ b → part_at to (replaced i (goes_on i m ps) parts) ≡ part_at to parts
        → part_at to (if b then goes_on i m ps ++ parts else part ∷ replaced i (goes_on i m ps) parts) ≡
        (if part.number == to then Some part.process else part_at to parts)
    by_test true test more =
        let same : part.number ≡ i = grind (arith, nat_tests) in
        let other : (part.number == to) ≡ false = grind (arith, nat_tests) in
        part_at-goes_on to i m ps parts differs less ∙ rw other refl
    by_test false test more = ap (λ t. if part.number == to then Some part.process else t) more

-- another part is found where part i goes on
pub part_at-continued : (to i : ℕ) (q : Process) (c : Config) → to ≢ i → to < c.made → part_at to (continued i q c).parts ≡ part_at to c.parts
part_at-continued to i q c differs less = part_at-replaced to i c.made (flattened q) c.parts differs less
