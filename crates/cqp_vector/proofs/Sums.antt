-- Sums of norms over places, and maps that keep sums.
use Rattle.std.proofs.Common.{◌≡◌, ℕ, zero, suc, ◌+◌, ◌*◌, ◌<◌, List, [], ◌∷◌, length, map, refl}
use Rattle.std.proofs.Common.{sym, ap, ◌∙◌, arith, subst, add-zero, zero-add, zero-mul}
use Rattle.std.specs.List.{range_with_len}
use Rattle.std.proofs.lemmas.Int.{ints}
use Rattle.cqp_ring.specs.declared.amp.Amp.{Amp}
use Rattle.cqp_ring.specs.declared.root.Root.{Root}
use Rattle.cqp_ring.specs.Root.{root_sum, zero_root, norm_of, norm_sum}
use Rattle.cqp_vector.specs.State.{amp_at}
use Rattle.cqp_ring.proofs.Integers.{same_root}
use Rattle.cqp_ring.proofs.OrderSums.{zero-sum}

-- f a + f (a + 1) + .., m of them
abbrev pub sum_from : ℕ → ℕ → (ℕ → Root) → Root
sum_from a zero f = zero_root
sum_from a (suc m) f = root_sum (f a) (sum_from (a + 1) m f)

-- the sum of norms associates
pub root_sum_assoc : (x y z : Root) → root_sum (root_sum x y) z ≡ root_sum x (root_sum y z)
root_sum_assoc x y z = same_root (omega (arith, ints)) (omega (arith, ints))

-- the sum of norms commutes
pub root_sum_comm : (x y : Root) → root_sum x y ≡ root_sum y x
root_sum_comm x y = same_root (omega (arith, ints)) (omega (arith, ints))

-- the middle two of four change places
pub middle_four : (x u y v : Root) → root_sum (root_sum x u) (root_sum y v) ≡ root_sum (root_sum x y) (root_sum u v)
middle_four x u y v = same_root (omega (arith, ints)) (omega (arith, ints))

-- a sum over m + n places is that over the first m and that over the others
pub sum_split : (m a n : ℕ) (f : ℕ → Root) → sum_from a (m + n) f ≡ root_sum (sum_from a m f) (sum_from (a + m) n f)
sum_split zero a n f = rw (zero-add, add-zero) (sym (zero-sum (sum_from a n f)))
sum_split (suc m) a n f =
    rw suc-add (
    ap (λ t. root_sum (f a) t) (sum_split m (a + 1) n f ∙ ap (λ t. root_sum (sum_from (a + 1) m f) (sum_from t n f)) moved)
    ∙ sym (root_sum_assoc (f a) (sum_from (a + 1) m f) (sum_from (a + suc m) n f)))
  where
    moved : a + 1 + m ≡ a + suc m
    moved = omega arith

    suc-add : suc m + n ≡ suc (m + n)
    suc-add = omega arith

-- the norm of numerators that are given place by place
pub norm_by_place : (a m : ℕ) (g : ℕ → Amp) → norm_sum (map g (range_with_len a m)) ≡ sum_from a m (λ k. norm_of (g k))
norm_by_place a zero g = refl
norm_by_place a (suc m) g = ap (λ t. root_sum (norm_of (g a)) t) (norm_by_place (a + 1) m g)

-- the norm of a list is the sum of its places' norms, counted from a
shifted : (ys : List Amp) (a : ℕ) (f : ℕ → Root) → ((k : ℕ) → norm_of (amp_at ys k) ≡ f (a + k)) → norm_sum ys ≡ sum_from a (length ys) f
shifted [] a f same = refl
shifted (y ∷ ys) a f same =
    ap (λ t. root_sum t (norm_sum ys)) (rw add-zero at (same 0))
    ∙ ap (λ t. root_sum (f a) t) (shifted ys (a + 1) f (λ k. let e : a + 1 + k ≡ a + suc k = omega arith in rw e (same (suc k))))

-- the norm of a list of numerators
pub norm_as_sum : (xs : List Amp) → norm_sum xs ≡ sum_from 0 (length xs) (λ k. norm_of (amp_at xs k))
norm_as_sum xs = shifted xs 0 (λ k. norm_of (amp_at xs k)) (λ k. ap (λ i. norm_of (amp_at xs i)) (sym (zero-add k)))

-- pairs of neighbours that sum to one
pub halved : (m a : ℕ) (g f : ℕ → Root) → ((j : ℕ) → root_sum (g (2 * j)) (g (2 * j + 1)) ≡ f j) → sum_from (2 * a) (2 * m) g ≡ sum_from a m f
halved zero a g f pairs = refl
halved (suc m) a g f pairs =
    rw two (
    sym (root_sum_assoc (g (2 * a)) (g (2 * a + 1)) (sum_from (2 * a + 1 + 1) (2 * m) g))
    ∙ ap (λ t. root_sum t (sum_from (2 * a + 1 + 1) (2 * m) g)) (pairs a)
    ∙ ap (λ t. root_sum (f a) (sum_from t (2 * m) g)) next
    ∙ ap (λ t. root_sum (f a) t) (halved m (a + 1) g f pairs))
  where
    two : 2 * suc m ≡ suc (suc (2 * m))
    two = omega arith

    next : 2 * a + 1 + 1 ≡ 2 * (a + 1)
    next = omega arith

-- a map that keeps sums
pub record KeepsSums (F : Root → Root) : Type 0 where
  pub zero_is : F zero_root ≡ zero_root
  pub sum_is : (x y : Root) → F (root_sum x y) ≡ root_sum (F x) (F y)

-- the place i of a block at a whose halves have w places, and its partner, are mapped together
abbrev pub Pairs : (Root → Root) → (ℕ → Root) → (ℕ → Root) → ℕ → ℕ → ℕ → Type 0
Pairs F g f w a i = root_sum (g (a + i)) (g (a + w + i)) ≡ F (root_sum (f (a + i)) (f (a + w + i)))

module _ (F : Root → Root) (keeps : KeepsSums F) where
  -- two halves, pair by pair
  halves : (w a b : ℕ) (g f : ℕ → Root) → ((i : ℕ) → i < w → root_sum (g (a + i)) (g (b + i)) ≡ F (root_sum (f (a + i)) (f (b + i))))
      → root_sum (sum_from a w g) (sum_from b w g) ≡ F (root_sum (sum_from a w f) (sum_from b w f))
  halves zero a b g f each = zero-sum zero_root ∙ sym keeps.zero_is ∙ ap F (sym (zero-sum zero_root))
  halves (suc w) a b g f each =
      middle_four (g a) (sum_from (a + 1) w g) (g b) (sum_from (b + 1) w g)
      ∙ ap (λ t. root_sum t (root_sum (sum_from (a + 1) w g) (sum_from (b + 1) w g))) first
      ∙ ap (λ t. root_sum (F (root_sum (f a) (f b))) t) (halves w (a + 1) (b + 1) g f later)
      ∙ sym (keeps.sum_is (root_sum (f a) (f b)) (root_sum (sum_from (a + 1) w f) (sum_from (b + 1) w f)))
      ∙ ap F (middle_four (f a) (f b) (sum_from (a + 1) w f) (sum_from (b + 1) w f))
    where
      first : root_sum (g a) (g b) ≡ F (root_sum (f a) (f b))
      first = rw (add-zero a, add-zero b) at (each 0 (omega arith))

      later : (i : ℕ) → i < w → root_sum (g (a + 1 + i)) (g (b + 1 + i)) ≡ F (root_sum (f (a + 1 + i)) (f (b + 1 + i)))
      later i h = let e : a + 1 + i ≡ a + (i + 1) = omega arith in let d : b + 1 + i ≡ b + (i + 1) = omega arith in rw (e, d) (each (i + 1) (omega arith))

  -- one block: two halves, one behind the other
  block : (w a : ℕ) (g f : ℕ → Root) → ((i : ℕ) → i < w → Pairs F g f w a i) → sum_from a (w + w) g ≡ F (sum_from a (w + w) f)
  block w a g f each = sum_split w a w g ∙ halves w a (a + w) g f each ∙ ap F (sym (sum_split w a w f))

  -- one block in front of others
  more_blocks : (m w a : ℕ) (g f : ℕ → Root) → sum_from a (w + w) g ≡ F (sum_from a (w + w) f)
      → sum_from (a + (w + w)) (m * (w + w)) g ≡ F (sum_from (a + (w + w)) (m * (w + w)) f)
      → sum_from a (suc m * (w + w)) g ≡ F (sum_from a (suc m * (w + w)) f)
  more_blocks m w a g f front back =
      let size : suc m * (w + w) ≡ (w + w) + m * (w + w) = omega arith in
      rw size (
      sum_split (w + w) a (m * (w + w)) g
      ∙ ap (λ t. root_sum t (sum_from (a + (w + w)) (m * (w + w)) g)) front
      ∙ ap (λ t. root_sum (F (sum_from a (w + w) f)) t) back
      ∙ sym (keeps.sum_is (sum_from a (w + w) f) (sum_from (a + (w + w)) (m * (w + w)) f))
      ∙ ap F (sym (sum_split (w + w) a (m * (w + w)) f)))

  -- blocks behind one another
  pub blocks : (m w a : ℕ) (g f : ℕ → Root) → ((j i : ℕ) → j < m → i < w → Pairs F g f w (a + j * (w + w)) i)
      → sum_from a (m * (w + w)) g ≡ F (sum_from a (m * (w + w)) f)
  blocks zero w a g f each = rw zero-mul (sym keeps.zero_is)
  blocks (suc m) w a g f each = more_blocks m w a g f
      (block w a g f (λ i h. let z : a + 0 * (w + w) ≡ a = omega arith in subst (λ t. Pairs F g f w t i) z (each 0 i (omega arith) h)))
      (blocks m w (a + (w + w)) g f
      (λ j i hj hi. let s : a + (j + 1) * (w + w) ≡ a + (w + w) + j * (w + w) = omega arith in
      subst (λ t. Pairs F g f w t i) s (each (j + 1) i (omega arith) hi)))
