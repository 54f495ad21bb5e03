-- What the copier's functions leave, as one step on its lists.
use Rattle.std.proofs.Common.{◌≡◌, ℕ, zero, suc, ◌+◌, ◌<◌, List, [], ◌∷◌, ◌++◌, map, length, slice_index, slice_get, get_or, Some, refl, ap, sym, ◌∙◌, arith}
use Rattle.std.proofs.lemmas.Option.{slice_get-get_or}
use Rattle.cqp_syntax.specs.declared.node.Node.{Node}
use Rattle.cqp_expand.specs.declared.copy.Instance.{Instance}
use Rattle.cqp_expand.specs.declared.outline.Outline.{Outline}
use Rattle.cqp_expand.specs.Moved.{moved}
use Rattle.cqp_expand.specs.Spread.{binds}
use Rattle.cqp_expand.specs.Copying.{Copying, numbered, with_own}
use Rattle.cqp_expand.proofs.Small.{same_some}

-- the element at a place
pub element : {X : Type 0} (xs : List X) (i : ℕ) (x y : X) → i < length xs → x ≡ get_or xs i x → x ≡ y → slice_get xs i ≡ Some y
element xs i x y h e is = slice_get-get_or xs i x h ∙ ap Some (sym e ∙ is)

-- one element stands at a place
pub one_element : {X : Type 0} (xs : List X) (i : ℕ) (x y : X) → slice_get xs i ≡ Some x → slice_get xs i ≡ Some y → x ≡ y
one_element xs i x y e g = same_some x y (sym e ∙ g)

-- the lists of a copier
abbrev pub lists : List Instance → List ℕ → List Node → List ℕ → List ℕ → Copying
lists fs ns ms ts at = record { instances = fs; numbers = ns; nodes = ms; ty_of = ts; at = at }

-- the lists once a node is copied
pub own_done : (d : Outline) (f : Instance) (x : Node) (c : Copying) (fs : List Instance) (ns : List ℕ) (ms nodes : List Node) (ts at at₁ : List ℕ)
    (copy : Node) (s₁ s₂ s₃ : List ℕ) (a : ℕ)
    → lists fs ns ms ts at ≡ lists c.instances (numbered f.base (length c.ty_of) c.numbers (binds x)) c.nodes (c.ty_of ++ map (slice_index s₁) (binds x)) at₁
    → nodes ≡ ms ++ copy ∷ [] → copy ≡ moved (λ y. slice_index s₂ (f.base + y)) (λ k. f.start + slice_index s₃ k) x
    → s₁ ≡ d.ty_of.items → s₂ ≡ ns → s₃ ≡ d.starts.items → at₁ ≡ c.at ++ a ∷ [] → a ≡ slice_index d.at.items f.next
    → lists fs ns nodes ts at ≡ with_own d f x c
own_done d f x c fs ns ms nodes ts at at₁ copy s₁ s₂ s₃ a b p m e₁ e₂ e₃ q g =
    let numbers : ns ≡ numbered f.base (length c.ty_of) c.numbers (binds x) = ap (λ (s : Copying). s.numbers) b in
    let moved_as : copy ≡ moved (λ y. slice_index (numbered f.base (length c.ty_of) c.numbers (binds x)) (f.base + y))
    (λ k. f.start + slice_index d.starts.items k) x
    = m ∙ ap (λ z. moved (λ y. slice_index z (f.base + y)) (λ k. f.start + slice_index s₃ k) x) (e₂ ∙ numbers)
    ∙ ap (λ z. moved (λ y. slice_index (numbered f.base (length c.ty_of) c.numbers (binds x)) (f.base + y)) (λ k. f.start + slice_index z k) x) e₃ in
    rw (
      ap (λ (s : Copying). s.instances) b,
      numbers,
      ap (λ (s : Copying). s.ty_of) b,
      ap (λ (s : Copying). s.at) b ∙ q
          ∙ ap (λ z. c.at ++ z ∷ []) g,
      p,
      ap (λ (s : Copying). s.nodes) b,
      moved_as,
      e₁,
    ) refl

-- there is an element at each place
pub some_at : {X : Type 0} (xs : List X) (i : ℕ) → i < length xs → (x : X) × (slice_get xs i ≡ Some x)
some_at [] i h = absurd (omega (arith, h))
some_at (x ∷ xs) zero h = (x, refl)
some_at (x ∷ xs) (suc i) h = some_at xs i (omega arith)
