-- What is left of a copy: for each copy of a definition that is not complete a task, the innermost
-- first.
use Rattle.std.proofs.Common.{◌≡◌, ℕ, suc, zero, ◌+◌, ◌<◌, ◌≤◌, List, [], ◌∷◌, ◌++◌, map, length, drop, sum_by, slice_index, slice_get, Some, ap}
use Rattle.std.proofs.Common.{◌∙◌, subst, arith}
use Rattle.std.specs.List.{AllByRecursion}
use Rattle.cqp_syntax.specs.declared.node.Node.{Node}
use Rattle.cqp_syntax.specs.declared.ty.Ty.{Ty}
use Rattle.cqp_syntax.specs.TypeTrees.{TypeTree, type_at}
use Rattle.cqp_syntax.specs.Trees.{Process}
use Rattle.cqp_syntax.specs.Binders.{binders_of}
use Rattle.cqp_syntax.specs.Preorder.{process_nodes}
use Rattle.cqp_expand.specs.declared.copy.Instance.{Instance}
use Rattle.cqp_expand.specs.declared.outline.Outline.{Outline}
use Rattle.cqp_expand.specs.declared.outline.Member.{Member}
use Rattle.cqp_expand.specs.Expansion.{Template}
use Rattle.cqp_expand.specs.Spread.{member_names, member_breadth, nodes_of, types_of, offsets_from, Fits}
use Rattle.cqp_expand.specs.Copying.{Copying}
use Rattle.cqp_expand.proofs.ScopedMembers.{Scoped}

-- a copy of a definition: its instance, its outline, how many of its names have numbers, and the numbers
-- that all will have
pub record Task : Type 0 where
  pub instance : Instance
  pub outline : Outline
  pub bound : ℕ
  pub names : ℕ → ℕ

-- the members that are left
abbrev pub left : Task → List Member
left t = drop t.instance.next t.outline.members.items

-- the number of a node
abbrev pub node_number : Task → ℕ → ℕ
node_number t k = t.instance.start + slice_index t.outline.starts.items k

-- the type of a name
abbrev pub type_in : List Ty → Task → ℕ → TypeTree
type_in types t x = type_at types (slice_index t.outline.ty_of.items x)

-- the instances, the innermost last
abbrev pub instances_of : List Task → List Instance
instances_of [] = []
instances_of (t ∷ ts) = instances_of ts ++ t.instance ∷ []

module _ (all : List Template) where
  -- how many names are left to bind
  abbrev pub names_left : Task → ℕ
  names_left t = sum_by (member_names all) (left t)

  -- the nodes that are left, where the next binder has number n
  abbrev pub nodes_left : ℕ → List Task → List Node
  nodes_left n [] = []
  nodes_left n (t ∷ ts) = nodes_of all t.names (node_number t) n t.instance.next (left t) ++ nodes_left (n + names_left t) ts

  -- the types of the names that are left
  abbrev pub types_left : List Ty → List Task → List TypeTree
  types_left types [] = []
  types_left types (t ∷ ts) = types_of all (type_in types t) (left t) ++ types_left types ts

  -- the offsets that are left
  abbrev pub offsets_left : List Task → List ℕ
  offsets_left [] = []
  offsets_left (t ∷ ts) = offsets_from all (left t) (drop t.instance.next t.outline.at.items) ++ offsets_left ts

-- the task can be done, where the next binder has number n and these numbers stand before the limit
pub record IsTask (all : List Template) (types : List Ty) (outlines : List Outline) (numbers : List ℕ) (limit n : ℕ) (t : Task) : Type 0 where
  pub known : slice_get outlines t.instance.def ≡ Some t.outline
  pub fits : Fits all t.names (node_number t) n t.instance.next (left t)
  pub scoped : Scoped all t.instance.def (length t.outline.members.items) (length t.outline.ty_of.items) t.bound (left t)
  pub room : t.instance.base + t.bound ≤ limit
  pub own : (y : ℕ) → y < t.bound → slice_index numbers (t.instance.base + y) ≡ t.names y
  pub placed : length t.outline.at.items ≡ length t.outline.members.items
  pub places : length t.outline.starts.items ≡ length t.outline.members.items + 1
  pub small : (k : ℕ) → k ≤ length t.outline.members.items → node_number t k ≤ 20000
  pub counted : sum_by (member_breadth all) (left t) ≤ 20000
  pub typed : AllByRecursion (λ k. k < length types) t.outline.ty_of.items

-- the tasks can be done in turn
abbrev pub AreTasks : List Template → List Ty → List Outline → List ℕ → ℕ → ℕ → List Task → Type 0
AreTasks all types outlines numbers limit n [] = Unit {0}
AreTasks all types outlines numbers limit n (t ∷ ts) =
    IsTask all types outlines numbers limit n t × AreTasks all types outlines numbers t.instance.base (n + names_left all t) ts

-- with the tasks the lists become those of the process
pub record IsLeft (all : List Template) (types : List Ty) (outlines : List Outline) (p : Process) (at : List ℕ) (ts : List Task) (c : Copying) : Type 0 where
  pub instances : c.instances ≡ instances_of ts
  pub tasks : AreTasks all types outlines c.numbers (length c.numbers) (length c.ty_of) ts
  pub nodes : c.nodes ++ nodes_left all (length c.ty_of) ts ≡ process_nodes 0 p
  pub bound : map (type_at types) c.ty_of ++ types_left all types ts ≡ map (λ b. b.ty) (binders_of p)
  pub offsets : c.at ++ offsets_left all ts ≡ at
  pub typed : AllByRecursion (λ k. k < length types) c.ty_of

-- the element at a place and those behind it
pub drop_at : {X : Type 0} (xs : List X) (i : ℕ) (x : X) → slice_get xs i ≡ Some x → drop i xs ≡ x ∷ drop (i + 1) xs
drop_at xs i x h = let is : i + 1 ≡ suc i = omega arith in rw is (first xs i x h)
  where
    none_some : {X : Type 0} (x : X) → Rattle.std.proofs.Common.None ≡ Some x → ⊥
    none_some x e = cc

    same_some : {X : Type 0} (x y : X) → Some x ≡ Some y → x ≡ y
    same_some x y e = cc

    first : {X : Type 0} (xs : List X) (i : ℕ) (x : X) → slice_get xs i ≡ Some x → drop i xs ≡ x ∷ drop (suc i) xs
    first [] i x h = absurd (none_some x h)
    first (y ∷ ys) zero x h = ap (λ z. z ∷ ys) (same_some y x h)
    first (y ∷ ys) (suc i) x h = first ys i x h

-- other numbers behind the limit, and a greater limit, change nothing
pub tasks_keep : (all : List Template) (types : List Ty) (outlines : List Outline) (xs ys : List ℕ) (limit limit' n n' : ℕ) (ts : List Task)
    → ((i : ℕ) → i < limit → slice_index ys i ≡ slice_index xs i) → limit ≤ limit' → n ≡ n' → AreTasks all types outlines xs limit n ts
    → AreTasks all types outlines ys limit' n' ts
tasks_keep all types outlines xs ys limit limit' n n' [] k l e a = tt
tasks_keep all types outlines xs ys limit limit' n n' (t ∷ ts) k l e a =
    let room = a.0.room in (
      record {
        known = a.0.known;
        fits = subst (λ z. Fits all t.names (node_number t) z t.instance.next (left t)) e a.0.fits;
        scoped = a.0.scoped;
        room = omega (arith, room, l);
        own = λ y h. k (t.instance.base + y) (omega (arith, room, h)) ∙ a.0.own y h;
        placed = a.0.placed;
        places = a.0.places;
        small = a.0.small;
        counted = a.0.counted;
        typed = a.0.typed;
      },
      tasks_keep all types outlines xs ys t.instance.base t.instance.base (n + names_left all t) (n' + names_left all t) ts (λ i h. k i (omega
          (arith, room, h))) (omega arith) (ap (λ z. z + names_left all t) e) a.1,
    )
