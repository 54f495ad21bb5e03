-- A step of the copy: a node.
use Rattle.std.proofs.Common.{◌≡◌, ℕ, suc, zero, ◌+◌, ◌<◌, ◌≤◌, ◌^◌, List, [], ◌∷◌, ◌++◌, map, length, drop, sum_by, slice_index, slice_get, Some, refl, ap}
use Rattle.std.proofs.Common.{ap₂, sym, ◌∙◌, subst, arith, length-append, append_assoc, inl, inr, ◌⊎◌}
use Rattle.std.proofs.lemmas.List.{length-map, map-append}
use Rattle.std.proofs.lemmas.List.Sums.{sum_by-cons}
use Rattle.std.proofs.lemmas.Option.{slice_get_within, slice_get-get_or}
use Rattle.std.specs.List.{range_with_len, AllByRecursion}
use Rattle.cqp_syntax.specs.declared.node.Node.{Node}
use Rattle.cqp_syntax.specs.declared.ty.Ty.{Ty}
use Rattle.cqp_syntax.specs.TypeTrees.{type_at}
use Rattle.cqp_syntax.specs.Trees.{Process}
use Rattle.cqp_syntax.specs.Binders.{binders_of}
use Rattle.cqp_syntax.specs.Listing.{bodies_of, exprs_of}
use Rattle.cqp_expand.specs.declared.copy.Instance.{Instance}
use Rattle.cqp_expand.specs.declared.outline.Outline.{Outline}
use Rattle.cqp_expand.specs.declared.outline.Member.{Member}
use Rattle.cqp_expand.specs.declared.outline.Member.TheVariants.{Own}
use Rattle.cqp_expand.specs.Expansion.{Template, binder_count}
use Rattle.cqp_expand.specs.Moved.{moved, names_of}
use Rattle.cqp_expand.specs.Spread.{binds, member_names, member_breadth, nodes_of, types_of, offsets_from, Fits, CountUp}
use Rattle.cqp_expand.specs.Copying.{Copying, next_instance, numbered, with_own, CanOwn}
use Rattle.cqp_expand.proofs.Spreads.{counts_shift}
use Rattle.cqp_expand.proofs.ScopedMembers.{Scoped}
use Rattle.cqp_expand.proofs.Numbers.{numbered_length, numbered_keeps, numbered_next, moved_alike}
use Rattle.cqp_expand.proofs.Tasks.{Task, left, node_number, type_in, instances_of, names_left, nodes_left, types_left, offsets_left, IsTask, AreTasks, IsLeft}
use Rattle.cqp_expand.proofs.Tasks.{drop_at, tasks_keep}
use Rattle.cqp_expand.proofs.Small.{all_map}

-- the lists without the innermost instance's old state
abbrev pub resumed : Copying → List Task → Instance → Copying
resumed c ts f = record { instances = instances_of ts ++ next_instance f ∷ []; numbers = c.numbers; nodes = c.nodes; ty_of = c.ty_of; at = c.at }

-- a number is one of the first, or behind them
pub split_at : (k c y : ℕ) → y < k + c → (y < k) ⊎ ((j : ℕ) × (j < c) × (y ≡ k + j))
split_at zero c y h = inr (y, omega (arith, h), omega arith)
split_at (suc k) c zero h = inl (omega arith)
split_at (suc k) c (suc y) h = elim (split_at k c y (omega arith)) [
  | inl l ↦ inl (omega (arith, l))
  | inr r ↦ inr (r.0, r.1, let e = r.2 in omega (arith, e))
]

-- numbers that count up stay below their end
below_range : (xs : List ℕ) (k c total : ℕ) → xs ≡ range_with_len k c → k + c ≤ total → AllByRecursion (λ y. y < total) xs
below_range xs k c total e h = subst (AllByRecursion (λ y. y < total)) (sym e) (range k c total h)
  where
    range : (k c total : ℕ) → k + c ≤ total → AllByRecursion (λ y. y < total) (range_with_len k c)
    range k zero total h = tt
    range k (suc c) total h = (omega (arith, h), range (k + 1) c total (omega arith))

-- what holds of two lists holds of both together
pub all_append : (P : ℕ → Type 0) (xs ys : List ℕ) → AllByRecursion P xs → AllByRecursion P ys → AllByRecursion P (xs ++ ys)
all_append P [] ys a b = b
all_append P (x ∷ xs) ys a b = (a.0, all_append P xs ys a.1 b)

-- what holds of each number holds of one
index_all : (P : ℕ → Type 0) (xs : List ℕ) (i : ℕ) → i < length xs → AllByRecursion P xs → P (slice_index xs i)
index_all P [] i h a = absurd (omega (arith, h))
index_all P (x ∷ xs) zero h a = a.0
index_all P (x ∷ xs) (suc i) h a = index_all P xs i (omega arith) a.1

-- and of some
indexes_all : (P : ℕ → Type 0) (xs is : List ℕ) → AllByRecursion (λ i. i < length xs) is → AllByRecursion P xs → AllByRecursion P (map (slice_index xs) is)
indexes_all P xs [] h a = tt
indexes_all P xs (i ∷ is) h a = (index_all P xs i h.0 a, indexes_all P xs is h.1 a)

module _ (all : List Template) (types : List Ty) (outlines : List Outline) (p : Process) (at : List ℕ) (c : Copying) (t : Task) (ts : List Task) (x : Node)
    (l : IsLeft all types outlines p at (t ∷ ts) c) (here : slice_get t.outline.members.items t.instance.next ≡ Some (Own x)) where
  -- the innermost task
  abbrev task : IsTask all types outlines c.numbers (length c.numbers) (length c.ty_of) t
  task = l.tasks.0

  -- the number of the next binder
  abbrev n : ℕ
  n = length c.ty_of

  -- how many names the node binds
  abbrev count : ℕ
  count = length (binds x)

  -- the members behind the node
  abbrev later : List Member
  later = drop (t.instance.next + 1) t.outline.members.items

  -- what is left begins with the node
  is_left : left t ≡ Own x ∷ later
  is_left = drop_at t.outline.members.items t.instance.next (Own x) here

  -- what is left names what stands before
  scoped : Scoped all t.instance.def (length t.outline.members.items) (length t.outline.ty_of.items) t.bound (Own x ∷ later)
  scoped = subst (Scoped all t.instance.def (length t.outline.members.items) (length t.outline.ty_of.items) t.bound) is_left task.scoped

  -- and its numbers fit
  fits : Fits all t.names (node_number t) n t.instance.next (Own x ∷ later)
  fits = subst (Fits all t.names (node_number t) n t.instance.next) is_left task.fits

  -- the numbers once the binders have theirs
  abbrev numbers : List ℕ
  numbers = numbered t.instance.base n c.numbers (binds x)

  -- the binders count up
  as_range : numbers ≡ numbered t.instance.base n c.numbers (range_with_len t.bound count)
  as_range = ap (numbered t.instance.base n c.numbers) scoped.0.bound

  -- the numbers before stay
  keeps : (i : ℕ) → i < t.instance.base + t.bound → slice_index numbers i ≡ slice_index c.numbers i
  keeps i h = ap (λ z. slice_index z i) as_range ∙ numbered_keeps t.instance.base count t.bound n i c.numbers task.room h

  -- there is a number for each name
  longer : t.instance.base + (t.bound + count) ≤ length numbers
  longer = subst (λ z. t.instance.base + (t.bound + count) ≤ length z) (sym as_range) (numbered_length t.instance.base count t.bound n c.numbers task.room)

  -- each name so far has its number
  own_numbers : (y : ℕ) → y < t.bound + count → slice_index numbers (t.instance.base + y) ≡ t.names y
  own_numbers y h = elim (split_at t.bound count y h) [
    | inl less ↦ keeps (t.instance.base + y) (omega (arith, less)) ∙ task.own y less
    | inr r ↦ behind r.0 r.1 r.2
  ]
    where
      behind : (j : ℕ) → j < count → y ≡ t.bound + j → slice_index numbers (t.instance.base + y) ≡ t.names y
      behind j less e =
          let shift = counts_shift t.names t.bound n count (subst (CountUp t.names n) scoped.0.bound fits.0) in
          rw e (ap (λ z. slice_index z (t.instance.base + (t.bound + j))) as_range
          ∙ numbered_next t.instance.base count t.bound n j c.numbers task.room less ∙ sym (shift.at j less))

  -- the offset of the node
  place : slice_get t.outline.at.items t.instance.next ≡ Some (slice_index t.outline.at.items t.instance.next)
  place = slice_get-get_or t.outline.at.items t.instance.next 0 (let w = slice_get_within t.outline.members.items t.instance.next
      (Own x) here in let e = task.placed in omega (arith, w, e))

  -- a part of the node has a number
  part_fits : (k : ℕ) → k ≤ length t.outline.members.items
      → (k < length t.outline.starts.items) × (t.instance.start + slice_index t.outline.starts.items k < 2 ^ 32)
  part_fits k h =
      let few = task.small k h in
      let places = task.places in
      (omega (arith, h, places), omega (arith, few))

  -- what the node needs
  pub own_can : binder_count p ≤ 20000 → CanOwn t.outline t.instance x (resumed c ts t.instance)
  own_can few =
      let within = slice_get_within t.outline.members.items t.instance.next (Own x) here in
      let placed = task.placed in
      let total = length-map (binders_of p) (λ b. b.ty) in
      let bound : length (map (type_at types) c.ty_of ++ types_left all types (t ∷ ts)) ≡ binder_count p = ap length l.bound ∙ total in
      let xs = ap (types_of all (type_in types t)) is_left in
      let own : length (types_left all types (t ∷ ts))
      ≡ count + length (types_of all (type_in types t) later) + length (types_left all types ts) = length-append (types_of all (type_in types t)
      (left t)) _ ∙ ap (λ z. z + length (types_left all types ts)) (ap length xs ∙ length-append (map (type_in types t) (binds x)) _
      ∙ ap (λ z. z + length (types_of all (type_in types t) later)) (length-map (binds x) (type_in types t))) in
      let sum = length-append (map (type_at types) c.ty_of) (types_left all types (t ∷ ts)) in
      let done = length-map c.ty_of (type_at types) in
      record {
        placed = omega (arith, within, placed);
        bind = record {
          typed = below_range (binds x) t.bound count (length t.outline.ty_of.items) scoped.0.bound scoped.0.within;
          few = omega (arith, few, bound, own, sum, done);
          within = let room = task.room in omega (arith, room);
        };
        names = all_map (λ y. y < t.bound + count) (λ y. t.instance.base + y < length numbers) (names_of x) (λ y h. let w = longer in omega
            (arith, h, w)) scoped.0.names;
        exprs = all_map (λ j. j ≤ length t.outline.members.items) (λ k. (k < length t.outline.starts.items) ×
            (t.instance.start + slice_index t.outline.starts.items k < 2 ^ 32)) (exprs_of x) part_fits scoped.0.exprs;
        bodies = all_map (λ j. j ≤ length t.outline.members.items) (λ k. (k < length t.outline.starts.items) ×
            (t.instance.start + slice_index t.outline.starts.items k < 2 ^ 32)) (bodies_of x) part_fits scoped.0.bodies;
      }

  -- the task behind it
  abbrev pub own_task : Task
  own_task = record { instance = next_instance t.instance; outline = t.outline; bound = t.bound + count; names = t.names }

  -- how many binders there are behind it
  new_count : length (c.ty_of ++ map (slice_index t.outline.ty_of.items) (binds x)) ≡ n + count
  new_count = length-append c.ty_of _ ∙ ap (λ z. n + z) (length-map (binds x) (slice_index t.outline.ty_of.items))

  -- the next binder behind the task
  names_sum : n + names_left all t ≡ n + count + names_left all own_task
  names_sum = let sum = ap (sum_by (member_names all)) is_left ∙ sum_by-cons (member_names all) (Own x) later in omega (arith, sum)

  -- the tasks can be done
  own_tasks : AreTasks all types outlines numbers (length numbers) (n + count) (own_task ∷ ts)
  own_tasks =
      let room = task.room in (
        record {
          known = task.known;
          fits = fits.2;
          scoped = scoped.1;
          room = longer;
          own = own_numbers;
          placed = task.placed;
          places = task.places;
          small = task.small;
          counted = let sum = ap (sum_by (member_breadth all)) is_left
              ∙ sum_by-cons (member_breadth all) (Own x) later in let few = task.counted in omega (arith, sum, few);
          typed = task.typed;
        },
        tasks_keep all types outlines c.numbers numbers t.instance.base t.instance.base (n + names_left all t) (n + count + names_left all own_task) ts
            (λ i h. keeps i (omega (arith, h))) (omega arith) names_sum l.tasks.1,
      )

  -- the node is moved by the task
  copied : moved (λ y. slice_index numbers (t.instance.base + y)) (node_number t) x ≡ moved t.names (node_number t) x
  copied = moved_alike (λ y. slice_index numbers (t.instance.base + y)) t.names (node_number t) x (all_map (λ y. y < t.bound + count) _
      (names_of x) own_numbers scoped.0.names)

  -- once the node is copied, less is left
  pub own_step : IsLeft all types outlines p at (own_task ∷ ts) (with_own t.outline t.instance x (resumed c ts t.instance))
  own_step =
      let m = node_number t in
      let rest = nodes_left all (n + names_left all t) ts in
      let nodes_before = nodes_of all t.names m (n + count) (t.instance.next + 1) later in
      let first : nodes_left all n (t ∷ ts) ≡ moved t.names m x ∷ (nodes_before ++ rest) =
      ap (λ z. nodes_of all t.names m n t.instance.next z ++ rest) is_left in
      let behind : rest ≡ nodes_left all (n + count + names_left all own_task) ts = ap (λ z. nodes_left all z ts) names_sum in
      let types_first : types_left all types (t ∷ ts) ≡ map (type_in types t) (binds x) ++ (types_of all (type_in types t) later
      ++ types_left all types ts) = ap (λ z. types_of all (type_in types t) z ++ types_left all types ts) is_left
      ∙ append_assoc (map (type_in types t) (binds x)) (types_of all (type_in types t) later) (types_left all types ts) in
      let a = slice_index t.outline.at.items t.instance.next in
      let offsets_first : offsets_left all (t ∷ ts) ≡ a ∷ (offsets_from all later (drop (t.instance.next + 1) t.outline.at.items)
      ++ offsets_left all ts) = ap₂ (λ y z. offsets_from all y z ++ offsets_left all ts) is_left (drop_at t.outline.at.items t.instance.next a place) in
      record {
        instances = refl;
        tasks = subst (λ z. AreTasks all types outlines numbers (length numbers) z (own_task ∷ ts)) (sym new_count) own_tasks;
        nodes = ap₂ (λ y z. (c.nodes ++ y ∷ []) ++ nodes_left all z (own_task ∷ ts)) copied new_count
            ∙ append_assoc c.nodes (moved t.names m x ∷ []) (nodes_left all (n + count) (own_task ∷ ts))
            ∙ ap (λ z. c.nodes ++ (moved t.names m x ∷ (nodes_before ++ z))) (sym behind) ∙ ap (λ z. c.nodes ++ z) (sym first) ∙ l.nodes;
        bound = ap (λ z. z ++ types_left all types (own_task ∷ ts)) (map-append (type_at types) c.ty_of (map (slice_index t.outline.ty_of.items)
            (binds x)) ∙ ap (λ z. map (type_at types) c.ty_of ++ z) (map_twice (binds x)))
            ∙ append_assoc (map (type_at types) c.ty_of) (map (type_in types t) (binds x)) (types_left all types (own_task ∷ ts))
            ∙ ap (λ z. map (type_at types) c.ty_of ++ z) (sym types_first) ∙ l.bound;
        offsets = append_assoc c.at (a ∷ []) (offsets_left all (own_task ∷ ts)) ∙ ap (λ z. c.at ++ z) (sym offsets_first) ∙ l.offsets;
        typed = all_append (λ k. k < length types) c.ty_of (map (slice_index t.outline.ty_of.items) (binds x)) l.typed
            (indexes_all (λ k. k < length types) t.outline.ty_of.items (binds x) (below_range (binds x) t.bound count
            (length t.outline.ty_of.items) scoped.0.bound scoped.0.within) task.typed);
      }
    where
      map_twice : (xs : List ℕ) → map (type_at types) (map (slice_index t.outline.ty_of.items) xs) ≡ map (type_in types t) xs
      map_twice [] = refl
      map_twice (y ∷ xs) = ap (λ z. type_in types t y ∷ z) (map_twice xs)
