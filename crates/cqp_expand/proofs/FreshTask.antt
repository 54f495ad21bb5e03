-- The task of a copy that begins.
use Rattle.std.proofs.Common.{◌≡◌, ℕ, ◌+◌, ◌<◌, ◌≤◌, List, [], ◌∷◌, ◌++◌, map, length, drop, take, sum_by, slice_index, refl, ap, ap₂, sym, ◌∙◌, subst}
use Rattle.std.proofs.Common.{arith, length-append}
use Rattle.std.proofs.lemmas.List.{length-map}
use Rattle.std.proofs.lemmas.List.Sums.{sum_by-cons, sum_by-take-le}
use Rattle.cqp_syntax.specs.declared.ty.Ty.{Ty}
use Rattle.cqp_syntax.specs.TypeTrees.{TypeTree}
use Rattle.cqp_syntax.specs.Binders.{binders_of}
use Rattle.cqp_syntax.specs.Preorder.{process_nodes, process_size}
use Rattle.cqp_expand.specs.declared.outline.Outline.{Outline}
use Rattle.cqp_expand.specs.declared.outline.Member.{Member}
use Rattle.cqp_expand.specs.declared.outline.Member.TheVariants.{Own, Call}
use Rattle.cqp_expand.specs.Renaming.{rename}
use Rattle.cqp_expand.specs.Counts.{count_of}
use Rattle.cqp_expand.specs.Expansion.{Template, binder_count, argument_or_later}
use Rattle.cqp_expand.specs.Spread.{binds, body_at, member_size, member_names, member_breadth, nodes_of, types_of, offsets_from, Fits}
use Rattle.cqp_expand.proofs.Outlined.{IsKnownAs, summed}
use Rattle.cqp_expand.proofs.Made.{numbers_of, index_within, fits_both, counts_made, starts_made}
use Rattle.cqp_expand.proofs.ScopedMembers.{Scoped}
use Rattle.cqp_expand.proofs.Tasks.{Task, left, node_number, type_in, names_left, IsTask}
use Rattle.cqp_expand.proofs.Small.{every, drop_none, take_none}

-- members bind as many names as they have types for
types_count : (all : List Template) (ty : ℕ → TypeTree) (xs : List Member) → length (types_of all ty xs) ≡ sum_by (member_names all) xs
types_count all ty [] = refl
types_count all ty (Own x ∷ xs) = length-append (map ty (binds x)) (types_of all ty xs)
    ∙ ap₂ (λ a b. a + b) (length-map (binds x) ty) (types_count all ty xs) ∙ sym (sum_by-cons (member_names all) (Own x) xs)
types_count all ty (Call def args ∷ xs) =
    length-append (map (λ b. b.ty) (binders_of (body_at all def))) (types_of all ty xs)
    ∙ ap₂ (λ a b. a + b) (length-map (binders_of (body_at all def)) (λ b. b.ty)) (types_count all ty xs)
    ∙ sym (sum_by-cons (member_names all) (Call def args) xs)

module _ (all : List Template) (types : List Ty) (outlines : List Outline) (def : ℕ) (known : IsKnownAs all types outlines def) (given : List ℕ)
    (base n start : ℕ) where
  -- the outline
  abbrev d : Outline
  d = known.outline

  -- the template
  abbrev u : Template
  u = known.template

  -- the copy's names begin with these, and its first node has this number
  abbrev pub fresh : Task
  fresh = record {
    instance = record { def = def; next = 0; base = base; start = start };
    outline = d;
    bound = length given;
    names = slice_index (given ++ numbers_of all n d.members.items);
  }

  -- there is an argument for each parameter, and the copy is small
  pub record IsFresh : Type 0 where
    pub arity : length given ≡ u.arity
    pub few : count_of u.body ≤ 20000
    pub room : start + process_size u.body ≤ 20000

  -- all members are left
  whole : left fresh ≡ d.members.items
  whole = drop_none d.members.items

  module _ (f : IsFresh) where
    -- the outline counts little
    few_outline : d.count ≤ 20000
    few_outline = let is = known.sized.count in let few = f.few in omega (arith, is, few)

    -- the numbers of the nodes
    starts : (k : ℕ) → k ≤ length d.members.items → node_number fresh k ≡ start + sum_by (member_size all) (take k d.members.items)
    starts k h = ap (λ z. start + z) (known.sized.starts few_outline k h)

    -- the members name what stands before
    scoped : Scoped all def (length d.members.items) (length d.ty_of.items) (length given) d.members.items
    scoped = subst (λ z. Scoped all def (length d.members.items) (length d.ty_of.items) z d.members.items) (sym f.arity) known.copied.scoped

    -- and the numbers fit
    fits : Fits all fresh.names (node_number fresh) n 0 d.members.items
    fits = fits_both all fresh.names (node_number fresh) n 0 d.members.items
        (counts_made all def (length d.members.items) (length d.ty_of.items) (length given) n given d.members.items refl scoped)
        (starts_made all (node_number fresh) (member_size all) 0 start d.members.items (every _ d.members.items (λ x. refl)) (λ k h. from_none k h))
      where
        from_none : (k : ℕ) → k ≤ length d.members.items → node_number fresh (0 + k) ≡ start + sum_by (member_size all) (take k d.members.items)
        from_none k h = let is : 0 + k ≡ k = omega arith in ap (node_number fresh) is ∙ starts k h

    -- the numbers of the nodes are small
    few_nodes : (k : ℕ) → k ≤ length d.members.items → node_number fresh k ≤ 20000
    few_nodes k h =
        let size = (summed all types def d u known.copied).size in
        let part = sum_by-take-le (member_size all) d.members.items k in
        let room = f.room in
        let is = starts k h in
        omega (arith, size, part, is, room)

    -- the task can be done where the arguments stand
    pub fresh_task : (numbers : List ℕ) (limit : ℕ) → base + length given ≤ limit → ((y : ℕ) → y < length given
        → slice_index numbers (base + y) ≡ slice_index given y) → IsTask all types outlines numbers limit n fresh
    fresh_task numbers limit room own = record {
      known = known.at_outline;
      fits = subst (Fits all fresh.names (node_number fresh) n 0) (sym whole) fits;
      scoped = subst (Scoped all def (length d.members.items) (length d.ty_of.items) (length given)) (sym whole) scoped;
      room = room;
      own = λ y h. own y h ∙ sym (index_within given (numbers_of all n d.members.items) y h);
      placed = known.copied.placed;
      places = known.sized.places few_outline;
      small = few_nodes;
      counted = let few = f.few in let sum = (summed all types def d u known.copied).breadth in let e = ap (sum_by
          (member_breadth all)) whole in omega (arith, few, sum, e);
      typed = known.copied.typed;
    }

    -- its nodes are those of a copy
    pub fresh_nodes : nodes_of all fresh.names (node_number fresh) n 0 (left fresh) ≡ process_nodes start (rename (argument_or_later given n) u.body)
    fresh_nodes =
        let zero_start : node_number fresh 0 ≡ start = starts 0 (omega arith)
        ∙ ap (λ z. start + sum_by (member_size all) z) (take_none d.members.items) ∙ add_none start in
        ap (nodes_of all fresh.names (node_number fresh) n 0) whole
        ∙ known.copied.nodes given n start fresh.names (node_number fresh) f.arity (λ x h. index_within given (numbers_of all n d.members.items) x
        (let e = f.arity in omega (arith, h, e))) fits zero_start
      where
        add_none : (a : ℕ) → a + 0 ≡ a
        add_none a = omega arith

  -- so are the types and the offsets
  pub fresh_types : types_of all (type_in types fresh) (left fresh) ≡ map (λ b. b.ty) (binders_of u.body)
  fresh_types = ap (types_of all (type_in types fresh)) whole ∙ known.copied.bound

  -- so are the offsets
  pub fresh_offsets : offsets_from all (left fresh) (drop 0 d.at.items) ≡ u.at
  fresh_offsets = ap₂ (offsets_from all) whole (drop_none d.at.items) ∙ known.copied.offsets

  -- how many names are bound
  pub fresh_names : names_left all fresh ≡ binder_count u.body
  fresh_names = ap (sum_by (member_names all)) whole ∙ sym (types_count all (type_in types fresh) d.members.items) ∙ ap length known.copied.bound
      ∙ length-map (binders_of u.body) (λ b. b.ty)
