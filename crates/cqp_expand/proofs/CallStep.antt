-- A step of the copy: a call begins.
use Rattle.std.proofs.Common.{◌≡◌, ℕ, suc, ◌+◌, ◌<◌, List, [], ◌∷◌, ◌++◌, map, length, drop, sum_by, slice_index, slice_get, Some, refl, ap, ap₂, sym, ◌∙◌}
use Rattle.std.proofs.Common.{subst, arith, length-append, append_assoc}
use Rattle.std.proofs.lemmas.List.{length-map}
use Rattle.std.proofs.lemmas.List.Sums.{sum_by-cons}
use Rattle.std.proofs.lemmas.Option.{slice_get_within, slice_get-get_or}
use Rattle.std.specs.List.{AllByRecursion}
use Rattle.cqp_syntax.specs.declared.ty.Ty.{Ty}
use Rattle.cqp_syntax.specs.TypeTrees.{type_at}
use Rattle.cqp_syntax.specs.Trees.{Process}
use Rattle.cqp_syntax.specs.Binders.{binders_of}
use Rattle.cqp_syntax.specs.Preorder.{process_nodes, process_size}
use Rattle.cqp_expand.specs.declared.outline.Outline.{Outline}
use Rattle.cqp_expand.specs.declared.outline.Member.{Member}
use Rattle.cqp_expand.specs.declared.outline.Member.TheVariants.{Call}
use Rattle.cqp_expand.specs.Renaming.{rename}
use Rattle.cqp_expand.specs.Counts.{count_of}
use Rattle.cqp_expand.specs.Expansion.{Template, binder_count, argument_or_later, offsets_of}
use Rattle.cqp_expand.specs.Spread.{body_at, template_at, member_names, member_breadth, member_nodes, nodes_of, types_of, offsets_from, Fits}
use Rattle.cqp_expand.specs.Copying.{Copying, next_instance, passed, with_call, CanCall}
use Rattle.cqp_expand.proofs.Outlined.{IsKnownAs}
use Rattle.cqp_expand.proofs.Made.{index_within}
use Rattle.cqp_expand.proofs.ScopedMembers.{Scoped, CallScoped}
use Rattle.cqp_expand.proofs.FreshTask.{fresh, IsFresh, fresh_task, fresh_nodes, fresh_types, fresh_offsets, fresh_names}
use Rattle.cqp_expand.proofs.OwnStep.{resumed}
use Rattle.cqp_expand.proofs.Tasks.{Task, left, node_number, type_in, names_left, nodes_left, types_left, offsets_left, IsTask, AreTasks, IsLeft, drop_at}
use Rattle.cqp_expand.proofs.Tasks.{tasks_keep}
use Rattle.cqp_expand.proofs.Small.{same_some, all_map}

-- an element of the second part
index_after : (xs ys : List ℕ) (i : ℕ) → slice_index (xs ++ ys) (length xs + i) ≡ slice_index ys i
index_after [] ys i = let is : 0 + i ≡ i = omega arith in ap (slice_index ys) is
index_after (x ∷ xs) ys i = let is : length (x ∷ xs) + i ≡ suc (length xs + i) = omega arith in rw is (index_after xs ys i)

-- the arguments have the numbers of their names
names_passed : (f : ℕ → ℕ) (base k : ℕ) (numbers args : List ℕ) → ((y : ℕ) → y < k → slice_index numbers (base + y) ≡ f y)
    → AllByRecursion (λ y. y < k) args → passed base numbers args ≡ map f args
names_passed f base k numbers [] h a = refl
names_passed f base k numbers (x ∷ xs) h a = ap₂ (λ y ys. y ∷ ys) (h x a.0) (names_passed f base k numbers xs h a.1)

module _ (all : List Template) (types : List Ty) (outlines : List Outline) (p : Process) (at : List ℕ) (c : Copying) (t : Task) (ts : List Task)
    (def : ℕ) (args : List ℕ)
    (l : IsLeft all types outlines p at (t ∷ ts) c) (here : slice_get t.outline.members.items t.instance.next ≡ Some (Call def args)) where
  -- the innermost task
  abbrev task : IsTask all types outlines c.numbers (length c.numbers) (length c.ty_of) t
  task = l.tasks.0

  -- the number of the next binder
  abbrev n : ℕ
  n = length c.ty_of

  -- the members behind the call
  abbrev later : List Member
  later = drop (t.instance.next + 1) t.outline.members.items

  -- what is left begins with the call
  is_left : left t ≡ Call def args ∷ later
  is_left = drop_at t.outline.members.items t.instance.next (Call def args) here

  -- what is left names what stands before
  scoped : Scoped all t.instance.def (length t.outline.members.items) (length t.outline.ty_of.items) t.bound (Call def args ∷ later)
  scoped = subst (Scoped all t.instance.def (length t.outline.members.items) (length t.outline.ty_of.items) t.bound) is_left task.scoped

  -- and its numbers fit
  fits : Fits all t.names (node_number t) n t.instance.next (Call def args ∷ later)
  fits = subst (Fits all t.names (node_number t) n t.instance.next) is_left task.fits

  -- what is known of the call
  abbrev own_args : CallScoped all t.instance.def t.bound def args
  own_args = scoped.0

  -- the call names an earlier definition
  pub called_before : def < t.instance.def
  called_before = own_args.before

  -- what the call needs
  pub call_can : CanCall t.outline t.instance args (resumed c ts t.instance)
  call_can =
      let within = slice_get_within t.outline.members.items t.instance.next (Call def args) here in
      let places = task.places in
      let few = task.small t.instance.next (omega (arith, within)) in
      let room = task.room in
      record {
        within = omega (arith, within, places);
        small = omega (arith, few);
        passed = all_map (λ y. y < t.bound) (λ a. t.instance.base + a < length c.numbers) args (λ y h. omega (arith, h, room)) own_args.names;
      }

  module _ (known : IsKnownAs all types outlines def) where
    -- the outline of what is called
    abbrev d : Outline
    d = known.outline

    -- its template
    abbrev u : Template
    u = known.template

    -- the numbers of the arguments
    abbrev given : List ℕ
    given = map t.names args

    -- the number of the first node of the copy
    abbrev start : ℕ
    start = node_number t t.instance.next

    -- the task of the call, and the one that goes on behind it
    abbrev pub call_task : Task
    call_task = fresh all types outlines def known given (length c.numbers) n start

    -- the task that goes on behind the call
    abbrev pub rest_task : Task
    rest_task = record { instance = next_instance t.instance; outline = t.outline; bound = t.bound; names = t.names }

    -- what is called
    body : body_at all def ≡ u.body
    body = rw known.at_template refl

    -- how many arguments there are
    given_count : length given ≡ length args
    given_count = length-map args t.names

    -- the numbers that are passed
    numbers_passed : passed t.instance.base c.numbers args ≡ given
    numbers_passed = names_passed t.names t.instance.base t.bound c.numbers args task.own own_args.names

    -- the numbers with those of the arguments
    abbrev numbers : List ℕ
    numbers = c.numbers ++ passed t.instance.base c.numbers args

    -- the callee counts no more than the caller, and its nodes have numbers up to the caller's next
    is_fresh : IsFresh all types outlines def known given (length c.numbers) n start
    is_fresh =
        let few = task.counted in
        let sum = ap (sum_by (member_breadth all)) is_left ∙ sum_by-cons (member_breadth all) (Call def args) later in
        let count = ap count_of body in
        let within = slice_get_within t.outline.members.items t.instance.next (Call def args) here in
        let next = task.small (t.instance.next + 1) (omega (arith, within)) in
        let end = fits.1 in
        let size = ap process_size body in
        record {
          arity = given_count ∙ sym own_args.arity ∙ ap (λ (z : Template). z.arity) (same_some own_args.template u (sym own_args.at ∙ known.at_template));
          few = omega (arith, few, sum, count);
          room = omega (arith, next, end, size);
        }

    -- the next binder behind the call
    behind : n + names_left all call_task ≡ n + member_names all (Call def args)
    behind = ap (λ z. n + z) (fresh_names all types outlines def known given (length c.numbers) n start ∙ ap binder_count (sym body))

    -- the next binder behind both tasks
    behind_all : n + names_left all t ≡ n + names_left all call_task + names_left all rest_task
    behind_all = let sum = ap (sum_by (member_names all)) is_left
        ∙ sum_by-cons (member_names all) (Call def args) later in let e = behind in omega (arith, sum, e)

    -- the numbers before stay
    stays : (i : ℕ) → i < length c.numbers → slice_index numbers i ≡ slice_index c.numbers i
    stays i h = index_within c.numbers (passed t.instance.base c.numbers args) i h

    -- the call can be done
    new_task : IsTask all types outlines numbers (length numbers) n call_task
    new_task = fresh_task all types outlines def known given (length c.numbers) n start is_fresh numbers (length numbers)
        (let sum = length-append c.numbers (passed t.instance.base c.numbers args) in let count = ap length numbers_passed in omega (arith, sum, count))
        (λ y h. index_after c.numbers (passed t.instance.base c.numbers args) y ∙ ap (λ z. slice_index z y) numbers_passed)

    -- and what is behind it
    old_task : IsTask all types outlines numbers (length c.numbers) (n + names_left all call_task) rest_task
    old_task = record {
      known = task.known;
      fits = subst (λ z. Fits all t.names (node_number t) z (t.instance.next + 1) later) (sym behind) fits.2;
      scoped = subst (λ z. Scoped all t.instance.def (length t.outline.members.items) (length t.outline.ty_of.items) z later) (add_none t.bound) scoped.1;
      room = task.room;
      own = λ y h. stays (t.instance.base + y) (let room = task.room in omega (arith, room, h)) ∙ task.own y h;
      placed = task.placed;
      places = task.places;
      small = task.small;
      counted = let sum = ap (sum_by (member_breadth all)) is_left
          ∙ sum_by-cons (member_breadth all) (Call def args) later in let few = task.counted in omega (arith, sum, few);
      typed = task.typed;
    }
      where
        add_none : (a : ℕ) → a + 0 ≡ a
        add_none a = omega arith

    -- and all the others
    new_tasks : AreTasks all types outlines numbers (length numbers) n (call_task ∷ rest_task ∷ ts)
    new_tasks =
        let room = task.room in (
          new_task,
          (
            old_task,
            tasks_keep all types outlines c.numbers numbers t.instance.base t.instance.base (n + names_left all t)
                (n + names_left all call_task + names_left all rest_task) ts (λ i h. stays i (omega (arith, room, h))) (omega arith) behind_all l.tasks.1,
          ),
        )

    -- the nodes of the call are those of the new task
    call_nodes : member_nodes all t.names (node_number t) n t.instance.next (Call def args)
        ≡ nodes_of all call_task.names (node_number call_task) n 0 (left call_task)
    call_nodes = ap (λ z. process_nodes start (rename (argument_or_later given n) z)) body
        ∙ sym (fresh_nodes all types outlines def known given (length c.numbers) n start is_fresh)

    -- once the call has begun, what is left is the same
    pub call_step : IsLeft all types outlines p at (call_task ∷ rest_task ∷ ts) (with_call t.outline t.instance def args (resumed c ts t.instance))
    call_step =
        let m = node_number t in
        let rest = nodes_left all (n + names_left all t) ts in
        let own = nodes_of all t.names m (n + member_names all (Call def args)) (t.instance.next + 1) later in
        let first : nodes_left all n (t ∷ ts) ≡ (member_nodes all t.names m n t.instance.next (Call def args) ++ own)
        ++ rest = ap (λ z. nodes_of all t.names m n t.instance.next z ++ rest) is_left in
        let nodes_is : nodes_left all n (call_task ∷ rest_task ∷ ts) ≡ nodes_left all n (t ∷ ts)
        = ap₂ (λ y z. y ++ z) (sym call_nodes)
        (ap₂ (λ y z. nodes_of all t.names m y (t.instance.next + 1) later ++ nodes_left all z ts) behind (sym behind_all))
        ∙ sym (append_assoc (member_nodes all t.names m n t.instance.next (Call def args)) own rest) ∙ sym first in
        let called_types : types_of all (type_in types call_task) (left call_task) ≡ map (λ b. b.ty) (binders_of (body_at all def))
        = fresh_types all types outlines def known given (length c.numbers) n start ∙ ap (λ z. map (λ b. b.ty) (binders_of z)) (sym body) in
        let types_is : types_left all types (call_task ∷ rest_task ∷ ts) ≡ types_left all types (t ∷ ts)
        = ap (λ y. y ++ (types_of all (type_in types t) later ++ types_left all types ts)) called_types
        ∙ sym (append_assoc (map (λ b. b.ty) (binders_of (body_at all def))) (types_of all (type_in types t) later) (types_left all types ts))
        ∙ ap (λ z. types_of all (type_in types t) z ++ types_left all types ts) (sym is_left) in
        let a = slice_index t.outline.at.items t.instance.next in
        let called_at : offsets_from all (left call_task) (drop 0 d.at.items) ≡ offsets_of (template_at all def)
        = fresh_offsets all types outlines def known given (length c.numbers) n start ∙ sym (ap offsets_of known.at_template) in
        let more = drop (t.instance.next + 1) t.outline.at.items in
        let offsets_is : offsets_left all (call_task ∷ rest_task ∷ ts) ≡ offsets_left all (t ∷ ts)
        = ap (λ y. y ++ (offsets_from all later more ++ offsets_left all ts)) called_at
        ∙ sym (append_assoc (offsets_of (template_at all def)) (offsets_from all later more) (offsets_left all ts))
        ∙ sym (ap₂ (λ y z. offsets_from all y z ++ offsets_left all ts) is_left (drop_at t.outline.at.items t.instance.next a place)) in
        record {
          instances = refl;
          tasks = new_tasks;
          nodes = ap (λ z. c.nodes ++ z) nodes_is ∙ l.nodes;
          bound = ap (λ z. map (type_at types) c.ty_of ++ z) types_is ∙ l.bound;
          offsets = ap (λ z. c.at ++ z) offsets_is ∙ l.offsets;
          typed = l.typed;
        }
      where
        place : slice_get t.outline.at.items t.instance.next ≡ Some (slice_index t.outline.at.items t.instance.next)
        place = slice_get-get_or t.outline.at.items t.instance.next 0 (let w = slice_get_within t.outline.members.items t.instance.next
            (Call def args) here in let e = task.placed in omega (arith, w, e))
