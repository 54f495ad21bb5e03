-- The turns of the copy: what is left before and after each.
use Rattle.std.proofs.Common.{◌≡◌, ℕ, suc, zero, ◌+◌, ◌<◌, ◌≤◌, List, [], ◌∷◌, ◌++◌, map, length, drop, slice_get, nat_lt, true, Some}
use Rattle.std.proofs.Common.{refl, ap, ap₂, sym, ◌∙◌, subst, arith, length-append, append-nil}
use Rattle.std.proofs.lemmas.Option.{slice_get_within}
use Rattle.std.proofs.lemmas.Bool.Decides.{nat_tests}
use Rattle.std.specs.List.{list_all, AllByRecursion}
use Rattle.cqp_syntax.specs.declared.ty.Ty.{Ty}
use Rattle.cqp_syntax.specs.TypeTrees.{type_at}
use Rattle.cqp_syntax.specs.Binders.{binders_of}
use Rattle.cqp_syntax.specs.Preorder.{process_nodes, process_size}
use Rattle.cqp_syntax.proofs.Sizes.{length-process_nodes, length_within_breadths}
use Rattle.cqp_grammar.specs.Trees.{ProgramTree}
use Rattle.cqp_expand.specs.declared.copy.Instance.{Instance}
use Rattle.cqp_expand.specs.declared.outline.Outline.{Outline}
use Rattle.cqp_expand.specs.declared.outline.Member.{Member}
use Rattle.cqp_expand.specs.declared.outline.Member.TheVariants.{Own, Call}
use Rattle.cqp_expand.specs.Counts.{count_of}
use Rattle.cqp_expand.specs.Expansion.{Template, expansion, expansion_offsets, templates_after}
use Rattle.cqp_expand.specs.Spread.{template_at, nodes_of, types_of, offsets_from}
use Rattle.cqp_expand.specs.Copying.{Copying, popped, begun, with_member, CanCopy}
use Rattle.cqp_expand.specs.Copies.{IsSmall, IsCopyOf}
use Rattle.cqp_expand.proofs.AllOutlines.{main_template, program_templates, program_known, length-outlines, length-templates_after}
use Rattle.cqp_expand.proofs.BinderCounts.{few_binders, identity_copy}
use Rattle.cqp_expand.proofs.CallStep.{called_before, call_can, call_step}
use Rattle.cqp_expand.proofs.Outlined.{IsKnownAs}
use Rattle.cqp_expand.proofs.Found.{template_last}
use Rattle.cqp_expand.proofs.FreshTask.{fresh, IsFresh, fresh_task, fresh_nodes, fresh_types, fresh_offsets}
use Rattle.cqp_expand.proofs.OwnStep.{resumed, own_can, own_step}
use Rattle.cqp_expand.proofs.Tasks.{Task, left, node_number, type_in, nodes_left, types_left, offsets_left, instances_of, IsLeft, names_left, tasks_keep}
use Rattle.cqp_expand.proofs.Snoc.{no_snoc, same_snoc}
use Rattle.cqp_expand.proofs.Small.{same_some}

-- without its innermost instance
abbrev pub ended : Copying → List Instance → Copying
ended c fs = record { instances = fs; numbers = c.numbers; nodes = c.nodes; ty_of = c.ty_of; at = c.at }

-- the copy goes on: with the tasks that are left, the lists become those of the program's process
pub record IsGoing (t : ProgramTree) (types : List Ty) (outlines : List Outline) (c : Copying) : Type 0 where
  pub tasks : List Task
  pub is : IsLeft (program_templates t) types outlines (expansion t) (expansion_offsets t) tasks c

module _ (t : ProgramTree) (types : List Ty) (outlines : List Outline) (s : IsSmall t types outlines) where
  -- the templates of the program
  abbrev pub all : List Template
  all = program_templates t

  -- each outline is known
  pub knows : (i : ℕ) → i < length outlines → IsKnownAs all types outlines i
  knows i h = program_known t types outlines s.faultless s.scanned i h

  -- the innermost task
  pub record Top (c : Copying) (fs : List Instance) (f : Instance) : Type 0 where
    pub task : Task
    pub more : List Task
    pub is : IsLeft all types outlines (expansion t) (expansion_offsets t) (task ∷ more) c
    pub instance : task.instance ≡ f
    pub instances : instances_of more ≡ fs

  -- it is there where an instance is
  pub top : (c : Copying) (fs : List Instance) (f : Instance) → IsGoing t types outlines c → c.instances ≡ fs ++ f ∷ [] → Top c fs f
  top c fs f g e = by g.tasks g.is
    where
      by : (ts : List Task) → IsLeft all types outlines (expansion t) (expansion_offsets t) ts c → Top c fs f
      by [] l = absurd (no_snoc fs f (sym l.instances ∙ e))
      by (u ∷ ts) l =
          let same = same_snoc (instances_of ts) fs u.instance f (sym l.instances ∙ e) in
          record { task = u; more = ts; is = l; instance = same.1; instances = same.0 }

  -- its definition is one of the outlines
  pub top_within : (c : Copying) (fs : List Instance) (f : Instance) → IsGoing t types outlines c → c.instances ≡ fs ++ f ∷ [] → f.def < length outlines
  top_within c fs f g e = let u = top c fs f g e in subst (λ z. z < length outlines) (ap (λ (z : Instance). z.def) u.instance)
      (slice_get_within outlines u.task.instance.def u.task.outline u.is.tasks.0.known)

  module _ (c : Copying) (fs : List Instance) (f : Instance) (d : Outline) (g : IsGoing t types outlines c) (e : c.instances ≡ fs
      ++ f ∷ []) (at : slice_get outlines f.def ≡ Some d) where
    -- the innermost task
    abbrev pub u : Top c fs f
    u = top c fs f g e

    -- it has the outline
    pub same_outline : u.task.outline ≡ d
    same_outline = same_some u.task.outline d (sym u.is.tasks.0.known ∙ ap (λ (z : Instance). slice_get outlines z.def) u.instance ∙ at)

    -- the member comes next
    abbrev pub Member_at : Member → Type 0
    Member_at x = slice_get d.members.items f.next ≡ Some x

    -- the same of the task
    pub there : (x : Member) → Member_at x → slice_get u.task.outline.members.items u.task.instance.next ≡ Some x
    there x h = ap₂ (λ (y : Outline) (z : Instance). slice_get y.members.items z.next) same_outline u.instance ∙ h

    -- the instance is put back
    as_popped : resumed c u.more u.task.instance ≡ popped c fs f
    as_popped = ap₂ (λ y (z : Instance). popped c y z) u.instances u.instance

    -- the member of the task can be copied
    can_copy : (x : Member) → slice_get u.task.outline.members.items u.task.instance.next ≡ Some x
        → CanCopy u.task.outline u.task.instance (resumed c u.more u.task.instance) x
    can_copy (Own x) h =
        own_can all types outlines (expansion t) (expansion_offsets t) c u.task u.more x u.is h (few_binders (expansion t) 20000 s.small)
    can_copy (Call def args) h = call_can all types outlines (expansion t) (expansion_offsets t) c u.task u.more def args u.is h

    -- the member can be copied
    pub going_can : (x : Member) → Member_at x → CanCopy d f (popped c fs f) x
    going_can x h =
        let can = can_copy x (there x h) in
        let one = subst (λ z. CanCopy z u.task.instance (resumed c u.more u.task.instance) x) same_outline can in
        let two = subst (λ z. CanCopy d z (resumed c u.more u.task.instance) x) u.instance one in
        subst (λ z. CanCopy d f z x) as_popped two

    -- once it is, the copy of the task goes on
    step : (x : Member) → slice_get u.task.outline.members.items u.task.instance.next ≡ Some x
        → IsGoing t types outlines (with_member u.task.outline u.task.instance x (resumed c u.more u.task.instance))
    step (Own x) h = record { tasks = _; is = own_step all types outlines (expansion t) (expansion_offsets t) c u.task u.more x u.is h }
    step (Call def args) h =
        let before = called_before all types outlines (expansion t) (expansion_offsets t) c u.task u.more def args u.is h in
        let within = slice_get_within outlines u.task.instance.def u.task.outline u.is.tasks.0.known in
        record {
          tasks = _;
          is = call_step all types outlines (expansion t) (expansion_offsets t) c u.task u.more def args u.is h (knows def (omega
              (arith, before, within)));
        }

    -- once it is, the copy goes on
    pub going_step : (x : Member) → Member_at x → IsGoing t types outlines (with_member d f x (popped c fs f))
    going_step x h =
        let one = subst (λ z. IsGoing t types outlines (with_member z u.task.instance x (resumed c u.more u.task.instance))) same_outline
        (step x (there x h)) in
        let two = subst (λ z. IsGoing t types outlines (with_member d z x (resumed c u.more u.task.instance))) u.instance one in
        subst (λ z. IsGoing t types outlines (with_member d f x z)) as_popped two

    -- a copy that is complete is left
    pub going_end : length d.members.items ≤ f.next → IsGoing t types outlines (ended c fs)
    going_end h =
        let none : left u.task ≡ [] = ap₂ (λ (y : Outline) (z : Instance). drop z.next y.members.items) same_outline u.instance
        ∙ drop_past f.next d.members.items h in
        let room = u.is.tasks.0.room in
        let n = length c.ty_of in
        let names : n + names_left all u.task ≡ n = rw none (omega arith) in
        record {
          tasks = u.more;
          is = record {
            instances = sym u.instances;
            tasks = tasks_keep all types outlines c.numbers c.numbers u.task.instance.base (length c.numbers) (n + names_left all u.task) n u.more
                (λ i l. refl) (omega (arith, room)) names u.is.tasks.1;
            nodes = ap₂ (λ y z. c.nodes ++ (nodes_of all u.task.names (node_number u.task) n u.task.instance.next y
                ++ nodes_left all z u.more)) (sym none) (sym names) ∙ u.is.nodes;
            bound = ap (λ y. map (type_at types) c.ty_of ++ (types_of all (type_in types u.task) y ++ types_left all types u.more)) (sym none) ∙ u.is.bound;
            offsets = ap (λ y. c.at ++ (offsets_from all y (drop u.task.instance.next u.task.outline.at.items) ++ offsets_left all u.more)) (sym none)
                ∙ u.is.offsets;
            typed = u.is.typed;
          };
        }
      where
        drop_past : {X : Type 0} (k : ℕ) (xs : List X) → length xs ≤ k → drop k xs ≡ []
        drop_past zero [] h = refl
        drop_past zero (x ∷ xs) h = absurd (omega (arith, h))
        drop_past (suc k) [] h = refl
        drop_past (suc k) (x ∷ xs) h = drop_past k xs (omega arith)

  -- the outline with the last number
  module _ (def : ℕ) (h : def + 1 ≡ length outlines) where
    -- the template of the main process
    abbrev main : Template
    main = main_template (templates_after [] t.defs) t.main

    -- it is one of the outlines
    within : def < length outlines
    within = omega (arith, h)

    -- its number
    is_main : template_at all def ≡ Some main
    is_main =
        let count = length-outlines types [] [] t.defs t.main outlines s.scanned in
        let templates = length-templates_after [] t.defs in
        template_last main (templates_after [] t.defs) def (omega (arith, h, count, templates))

    -- what is known of its outline
    known : IsKnownAs all types outlines def
    known = knows def within

    -- the template that is known
    same_main : known.template ≡ main
    same_main = same_some known.template main (sym known.at_template ∙ is_main)

    -- a copy of it can begin
    is_fresh : IsFresh all types outlines def known [] 0 0 0
    is_fresh =
        let body = ap (λ (z : Template). z.body) same_main in
        let small = s.small in
        let nodes = length_within_breadths (process_nodes 0 (expansion t)) in
        let size = length-process_nodes 0 (expansion t) in
        let count = ap count_of body in
        let many = ap process_size body in
        record {
          arity = sym (ap (λ (z : Template). z.arity) same_main);
          few = omega (arith, small, count);
          room = omega (arith, small, nodes, size, many);
        }

    -- the first task
    abbrev first : Task
    first = fresh all types outlines def known [] 0 0 0

    -- the copy begins
    pub going_first : IsGoing t types outlines (begun def 0 0 (record { instances = []; numbers = []; nodes = []; ty_of = []; at = [] }))
    going_first = record {
      tasks = first ∷ [];
      is = record {
        instances = refl;
        tasks = (fresh_task all types outlines def known [] 0 0 0 is_fresh [] 0 (omega arith) (λ y l. absurd (omega (arith, l))), tt);
        nodes = append-nil _ ∙ fresh_nodes all types outlines def known [] 0 0 0 is_fresh ∙ ap (process_nodes 0) (identity_copy known.template.body
            ∙ ap (λ (z : Template). z.body) same_main);
        bound = append-nil _ ∙ fresh_types all types outlines def known [] 0 0 0 ∙ ap (λ (z : Template). map (λ b. b.ty) (binders_of z.body)) same_main;
        offsets = append-nil _ ∙ fresh_offsets all types outlines def known [] 0 0 0 ∙ ap (λ (z : Template). z.at) same_main;
        typed = tt;
      };
    }

  -- where nothing is left, the copy is complete
  pub going_last : (c : Copying) → IsGoing t types outlines c → length c.instances ≡ 0 → IsCopyOf t types c.nodes c.ty_of c.at
  going_last c g e = by g.tasks g.is
    where
      passes : (n : ℕ) (xs : List ℕ) → AllByRecursion (λ k. k < n) xs → list_all (λ k. nat_lt k n) xs ≡ true
      passes n [] h = refl
      passes n (x ∷ xs) h =
          let less = h.0 in
          let test : nat_lt x n ≡ true = grind (arith, nat_tests) in
          rw test (passes n xs h.1)

      by : (ts : List Task) → IsLeft all types outlines (expansion t) (expansion_offsets t) ts c → IsCopyOf t types c.nodes c.ty_of c.at
      by [] l = record {
        listed = sym (append-nil c.nodes) ∙ l.nodes;
        bound = sym (append-nil (map (type_at types) c.ty_of)) ∙ l.bound;
        offsets = sym (append-nil c.at) ∙ l.offsets;
        typed = passes (length types) c.ty_of l.typed;
      }
      by (u ∷ ts) l = let some = ap length l.instances ∙ length-append (instances_of ts) (u.instance ∷ []) in absurd (omega (arith, e, some))
