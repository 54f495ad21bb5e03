-- Law: each outline of a program without faults is known as that of its template.
use Rattle.std.proofs.Common.{◌≡◌, ℕ, suc, zero, ◌+◌, ◌<◌, List, [], ◌∷◌, ◌++◌, length, slice_get, Some, refl, sym, ◌∙◌, subst, arith, length-append}
use Rattle.std.proofs.Common.{append_assoc, inl, inr, ◌⊎◌}
use Rattle.std.proofs.lemmas.List.{length-map}
use Rattle.cqp_syntax.specs.declared.ty.Ty.{Ty}
use Rattle.cqp_grammar.specs.Trees.{ProcessTree, DefinitionTree, ProgramTree}
use Rattle.cqp_expand.specs.declared.outline.Outline.{Outline}
use Rattle.cqp_expand.specs.Scopes.{below_all}
use Rattle.cqp_expand.specs.Expansion.{Template, template, templates_after, process_in, offsets_in}
use Rattle.cqp_expand.specs.Faults.{Signature, signature, repeats, process_faults, definition_faults, program_faults, scope_faults}
use Rattle.cqp_expand.specs.Outlines.{IsOutline, AreBehind}
use Rattle.cqp_expand.proofs.Templates.{AreTemplates, empty_parts}
use Rattle.cqp_expand.proofs.Programs.{template_right}
use Rattle.cqp_expand.proofs.Found.{texts, Among, among_self, among_later, among_last}
use Rattle.cqp_expand.proofs.Copied.{IsOf, copied}
use Rattle.cqp_expand.proofs.Outlined.{IsKnownAs, sized_behind}

-- the main process as a template of its own
abbrev pub main_template : List Template → ProcessTree → Template
main_template ts main = record { text = []; arity = 0; body = process_in ts [] 0 main; at = offsets_in ts main }

-- the templates of a program, the main process first
abbrev pub program_templates : ProgramTree → List Template
program_templates t = main_template (templates_after [] t.defs) t.main ∷ templates_after [] t.defs

-- an element of the first part
pub get_within : {X : Type 0} (xs ys : List X) (i : ℕ) → i < length xs → slice_get (xs ++ ys) i ≡ slice_get xs i
get_within [] ys i h = absurd (omega (arith, h))
get_within (x ∷ xs) ys zero h = refl
get_within (x ∷ xs) ys (suc i) h = get_within xs ys i (omega arith)

-- the element behind the first part
pub get_behind : {X : Type 0} (xs ys : List X) (y : X) (i : ℕ) → i ≡ length xs → slice_get (xs ++ y ∷ ys) i ≡ Some y
get_behind [] ys y zero e = refl
get_behind [] ys y (suc i) e = absurd (omega (arith, e))
get_behind (x ∷ xs) ys y zero e = absurd (omega (arith, e))
get_behind (x ∷ xs) ys y (suc i) e = get_behind xs ys y i (omega arith)

-- the templates before others are among all
among_after : (ts all : List Template) (defs : List DefinitionTree) → Among (templates_after ts defs) all → Among ts all
among_after ts all [] a = a
among_after ts all (d ∷ defs) a = among_later (template ts d) ts all (among_after (template ts d ∷ ts) all defs a)

-- how many templates there are
pub length-templates_after : (ts : List Template) (defs : List DefinitionTree) → length (templates_after ts defs) ≡ length ts + length defs
length-templates_after ts [] = omega arith
length-templates_after ts (d ∷ defs) = let later = length-templates_after (template ts d ∷ ts) defs in omega (arith, later)

-- a number below n + 1
last_or_before : (i n : ℕ) → i < n + 1 → (i < n) ⊎ (i ≡ n)
last_or_before i zero h = inr (omega arith)
last_or_before zero (suc n) h = inl (omega arith)
last_or_before (suc i) (suc n) h = elim (last_or_before i n (omega arith)) [
  | inl l ↦ inl (omega (arith, l))
  | inr e ↦ inr (omega (arith, e))
]

-- one more on both sides
one_longer : (a b : ℕ) → a ≡ b → a + 1 ≡ suc b
one_longer a b e = omega arith

module _ (all : List Template) (types : List Ty) where
  -- each of the outlines is known
  abbrev Knows : List Outline → Type 0
  Knows outlines = (i : ℕ) → i < length outlines → IsKnownAs all types outlines i

  -- one more outline
  one_more : (ts : List Template) (ds : List Signature) (before : List Outline) (x : DefinitionTree) (d : Outline) (t : Template)
      → length before ≡ length ts → AreTemplates ts ds
      → process_faults ds (below_all [] 0 x.params) x.body ≡ [] → IsOutline types before (texts ts) x.params x.body d → IsOf ts x.params x.body t
      → Among (t ∷ ts) all → Knows before → Knows (before ++ d ∷ [])
  one_more ts ds before x d t e a h i o among knows j l =
      elim (last_or_before j (length before) (omega (arith, l, length-append before (d ∷ [])))) [
        | inl less ↦ old (knows j less) less
        | inr is ↦ new is
      ]
    where
      old : IsKnownAs all types before j → j < length before → IsKnownAs all types (before ++ d ∷ []) j
      old k less = record {
        outline = k.outline;
        template = k.template;
        at_outline = get_within before (d ∷ []) j less
            ∙ k.at_outline;
        at_template = k.at_template;
        copied = k.copied;
        sized = k.sized;
      }

      new : j ≡ length before → IsKnownAs all types (before ++ d ∷ []) j
      new is =
          let later = among_later t ts all among in
          let c = copied all ts later ds types before x.params x.body d t i o a h in
          let same : j ≡ length ts = is ∙ e in
          let known = sized_behind all types before (length ts) (length d.members.items) (length d.ty_of.items) (λ b g. knows b (omega
          (arith, g, e))) d t (texts ts) x.params x.body i c refl refl in
          rw same (record {
            outline = d;
            template = t;
            at_outline = get_behind before [] d (length ts) (sym e);
            at_template = among_last t ts all among;
            copied = c;
            sized = known;
          })

  -- the outlines of definitions and of the main process, behind others
  outlines_known : (ts : List Template) (ds : List Signature) (before : List Outline) (defs : List DefinitionTree) (main : ProcessTree)
      (outlines : List Outline) → length before ≡ length ts
      → AreTemplates ts ds → program_faults ds defs main ≡ [] → AreBehind types before (texts ts) defs main outlines
      → Among (main_template (templates_after ts defs) main ∷ templates_after ts defs) all → Knows before → Knows (before ++ outlines)
  outlines_known ts ds before [] main [] e a h i among knows = absurd i
  outlines_known ts ds before [] main (d ∷ []) e a h i among knows =
      one_more ts ds before (record { name = []; at = 0; params = []; body = main }) d (main_template ts main) e a h i
      (record { arity = refl; body = refl; at = refl }) among knows
  outlines_known ts ds before [] main (d ∷ c ∷ outlines) e a h i among knows = absurd i
  outlines_known ts ds before (x ∷ defs) main [] e a h i among knows = absurd i
  outlines_known ts ds before (x ∷ defs) main (d ∷ outlines) e a h i among knows =
      let parts = empty_parts (definition_faults ds x) _ h in
      let inner = (empty_parts (repeats [] x.params) _ (empty_parts _ _ parts.0).1).1 in
      let t = template ts x in
      let rest = among_later _ _ all among in
      let one = one_more ts ds before x d t e a inner i.0 (record { arity = refl; body = refl; at = refl }) (among_after (t ∷ ts) all defs rest) knows in
      let longer : length (before ++ d ∷ []) ≡ length (t ∷ ts) = length-append before (d ∷ []) ∙ one_longer (length before) (length ts) e in
      let right : AreTemplates (t ∷ ts) (signature x ∷ ds) = (refl, sym (length-map x.params (λ p. p.ty)), template_right ts ds x a parts.0, a) in
      let more = outlines_known (t ∷ ts) (signature x ∷ ds) (before ++ d ∷ []) defs main outlines longer right parts.1 i.1 among one in
      subst Knows (append_assoc before (d ∷ []) outlines) more

-- as many outlines as definitions, and one
pub length-outlines : (types : List Ty) (before : List Outline) (names : List (List ℕ)) (defs : List DefinitionTree) (main : ProcessTree)
    (outlines : List Outline)
    → AreBehind types before names defs main outlines → length outlines ≡ length defs + 1
length-outlines types before names [] main [] i = absurd i
length-outlines types before names [] main (d ∷ []) i = refl
length-outlines types before names [] main (d ∷ c ∷ outlines) i = absurd i
length-outlines types before names (x ∷ defs) main [] i = absurd i
length-outlines types before names (x ∷ defs) main (d ∷ outlines) i = let later = length-outlines types _ _ defs main outlines i.1 in omega (arith, later)

-- the outlines of a program without faults are those of its templates
pub program_known : (t : ProgramTree) (types : List Ty) (outlines : List Outline) → scope_faults t ≡ [] → AreBehind types [] [] t.defs t.main outlines
    → (i : ℕ) → i < length outlines → IsKnownAs (program_templates t) types outlines i
program_known t types outlines h i =
    outlines_known (program_templates t) types [] [] [] t.defs t.main outlines refl tt h i (among_self (program_templates t)) (λ j l. absurd (omega (arith, l)))
