-- What is known below one more binder, and where nothing is bound.
use Rattle.std.proofs.Common.{◌≡◌, ℕ, ◌<◌, List, [], ◌∷◌, ◌++◌, map, length, refl, sym, ◌∙◌, ap, ap₂, subst, append-nil}
use Rattle.std.specs.List.{AllByRecursion}
use Rattle.std.proofs.lemmas.List.{map-append}
use Rattle.cqp_syntax.specs.TypeTrees.{TypeTree, type_at}
use Rattle.cqp_grammar.specs.Trees.{Parameter}
use Rattle.cqp_expand.specs.declared.fault.ScopeFault.{ScopeFault}
use Rattle.cqp_expand.specs.declared.locals.Locals.{Locals}
use Rattle.cqp_expand.specs.declared.scope.Bound as code
use Rattle.cqp_expand.specs.Tables.{IsTable, Extends, IsNumbered}
use Rattle.cqp_expand.specs.Locals.{table, scope_of, scope_in, types_in, after, with_bound, IsLocal, Enters}
use Rattle.cqp_expand.proofs.Faultless.{least-append}
use Rattle.cqp_expand.proofs.Growing.{all_both, grows_none, types_stay, scope_stays, scope_more, numbers_stay, bound_stay}

-- faults alone bind nothing
pub enters_none : (l : Locals) (fs : List ScopeFault) → IsLocal l → Enters l (after l fs) [] fs
enters_none l fs k = record {
  scope = refl;
  types = sym (append-nil (types_in l));
  faults = refl;
  more = [];
  behind = sym (append-nil l.scope);
  names = refl;
  grown = grows_none (table l);
  local = record { is_table = k.is_table; bound = k.bound; typed = k.typed };
}

-- a name with a numbered type is bound
pub enters_one : (l m new : Locals) (b : code.Bound) (p : Parameter) → IsLocal l
    → m.scope ≡ l.scope → m.ty_of ≡ l.ty_of → m.least ≡ l.least
    → IsNumbered (table l) (table m) p.ty b.ty → b.text.now ≡ p.name → b.number ≡ length l.ty_of
    → new ≡ with_bound m b → Enters l new (p ∷ []) []
enters_one l m new b p k scope ty_of least n text number is =
    let types = table m in
    let tables : table new ≡ types = ap table is in
    let scopes : new.scope ≡ l.scope ++ b ∷ [] = ap (λ x. x.scope) is ∙ ap (λ s. s ++ b ∷ []) scope in
    let numbers : new.ty_of ≡ l.ty_of ++ b.ty ∷ [] = ap (λ x. x.ty_of) is ∙ ap (λ s. s ++ b.ty ∷ []) ty_of in
    record {
      scope = ap₂ scope_of tables scopes ∙ scope_more types l.scope b
          ∙ ap₂ (λ (x : List ℕ) (s : _). record { text = x; number = b.number; ty = type_at types b.ty } ∷ s) text (scope_stays
          (table l) types n.grown l.scope k.bound)
          ∙ ap₂ (λ (x : ℕ) (t : TypeTree). record { text = p.name; number = x; ty = t } ∷ scope_in l) number n.is;
      types = ap₂ (λ ts ns. map (type_at ts) ns) tables numbers ∙ map-append (type_at types) l.ty_of (b.ty ∷ [])
          ∙ ap₂ (λ ts t. ts ++ t ∷ []) (types_stay (table l) types n.grown l.ty_of k.typed) n.is;
      faults = ap (λ x. x.least) is ∙ least;
      more = b ∷ [];
      behind = scopes;
      names = ap (λ x. x ∷ []) text;
      grown = subst (Extends (table l)) (sym tables) n.grown;
      local = record {
        is_table = subst IsTable (sym tables) n.table;
        bound = subst (λ ts. AllByRecursion (λ x. x.ty < length ts) new.scope) (sym tables)
            (subst (AllByRecursion (λ x. x.ty < length types)) (sym scopes)
            (all_both (λ x. x.ty < length types) l.scope (b ∷ []) (bound_stay (table l) types n.grown l.scope k.bound) (n.within, tt)));
        typed = subst (λ ts. AllByRecursion (λ x. x < length ts) new.ty_of) (sym tables)
            (subst (AllByRecursion (λ x. x < length types)) (sym numbers)
            (all_both (λ x. x < length types) l.ty_of (b.ty ∷ []) (numbers_stay (table l) types n.grown l.ty_of k.typed) (n.within, tt)));
      };
    }

-- faults before what is bound
pub enters_behind : (l new : Locals) (ps : List Parameter) (fs gs : List ScopeFault) → Enters (after l fs) new ps gs → Enters l new ps (fs ++ gs)
enters_behind l new ps fs gs e = record {
  scope = e.scope;
  types = e.types;
  faults = e.faults ∙ sym (least-append l.least fs gs);
  more = e.more;
  behind = e.behind;
  names = e.names;
  grown = e.grown;
  local = e.local;
}

-- the same where nothing was met before
pub enters_from : (l m new : Locals) (ps : List Parameter) (fs gs : List ScopeFault) → m ≡ after l fs → Enters m new ps gs → Enters l new ps (fs ++ gs)
enters_from l m new ps fs gs is e = enters_behind l new ps fs gs (subst (λ k. Enters k new ps gs) is e)

-- faults keep what is known
pub local_after : (l : Locals) (fs : List ScopeFault) → IsLocal l → IsLocal (after l fs)
local_after l fs k = record { is_table = k.is_table; bound = k.bound; typed = k.typed }

-- the same, by an equation
pub local_from : (l m : Locals) (fs : List ScopeFault) → m ≡ after l fs → IsLocal l → IsLocal m
local_from l m fs is k = subst IsLocal (sym is) (local_after l fs k)
