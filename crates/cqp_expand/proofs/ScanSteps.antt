-- The scan of definitions in order.
use Rattle.std.proofs.Common.{◌≡◌, ℕ, ◌+◌, ◌<◌, ◌≤◌, List, [], ◌∷◌, ◌++◌, map, length, get_or, drop}
use Rattle.std.proofs.Common.{Bool, true, false, bytes_eq, Option, Some, None, is_some, refl, sym}
use Rattle.std.proofs.Common.{◌∙◌, ap, subst, arith, length-drop}
use Rattle.std.specs.Prelude.{if◌then◌else◌, ◌||◌}
use Rattle.std.specs.List.{list_any}
use Rattle.std.proofs.lemmas.List.{drop_more, drop_all}
use Rattle.cqp_grammar.specs.Trees.{DefinitionTree, ProcessTree}
use Rattle.cqp_program.specs.declared.program.Def.{Def}
use Rattle.cqp_program.specs.Programs.{def_lists}
use Rattle.cqp_expand.specs.declared.fault.ScopeFault.{ScopeFault}
use Rattle.cqp_expand.specs.declared.fault.FaultKind.TheVariants as kind
use Rattle.cqp_expand.specs.declared.scan.Scan.{Scan}
use Rattle.cqp_expand.specs.declared.locals.Locals.{Locals}
use Rattle.cqp_expand.specs.Scopes.{below_all}
use Rattle.cqp_expand.specs.Kept.{least_of}
use Rattle.cqp_expand.specs.Faults.{Signature, repeats, process_faults, definition_faults, program_faults}
use Rattle.cqp_expand.specs.Members.{def_of, texts_of}
use Rattle.cqp_expand.specs.Locals.{table, after, Notes}
use Rattle.cqp_expand.specs.declared.known.Known.{Known}
use Rattle.cqp_expand.specs.Outlines.{signatures, AreKnown, defs_after}
use Rattle.cqp_expand.specs.Scans.{IsScan}
use Rattle.cqp_expand.proofs.Faultless.{least-append}
use Rattle.cqp_expand.proofs.ParamsLeft.{same_bytes}

-- a definition of the name has a number
pub has_number : (ds : List Signature) (x : List ℕ) → is_some (def_of (texts_of ds) x) ≡ list_any (λ e. bytes_eq x e.text) ds
has_number [] x = refl
has_number (d ∷ ds) x =
    some_if (bytes_eq d.text x) (length (texts_of ds)) (def_of (texts_of ds) x)
    ∙ ap (λ b. bytes_eq d.text x || b) (has_number ds x) ∙ ap (λ b. b || list_any (λ e. bytes_eq x e.text) ds) (same_bytes d.text x)
  where
    some_if : (b : Bool) (n : ℕ) (o : Option ℕ) → is_some (if b then Some n else o) ≡ (b || is_some o)
    some_if true n o = refl
    some_if false n o = refl

-- the fault of a definition whose name an earlier one has
abbrev pub twice_faults : List Signature → DefinitionTree → List ScopeFault
twice_faults ds d = if list_any (λ e. bytes_eq d.name e.text) ds then record { at = d.at; kind = kind.Twice } ∷ [] else []

-- the same, as the lists have it
abbrev pub twice_at : List Signature → Def → List ScopeFault
twice_at ds d = if list_any (λ e. bytes_eq d.name e.text) ds then record { at = d.at; kind = kind.Twice } ∷ [] else []

-- the faults of a definition, and those of its name first
pub definition_notes : (l m n : Locals) (ds : List Signature) (d : DefinitionTree) → m ≡ after l (twice_faults ds d)
    → Notes m n (repeats [] d.params ++ process_faults ds (below_all [] 0 d.params) d.body) → n.least ≡ least_of l.least (definition_faults ds d)
definition_notes l m n ds d is e =
    let body = repeats [] d.params ++ process_faults ds (below_all [] 0 d.params) d.body in
    e.faults ∙ ap (λ (x : Locals). least_of x.least body) is ∙ sym (least-append l.least (twice_faults ds d) body)

-- these definitions are left, and then the main process
pub record DefsLeft (all : List DefinitionTree) (p : ProcessTree) (rest : List Def) (s : Scan) (whole : Option ScopeFault) : Type 0 where
  pub done : List DefinitionTree
  pub todo : List DefinitionTree
  pub are : rest ≡ map def_lists todo
  pub scan : IsScan s done
  pub order : defs_after done todo ≡ defs_after [] all
  pub faults : least_of s.locals.least (program_faults (signatures done) todo p) ≡ whole

-- at first all are left
pub defs_first : (all : List DefinitionTree) (p : ProcessTree) (rest : List Def) (s : Scan) → rest ≡ map def_lists all → IsScan s [] → s.locals.least ≡ None
    → DefsLeft all p rest s (least_of None (program_faults [] all p))
defs_first all p rest s e k none = record {
  done = [];
  todo = all;
  are = e;
  scan = k;
  order = refl;
  faults = ap (λ o. least_of o (program_faults [] all p)) none;
}

-- one more definition is read
pub record DefRead (all : List DefinitionTree) (p : ProcessTree) (rest : List Def) (i : ℕ) (s : Scan) (whole : Option ScopeFault) (read : Def) : Type 0 where
  pub own : DefinitionTree
  pub done : List DefinitionTree
  pub is : read ≡ def_lists own
  pub scan : IsScan s done
  pub next : (new : Scan) → IsScan new (own ∷ done) → new.locals.least ≡ least_of s.locals.least (definition_faults (signatures done) own)
      → DefsLeft all p (drop (i + 1) rest) new whole

-- the definition that is read is the first of them
def_at : (all : List DefinitionTree) (p : ProcessTree) (rest : List Def) (i : ℕ) (s : Scan) (whole : Option ScopeFault) (read : Def)
    (done todo : List DefinitionTree)
    → drop i rest ≡ map def_lists todo → IsScan s done → defs_after done todo ≡ defs_after [] all
    → least_of s.locals.least (program_faults (signatures done) todo p) ≡ whole → i < length rest → read ≡ get_or rest i read
    → DefRead all p rest i s whole read
def_at all p rest i s whole read done [] e k o f h is = absurd (omega (arith, ap length e, length-drop i rest))
def_at all p rest i s whole read done (d ∷ todo) e k o f h is =
    let both = sym e ∙ drop_more rest i read h in
    let one : read ≡ def_lists d = cc (both, is) in
    let more : drop (i + 1) rest ≡ map def_lists todo = cc both in
    record {
      own = d;
      done = done;
      is = one;
      scan = k;
      next = λ new scan least. record {
        done = d ∷ done;
        todo = todo;
        are = more;
        scan = scan;
        order = o;
        faults = ap (λ x. least_of x (program_faults (signatures (d ∷ done)) todo p)) least
            ∙ sym (least-append s.locals.least (definition_faults (signatures done) d) (program_faults (signatures (d ∷ done)) todo p)) ∙ f;
      };
    }

-- the same, by what is left
pub def_read : (all : List DefinitionTree) (p : ProcessTree) (rest : List Def) (i : ℕ) (s : Scan) (whole : Option ScopeFault) (read : Def)
    → DefsLeft all p (drop i rest) s whole
    → i < length rest → read ≡ get_or rest i read → DefRead all p rest i s whole read
def_read all p rest i s whole read l h is = def_at all p rest i s whole read l.done l.todo l.are l.scan l.order l.faults h is

-- all definitions are scanned
pub record DefsDone (all : List DefinitionTree) (p : ProcessTree) (s : Scan) (whole : Option ScopeFault) : Type 0 where
  pub scan : IsScan s (defs_after [] all)
  pub faults : least_of s.locals.least (process_faults (signatures (defs_after [] all)) [] p) ≡ whole

-- where none are left
none_at : (all : List DefinitionTree) (p : ProcessTree) (s : Scan) (whole : Option ScopeFault) (done todo : List DefinitionTree)
    → [] ≡ map def_lists todo → IsScan s done → defs_after done todo ≡ defs_after [] all
    → least_of s.locals.least (program_faults (signatures done) todo p) ≡ whole → DefsDone all p s whole
none_at all p s whole done (d ∷ todo) e k o f = absurd (omega (arith, ap length e))
none_at all p s whole done [] e k o f = record {
  scan = subst (IsScan s) o k;
  faults = ap (λ ds. least_of s.locals.least (process_faults (signatures ds) [] p)) (sym o) ∙ f;
}

-- with none left all are scanned
pub defs_none : (all : List DefinitionTree) (p : ProcessTree) (rest : List Def) (i : ℕ) (s : Scan) (whole : Option ScopeFault) → length rest ≤ i
    → DefsLeft all p (drop i rest) s whole → DefsDone all p s whole
defs_none all p rest i s whole h l = none_at all p s whole l.done l.todo (sym (drop_all i rest h) ∙ l.are) l.scan l.order l.faults

-- faults change nothing of what is known
pub known_from : (l m : Locals) (fs : List ScopeFault) (a b : Known) (ds : List DefinitionTree) → m ≡ after l fs → b ≡ a → AreKnown (table l) a ds
    → AreKnown (table m) b ds
known_from l m fs a b ds is same k =
    subst (λ (x : Locals). AreKnown (table x) b ds) (sym is) (subst (λ x. AreKnown (table l) x ds) (sym same) k)
