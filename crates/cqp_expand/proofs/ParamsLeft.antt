-- Parameters that are left to bind.
use Rattle.std.proofs.Common.{◌≡◌, ℕ, ◌+◌, ◌<◌, ◌≤◌, List, [], ◌∷◌, ◌++◌, map, length, get_or, drop}
use Rattle.std.proofs.Common.{reverse, Bool, true, false, bytes_eq, nat_eq, refl, sym, ◌∙◌, ap, ap₂}
use Rattle.std.proofs.Common.{subst, append_assoc, append-nil, arith, length-append, length-drop}
use Rattle.std.specs.Prelude.{if◌then◌else◌, ◌||◌, ◌&&◌}
use Rattle.std.specs.List.{range_with_len, list_any}
use Rattle.std.proofs.lemmas.List.{drop_more, drop_all, length-map, map-append, reverse-append}
use Rattle.std.proofs.lemmas.List.Folds.{list_any-append}
use Rattle.std.proofs.lemmas.Bool.Decides.{nat_tests}
use Rattle.std.proofs.Math.Seq.{drop-append_seam}
use Rattle.cqp_syntax.specs.TypeTrees.{type_at}
use Rattle.cqp_grammar.specs.Trees.{Parameter}
use Rattle.cqp_program.specs.declared.program.Param.{Param}
use Rattle.cqp_program.specs.Listing.{param}
use Rattle.cqp_expand.specs.declared.fault.ScopeFault.{ScopeFault}
use Rattle.cqp_expand.specs.declared.fault.FaultKind.TheVariants as kind
use Rattle.cqp_expand.specs.declared.locals.Locals.{Locals}
use Rattle.cqp_expand.specs.declared.scope.Bound as code
use Rattle.cqp_expand.specs.Binds.{has_text}
use Rattle.cqp_expand.specs.Scopes.{below_all}
use Rattle.cqp_expand.specs.Kept.{least_of}
use Rattle.cqp_expand.specs.Faults.{repeats}
use Rattle.cqp_expand.specs.Tables.{Extends}
use Rattle.cqp_expand.specs.Locals.{table, scope_in, types_in, after, IsLocal, Enters}
use Rattle.cqp_expand.proofs.Faultless.{least-append}
use Rattle.cqp_expand.proofs.Growing.{grows_none, grows_twice}

-- the fault of a parameter that repeats one of its own list
abbrev pub twice : Bool → ℕ → List ScopeFault
twice b at = if b then record { at = at; kind = kind.Twice } ∷ [] else []

-- the texts of binders
abbrev pub texts : List code.Bound → List (List ℕ)
texts bs = map (λ b. b.text.now) bs

-- equality of numbers has no direction
same_number : (x y : ℕ) → nat_eq x y ≡ nat_eq y x
same_number x y = grind (arith, nat_tests)

-- equality of texts has no direction
pub same_bytes : (x y : List ℕ) → bytes_eq x y ≡ bytes_eq y x
same_bytes [] [] = refl
same_bytes [] (y ∷ ys) = refl
same_bytes (x ∷ xs) [] = refl
same_bytes (x ∷ xs) (y ∷ ys) = ap₂ (λ a b. a && b) (same_number x y) (same_bytes xs ys)

-- the last of some tests comes first
turned : (a b : Bool) → (a || (b || false)) ≡ (b || a)
turned true true = refl
turned true false = refl
turned false true = refl
turned false false = refl

-- a test of some binder, from the last to the first
among : (x : List ℕ) (bs : List code.Bound) → list_any (bytes_eq x) (reverse (texts bs)) ≡ list_any (has_text x) bs
among x [] = refl
among x (b ∷ bs) =
    ap (list_any (bytes_eq x)) (reverse-append (b.text.now ∷ []) (texts bs))
    ∙ list_any-append (bytes_eq x) (reverse (texts bs)) (b.text.now ∷ [])
    ∙ turned (list_any (bytes_eq x) (reverse (texts bs))) (bytes_eq x b.text.now)
    ∙ ap₂ (λ a c. a || c) (same_bytes x b.text.now) (among x bs)

-- these are left: with them what is known is as it must be
pub record ParamsLeft (first : Locals) (rest : List Param) (ps : List Parameter) (l : Locals) (ns : List ℕ) : Type 0 where
  pub todo : List Parameter
  pub are : rest ≡ map param todo
  pub more : List code.Bound
  pub behind : l.scope ≡ first.scope ++ more
  pub names : texts more ++ map (λ p. p.name) todo ≡ map (λ p. p.name) ps
  pub scope : below_all (scope_in l) (length l.ty_of) todo ≡ below_all (scope_in first) (length first.ty_of) ps
  pub types : types_in l ++ map (λ p. p.ty) todo ≡ types_in first ++ map (λ p. p.ty) ps
  pub faults : least_of l.least (repeats (reverse (texts more)) todo) ≡ least_of first.least (repeats [] ps)
  pub numbers : ns ++ range_with_len (length l.ty_of) (length todo) ≡ range_with_len (length first.ty_of) (length ps)
  pub grown : Extends (table first) (table l)
  pub local : IsLocal l

-- at first all are left
pub params_first : (first : Locals) (rest : List Param) (ps : List Parameter) → rest ≡ map param ps → IsLocal first → ParamsLeft first rest ps first []
params_first first rest ps e k = record {
  todo = ps;
  are = e;
  more = [];
  behind = sym (append-nil first.scope);
  names = refl;
  scope = refl;
  types = refl;
  faults = refl;
  numbers = refl;
  grown = grows_none (table first);
  local = k;
}

-- one more parameter is read
pub record ParamRead (first : Locals) (rest : List Param) (i : ℕ) (ps : List Parameter) (l : Locals) (ns : List ℕ) (read : Param) : Type 0 where
  pub own : Parameter
  pub is : read ≡ param own
  pub next : (m new : Locals) (all : List ℕ) (n : ℕ) → m ≡ after l (twice (list_any (has_text read.name) (drop (length first.scope) l.scope)) read.at)
      → Enters m new (own ∷ []) [] → n ≡ length m.ty_of → all ≡ ns ++ n ∷ [] → ParamsLeft first (drop (i + 1) rest) ps new all

-- how many names there are
as_many : (l m new : Locals) (p : Parameter) → m.ty_of ≡ l.ty_of → types_in new ≡ types_in m ++ p.ty ∷ [] → length new.ty_of ≡ length l.ty_of + 1
as_many l m new p same e =
    omega (
      arith,
      ap length e,
      ap length same,
      length-map new.ty_of (type_at (table new)),
      length-map m.ty_of (type_at (table m)),
      length-append (types_in m)
          (p.ty ∷ []),
    )

-- the first of them is bound
bind_own : (first : Locals) (rest : List Param) (ps : List Parameter) (l : Locals) (ns : List ℕ) (read : Param) (own : Parameter) (todo : List Parameter)
    (more : List code.Bound)
    → read ≡ param own → l.scope ≡ first.scope ++ more
    → texts more ++ own.name ∷ map (λ p. p.name) todo ≡ map (λ p. p.name) ps
    → below_all (scope_in l) (length l.ty_of) (own ∷ todo) ≡ below_all (scope_in first) (length first.ty_of) ps
    → types_in l ++ own.ty ∷ map (λ p. p.ty) todo ≡ types_in first ++ map (λ p. p.ty) ps
    → least_of l.least (repeats (reverse (texts more)) (own ∷ todo)) ≡ least_of first.least (repeats [] ps)
    → ns ++ range_with_len (length l.ty_of) (length (own ∷ todo)) ≡ range_with_len (length first.ty_of) (length ps)
    → Extends (table first) (table l) → rest ≡ map param todo
    → (m new : Locals) (all : List ℕ) (n : ℕ) → m ≡ after l (twice (list_any (has_text read.name) (drop (length first.scope) l.scope)) read.at)
    → Enters m new (own ∷ []) [] → n ≡ length m.ty_of → all ≡ ns ++ n ∷ [] → ParamsLeft first rest ps new all
bind_own first rest ps l ns read own todo more is behind names scope types faults numbers grown are m new all n fault e number pushed =
    let same_scope : m.scope ≡ l.scope = ap (λ k. k.scope) fault in
    let same_types : m.ty_of ≡ l.ty_of = ap (λ k. k.ty_of) fault in
    let same_table : table m ≡ table l = ap table fault in
    let count : length new.ty_of ≡ length l.ty_of + 1 = as_many l m new own same_types e.types in
    let own_more : drop (length first.scope) l.scope ≡ more = ap (drop (length first.scope)) behind ∙ drop-append_seam first.scope more in
    let text : read.name ≡ own.name = ap (λ r. r.name) is in
    let place : read.at ≡ own.at = ap (λ r. r.at) is in
    let test : list_any (has_text read.name) (drop (length first.scope) l.scope) ≡ list_any (bytes_eq own.name) (reverse (texts more)) =
    ap₂ (λ x bs. list_any (has_text x) bs) text own_more ∙ sym (among own.name more) in
    let met : m.least ≡ least_of l.least (twice (list_any (bytes_eq own.name) (reverse (texts more))) own.at) =
    ap (λ k. k.least) fault ∙ ap₂ (λ b at. least_of l.least (twice b at)) test place in
    let last : reverse (texts (more ++ e.more)) ≡ own.name ∷ reverse (texts more) =
    ap reverse (map-append (λ b. b.text.now) more e.more) ∙ ap (λ xs. reverse (texts more ++ xs)) e.names ∙ reverse-append (texts more) (own.name ∷ []) in
    record {
      todo = todo;
      are = are;
      more = more ++ e.more;
      behind = e.behind ∙ ap (λ s. s ++ e.more) (same_scope ∙ behind) ∙ append_assoc first.scope more e.more;
      names = ap (λ xs. xs ++ map (λ p. p.name) todo) (map-append (λ b. b.text.now) more e.more ∙ ap (λ xs. texts more ++ xs) e.names)
          ∙ append_assoc (texts more) (own.name ∷ []) (map (λ p. p.name) todo) ∙ names;
      scope = ap₂ (λ s k. below_all s k todo) (e.scope ∙ ap (λ k. below_all (scope_in k) (length k.ty_of) (own ∷ [])) fault) count ∙ scope;
      types = ap (λ xs. xs ++ map (λ p. p.ty) todo) (e.types ∙ ap (λ k. types_in k ++ own.ty ∷ []) fault)
          ∙ append_assoc (types_in l) (own.ty ∷ []) (map (λ p. p.ty) todo) ∙ types;
      faults = ap₂ (λ o xs. least_of o (repeats xs todo)) (e.faults ∙ met) last
          ∙ sym (least-append l.least (twice (list_any (bytes_eq own.name) (reverse (texts more))) own.at) (repeats (own.name ∷ reverse
          (texts more)) todo)) ∙ faults;
      numbers = ap₂ (λ xs k. xs ++ range_with_len k (length todo)) pushed count
          ∙ append_assoc ns (n ∷ []) (range_with_len (length l.ty_of + 1) (length todo))
          ∙ ap (λ k. ns ++ k ∷ range_with_len (length l.ty_of + 1) (length todo)) (number ∙ ap length same_types) ∙ numbers;
      grown = grows_twice (table first) (table m) (table new) (subst (Extends (table first)) (sym same_table) grown) e.grown;
      local = e.local;
    }

-- the parameter that is read is the first of them
param_at : (first : Locals) (rest : List Param) (i : ℕ) (ps : List Parameter) (l : Locals) (ns : List ℕ) (read : Param) (todo : List Parameter)
    (left : ParamsLeft first (drop i rest) ps l ns)
    → left.todo ≡ todo → i < length rest → read ≡ get_or rest i read → ParamRead first rest i ps l ns read
param_at first rest i ps l ns read [] left same h is =
    absurd (omega (arith, ap length left.are, ap length same, length-map left.todo param, length-drop i rest))
param_at first rest i ps l ns read (own ∷ todo) left same h is =
    let are : drop i rest ≡ map param (own ∷ todo) = left.are ∙ ap (map param) same in
    let both = sym are ∙ drop_more rest i read h in
    let one : read ≡ param own = cc (both, is) in
    let more : drop (i + 1) rest ≡ map param todo = cc both in
    record {
      own = own;
      is = one;
      next = bind_own first (drop (i + 1) rest) ps l ns read own todo left.more one left.behind
          (ap (λ xs. texts left.more ++ map (λ p. p.name) xs) (sym same) ∙ left.names)
          (ap (below_all (scope_in l) (length l.ty_of)) (sym same) ∙ left.scope)
          (ap (λ xs. types_in l ++ map (λ p. p.ty) xs) (sym same) ∙ left.types)
          (ap (λ xs. least_of l.least (repeats (reverse (texts left.more)) xs)) (sym same) ∙ left.faults)
          (ap (λ xs. ns ++ range_with_len (length l.ty_of) (length xs)) (sym same) ∙ left.numbers)
          left.grown more;
    }

-- the same, by what is left
pub param_read : (first : Locals) (rest : List Param) (i : ℕ) (ps : List Parameter) (l : Locals) (ns : List ℕ) (read : Param)
    → ParamsLeft first (drop i rest) ps l ns
    → i < length rest → read ≡ get_or rest i read → ParamRead first rest i ps l ns read
param_read first rest i ps l ns read left h is = param_at first rest i ps l ns read left.todo left refl h is

-- where none are left they are all bound
none_at : (first : Locals) (ps : List Parameter) (l : Locals) (ns : List ℕ) (todo : List Parameter) (left : ParamsLeft first [] ps l ns) → left.todo ≡ todo
    → Enters first l ps (repeats [] ps) × (ns ≡ range_with_len (length first.ty_of) (length ps))
none_at first ps l ns (p ∷ todo) left same = absurd (omega (arith, ap length left.are, ap length same, length-map left.todo param))
none_at first ps l ns [] left same = (
  record {
    scope = ap (below_all (scope_in l) (length l.ty_of)) (sym same) ∙ left.scope;
    types = sym (append-nil (types_in l)) ∙ ap (λ xs. types_in l ++ map (λ p. p.ty) xs) (sym same) ∙ left.types;
    faults = ap (λ xs. least_of l.least (repeats (reverse (texts left.more)) xs)) (sym same) ∙ left.faults;
    more = left.more;
    behind = left.behind;
    names = sym (append-nil (texts left.more)) ∙ ap (λ xs. texts left.more ++ map (λ p. p.name) xs) (sym same) ∙ left.names;
    grown = left.grown;
    local = left.local;
  },
  sym (append-nil ns) ∙ ap (λ xs. ns ++ range_with_len (length l.ty_of) (length xs)) (sym same) ∙ left.numbers,
)

-- with none left they are all bound
pub params_none : (first : Locals) (rest : List Param) (i : ℕ) (ps : List Parameter) (l : Locals) (ns : List ℕ) → length rest ≤ i
    → ParamsLeft first (drop i rest) ps l ns
    → Enters first l ps (repeats [] ps) × (ns ≡ range_with_len (length first.ty_of) (length ps))
params_none first rest i ps l ns h left =
    let last = subst (λ xs. ParamsLeft first xs ps l ns) (drop_all i rest h) left in
    none_at first ps l ns last.todo last refl
