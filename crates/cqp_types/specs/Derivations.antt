-- The rules of typing, a constructor for each.
use Rattle.std.specs.Prelude.{◌≡◌, ℕ, List, [], ◌∷◌, length, Bool, true, false, Option, Some}
use Rattle.std.specs.Prelude.{if◌then◌else◌}
use Rattle.std.specs.List.{AllByRecursion}
use Rattle.cqp_syntax.specs.TypeTrees.{TypeTree, TypeTrees, int_type, unit_type, qbit_type, op_type}
use Rattle.cqp_syntax.specs.TypeTrees.{chan_type, no_types, type_and}
use Rattle.cqp_syntax.specs.Trees.{Slot, Expr, slot, sig, add, apply, measure, Binder, Process, nil}
use Rattle.cqp_syntax.specs.Trees.{par, new, qbit, act, input, output, branch}
use Rattle.cqp_types.specs.Types.{types_of}
use Rattle.cqp_types.specs.Contexts.{Context, type_in, Has, Splits, binding, leaving, is_twice}

-- each of these is of type Qbit
abbrev pub AreQubits : Context → List Slot → Type 0
AreQubits g ss = AllByRecursion (λ s. Has g s qbit_type) ss

-- the expression has the type
pub data HasType : Context → Expr → TypeTree → Type 0 where
  slot_ : {g : Context} {s : Slot} {t : TypeTree} → Has g s t → HasType g (slot s) t
  sig_ : {g : Context} {e : Expr} → HasType g e int_type → HasType g (sig e) (op_type 1)
  add_ : {g : Context} {e f : Expr} → HasType g e int_type → HasType g f int_type
      → HasType g (add e f) int_type
  apply_ : {g : Context} {qs : List Slot} {e : Expr} {n : ℕ} → is_twice qs ≡ false
      → AreQubits g qs → n ≡ length qs → HasType g e (op_type n) → HasType g (apply qs e) unit_type
  measure_ : {g : Context} {qs : List Slot} → is_twice qs ≡ false → AreQubits g qs
      → HasType g (measure qs) int_type

-- the arguments that are slots of type Qbit
abbrev pub sent : (Slot → Bool) → List Expr → List Slot
sent is_qubit [] = []
sent is_qubit (slot s ∷ es) = if is_qubit s then s ∷ sent is_qubit es else sent is_qubit es
sent is_qubit (e ∷ es) = sent is_qubit es

-- the type is there, and is Qbit
abbrev pub is_qbit : Option TypeTree → Bool
is_qbit (Some qbit_type) = true
is_qbit t = false

-- the arguments that are slots of type Qbit under a context
abbrev pub sent_under : Context → List Expr → List Slot
sent_under g es = sent (λ s. is_qbit (type_in g s)) es

-- Under g, the arguments fit the types that the channel carries: as many as there are, Qbit for a
-- sent name, and for another argument a type that it has under `rest`.
pub data Fits : Context → Context → List Expr → TypeTrees → Type 0 where
  no_argument : {g rest : Context} → Fits g rest [] no_types
  sent_name : {g rest : Context} {s : Slot} {es : List Expr} {ts : TypeTrees}
      → Has g s qbit_type → Fits g rest es ts
      → Fits g rest (slot s ∷ es) (type_and qbit_type ts)
  other_argument : {g rest : Context} {e : Expr} {t : TypeTree} {es : List Expr} {ts : TypeTrees}
      → sent_under g (e ∷ []) ≡ [] → HasType rest e t → Fits g rest es ts
      → Fits g rest (e ∷ es) (type_and t ts)

-- the process is typed
pub data Derives : Context → Process → Type 0 where
  nil_ : {g : Context} → Derives g nil
  par_ : {g left right : Context} {p q : Process} → Splits g left right → Derives left p
      → Derives right q → Derives g (par p q)
  new_ : {g : Context} {x : ℕ} {ts : TypeTrees} {p : Process}
      → Derives (binding (record { name = x; ty = chan_type ts } ∷ []) g) p
      → Derives g (new (record { name = x; ty = chan_type ts }) p)
  qbit_ : {g : Context} {x : ℕ} {p : Process}
      → Derives (binding (record { name = x; ty = qbit_type } ∷ []) g) p → Derives g (qbit x p)
  act_ : {g : Context} {e : Expr} {t : TypeTree} {p : Process} → HasType g e t → Derives g p
      → Derives g (act e p)
  input_ : {g : Context} {c : Slot} {bs : List Binder} {p : Process}
      → Has g c (chan_type (types_of bs)) → Derives (binding bs g) p → Derives g (input c bs p)
  output_ : {g : Context} {c : Slot} {es : List Expr} {ts : TypeTrees} {p : Process}
      → Has g c (chan_type ts) → is_twice (sent_under g es) ≡ false
      → Fits g (leaving (sent_under g es) g) es ts → Derives (leaving (sent_under g es) g) p
      → Derives g (output c es p)
  branch_ : {g : Context} {e f : Expr} {p q : Process} → HasType g e int_type
      → HasType g f int_type → Derives g p → Derives g q → Derives g (branch e f p q)

-- typed under the empty context
abbrev pub IsDerivable : Process → Type 0
IsDerivable p = Derives [] p
