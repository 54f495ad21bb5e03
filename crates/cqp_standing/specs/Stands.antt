-- Where a part of a run stands: at a prefix, with a value for each name that is free there.
use Rattle.std.specs.Prelude.{◌≡◌, ℕ, ◌+◌, ◌<◌, ◌≤◌, List, [], ◌∷◌, ◌++◌, map, length, Bool, true}
use Rattle.std.specs.Prelude.{false, ◌==◌, ◌&&◌, nat_lt, Option, Some, None, if◌then◌else◌}
use Rattle.std.specs.List.{AllByRecursion, list_all}
use Rattle.cqp_syntax.specs.declared.val.Val.{Val}
use Rattle.cqp_syntax.specs.declared.val.Val.TheVariants as val
use Rattle.cqp_syntax.specs.Terms.{process, expr}
use Rattle.cqp_syntax.specs.Trees.{Process, nil, par}
use Rattle.cqp_syntax.specs.Binders.{binders_of}
use Rattle.cqp_syntax.specs.Scope.{is_scoped}
use Rattle.cqp_syntax.specs.Listing.{Listing, term_at, process_at, expr_at}
use Rattle.cqp_cells.specs.Redex.{exprs_of, redex_of}
use Rattle.cqp_parts.specs.declared.bind.Bind.{Bind}
use Rattle.cqp_parts.specs.declared.part.Part.{Part}
use Rattle.cqp_syntax.specs.Measures.{expr_steps}
use Rattle.cqp_results.specs.Results.{is_closed, redex_with, count_of}
use Rattle.cqp_parts.specs.Bound.{expr_bound}
use Rattle.cqp_parts.specs.Free.{is_free}
use Rattle.cqp_parts.specs.Parts.{process_of_part}

-- the value of a name
abbrev pub val_of : ℕ → List Bind → Option Val
val_of x [] = None
val_of x (b ∷ bs) = if x == b.name then Some b.val else val_of x bs

abbrev pub val_or_unit : Option Val → Val
val_or_unit None = val.Unit
val_or_unit (Some v) = v

-- each name is less than those behind it
abbrev pub has_rising_names : List Bind → Bool
has_rising_names [] = true
has_rising_names (b ∷ bs) = list_all (λ c. nat_lt b.name c.name) bs && has_rising_names bs

-- neither `0` nor a parallel composition
abbrev pub is_prefix : Process → Bool
is_prefix nil = false
is_prefix (par p q) = false
is_prefix p = true

-- the names of bindings, and of the binders of a process
abbrev pub names_of : List Bind → List ℕ
names_of env = map (λ b. b.name) env

abbrev pub binder_names : Process → List ℕ
binder_names p = map (λ b. b.name) (binders_of p)

-- a number from k on, and below n
pub record IsFrom (k n x : ℕ) : Type 0 where
  pub least : k ≤ x
  pub below : x < n

-- numbers from k on and below n, each less than those behind it
abbrev pub RiseFrom : ℕ → ℕ → List ℕ → Type 0
RiseFrom k n [] = Unit {0}
RiseFrom k n (x ∷ xs) = IsFrom k n x × RiseFrom (x + 1) n xs

-- names rise, from those of the bindings to those that the process binds (so `names` and `rising`
-- follow); each name that is free there has a value, each name that has a value is free there, and
-- no more results are there than redexes
pub record Stands (l : Listing) (part : Part) : Type 0 where
  pub within : part.node < length l.nodes
  pub is : term_at l part.node ≡ process (process_at l part.node)
  pub prefix : is_prefix (process_at l part.node) ≡ true
  pub names : AllByRecursion (λ b. b.name < length l.ty_of) part.env
  pub rising : has_rising_names part.env ≡ true
  pub order :
      RiseFrom 0 (length l.ty_of) (names_of part.env ++ binder_names (process_at l part.node))
  pub bound : is_scoped (names_of part.env) (process_at l part.node) ≡ true
  pub free : AllByRecursion (λ b. is_free b.name (process_at l part.node) ≡ true) part.env
  pub results : length part.vals ≤ count_of (exprs_of (process_at l part.node))

-- an operand, behind whose results so many stand
pub record IsOperandAt (l : Listing) (part : Part) (n skip : ℕ) : Type 0 where
  pub within : n < length l.nodes
  pub is : term_at l n ≡ expr (expr_at l n)
  pub closed : is_closed (expr_bound part.env (expr_at l n)) ≡ true
  pub results : 0 < expr_steps (expr_at l n) → skip < length part.vals

-- operands, one behind the other, behind whose results none stands
abbrev pub AreOperandsAt : Listing → Part → List ℕ → Type 0
AreOperandsAt l part [] = Unit {0}
AreOperandsAt l part (n ∷ ns) =
    IsOperandAt l part n (count_of (map (λ m. expr_at l m) ns)) × AreOperandsAt l part ns

-- the next redex
pub record IsRedexAt (l : Listing) (part : Part) (m : ℕ) : Type 0 where
  pub within : m < length l.nodes
  pub is : term_at l m ≡ expr (expr_at l m)
  pub some : 0 < expr_steps (expr_at l m)
  pub closed : is_closed (expr_bound part.env (expr_at l m)) ≡ true
  pub results : expr_steps (expr_at l m) ≤ length part.vals + 1
  pub next : redex_of (process_of_part l part)
      ≡ Some (redex_with part.vals (expr_bound part.env (expr_at l m)))
