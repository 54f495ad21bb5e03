-- The copy of a program as it grows, step by step: what is copied, and what is left of the copies
-- that are not complete. No public clause cites this module.
use Rattle.std.specs.Prelude.{ℕ, ◌+◌, ◌<◌, ◌≤◌, ◌^◌, List, [], ◌∷◌, ◌++◌, map, length, take}
use Rattle.std.specs.Prelude.{slice_index}
use Rattle.std.specs.List.{AllByRecursion}
use Rattle.cqp_syntax.specs.declared.node.Node.{Node}
use Rattle.cqp_syntax.specs.Listing.{bodies_of, exprs_of}
use Rattle.cqp_expand.specs.declared.copy.Copier.{Copier}
use Rattle.cqp_expand.specs.declared.copy.Instance.{Instance}
use Rattle.cqp_expand.specs.declared.outline.Outline.{Outline}
use Rattle.cqp_expand.specs.declared.outline.Member.{Member}
use Rattle.cqp_expand.specs.declared.outline.Member.TheVariants.{Own, Call}
use Rattle.cqp_expand.specs.Moved.{moved, names_of}
use Rattle.cqp_expand.specs.Spread.{binds}

-- the lists of a copier
pub record Copying : Type 0 where
  pub instances : List Instance
  pub numbers : List ℕ
  pub nodes : List Node
  pub ty_of : List ℕ
  pub at : List ℕ

-- what a copier shows
abbrev pub shown : Copier → Copying
shown c = record {
  instances = c.instances.items;
  numbers = c.numbers.items;
  nodes = c.nodes;
  ty_of = c.ty_of;
  at = c.at;
}

-- with one more copy, which begins
abbrev pub begun : ℕ → ℕ → ℕ → Copying → Copying
begun def base start c = record {
  instances = c.instances ++ record { def = def; next = 0; base = base; start = start } ∷ [];
  numbers = c.numbers;
  nodes = c.nodes;
  ty_of = c.ty_of;
  at = c.at;
}

-- with a copy put back, whose next member is begun
abbrev pub next_instance : Instance → Instance
next_instance f = record { def = f.def; next = f.next + 1; base = f.base; start = f.start }

-- with an instance put back, whose next member is begun
abbrev pub popped : Copying → List Instance → Instance → Copying
popped c fs f = record {
  instances = fs ++ next_instance f ∷ [];
  numbers = c.numbers;
  nodes = c.nodes;
  ty_of = c.ty_of;
  at = c.at;
}

-- the numbers of names from base on, once the names have the numbers from n on
abbrev pub numbered : ℕ → ℕ → List ℕ → List ℕ → List ℕ
numbered base n numbers [] = numbers
numbered base n numbers (x ∷ xs) = numbered base (n + 1) (take (base + x) numbers ++ n ∷ []) xs

-- the names of arguments, in a copy whose names stand from base on
abbrev pub passed : ℕ → List ℕ → List ℕ → List ℕ
passed base numbers args = map (λ a. slice_index numbers (base + a)) args

-- with one more node
abbrev pub with_own : Outline → Instance → Node → Copying → Copying
with_own d f x c =
    let numbers = numbered f.base (length c.ty_of) c.numbers (binds x) in record {
      instances = c.instances;
      numbers = numbers;
      nodes = c.nodes ++ moved (λ y. slice_index numbers (f.base + y))
          (λ k. f.start + slice_index d.starts.items k) x ∷ [];
      ty_of = c.ty_of ++ map (slice_index d.ty_of.items) (binds x);
      at = c.at ++ slice_index d.at.items f.next ∷ [];
    }

-- with a call begun
abbrev pub with_call : Outline → Instance → ℕ → List ℕ → Copying → Copying
with_call d f def args c = record {
  instances = c.instances ++ record {
    def = def;
    next = 0;
    base = length c.numbers;
    start = f.start + slice_index d.starts.items f.next;
  } ∷ [];
  numbers = c.numbers ++ passed f.base c.numbers args;
  nodes = c.nodes;
  ty_of = c.ty_of;
  at = c.at;
}

-- with one more member
abbrev pub with_member : Outline → Instance → Member → Copying → Copying
with_member d f (Own x) c = with_own d f x c
with_member d f (Call def args) c = with_call d f def args c

-- the names that a node binds can have types and numbers
pub record CanBind (types : List ℕ) (n base : ℕ) (numbers names : List ℕ) : Type 0 where
  pub typed : AllByRecursion (λ y. y < length types) names
  pub few : n + length names < 2 ^ 32
  pub within : base ≤ length numbers

-- the node can be copied
pub record CanOwn (d : Outline) (f : Instance) (x : Node) (c : Copying) : Type 0 where
  pub placed : f.next < length d.at.items
  pub bind : CanBind d.ty_of.items (length c.ty_of) f.base c.numbers (binds x)
  pub names : AllByRecursion
      (λ y. f.base + y < length (numbered f.base (length c.ty_of) c.numbers (binds x))) (names_of x)
  pub exprs : AllByRecursion (λ k. (k < length d.starts.items)
      × (f.start + slice_index d.starts.items k < 2 ^ 32)) (exprs_of x)
  pub bodies : AllByRecursion (λ k. (k < length d.starts.items)
      × (f.start + slice_index d.starts.items k < 2 ^ 32)) (bodies_of x)

-- the call can begin
pub record CanCall (d : Outline) (f : Instance) (args : List ℕ) (c : Copying) : Type 0 where
  pub within : f.next < length d.starts.items
  pub small : f.start + slice_index d.starts.items f.next < 2 ^ 32
  pub passed : AllByRecursion (λ a. f.base + a < length c.numbers) args

-- the member can be copied
abbrev pub CanCopy : Outline → Instance → Copying → Member → Type 0
CanCopy d f c (Own x) = CanOwn d f x c
CanCopy d f c (Call def args) = CanCall d f args c
