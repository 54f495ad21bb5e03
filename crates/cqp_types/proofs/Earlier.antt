-- The lesser of a fault of a row and a parallel composition that fails.
use Rattle.std.proofs.Common.{◌≡◌, ℕ, ◌<◌, length, Some, None, arith}
use Rattle.cqp_syntax.specs.Trees.{par, nil, new, qbit, act, input, output, branch}
use Rattle.cqp_syntax.specs.Terms.{Term, process, expr}
use Rattle.cqp_syntax.specs.Listing.{Listing, type_of_name, term_at}
use Rattle.cqp_types.specs.declared.kind.Kind.{Kind}
use Rattle.cqp_types.specs.declared.kind.Kind.TheVariants as kind
use Rattle.cqp_types.specs.Faults.{Annotation, fault, IsLeastFault, HasNoFault}
use Rattle.cqp_types.specs.Rows.{row_fault, split_fault, row_at, split_at, NothingFrom, IsLeastFrom}

module _ (ty : Annotation) where
  -- a term without a fault of either kind has none
  neither_fails : (t : Term) → row_fault ty t ≡ None → split_fault ty t ≡ None → fault ty t ≡ None
  neither_fails (process (par p q)) r s = s
  neither_fails (process nil) r s = r
  neither_fails (process (new b p)) r s = r
  neither_fails (process (qbit x p)) r s = r
  neither_fails (process (act e p)) r s = r
  neither_fails (process (input c bs p)) r s = r
  neither_fails (process (output c es p)) r s = r
  neither_fails (process (branch e f p q)) r s = r
  neither_fails (expr e) r s = r

  -- a fault of its row is the term's
  row_fails : (t : Term) (k : Kind) → row_fault ty t ≡ Some k → fault ty t ≡ Some k
  row_fails (process (par p q)) k r = absurd (cc r)
  row_fails (process nil) k r = r
  row_fails (process (new b p)) k r = r
  row_fails (process (qbit x p)) k r = r
  row_fails (process (act e p)) k r = r
  row_fails (process (input c bs p)) k r = r
  row_fails (process (output c es p)) k r = r
  row_fails (process (branch e f p q)) k r = r
  row_fails (expr e) k r = r

  -- a parallel composition that fails is a node that fails
  split_fails : (t : Term) (k : Kind) → split_fault ty t ≡ Some k → fault ty t ≡ Some k
  split_fails (process (par p q)) k r = r
  split_fails (process nil) k r = absurd (cc r)
  split_fails (process (new b p)) k r = absurd (cc r)
  split_fails (process (qbit x p)) k r = absurd (cc r)
  split_fails (process (act e p)) k r = absurd (cc r)
  split_fails (process (input c bs p)) k r = absurd (cc r)
  split_fails (process (output c es p)) k r = absurd (cc r)
  split_fails (process (branch e f p q)) k r = absurd (cc r)
  split_fails (expr e) k r = absurd (cc r)

module _ (l : Listing) where
  -- where neither search finds a node, none fails
  pub none_found : NothingFrom (row_at l) 0 (length l.nodes) → NothingFrom (split_at l) 0 (length l.nodes) → HasNoFault l
  none_found r s n within = neither_fails (type_of_name l) (term_at l n) (r n (omega arith) within) (s n (omega arith) within)

  -- the row's node fails first
  pub row_first : (n : ℕ) (k : Kind) → IsLeastFrom (row_at l) 0 (length l.nodes) n k → ((m : ℕ) → m < n → split_at l m ≡ None) → IsLeastFault l n k
  row_first n k r s = record {
    within = r.within;
    fails = row_fails (type_of_name l) (term_at l n) k r.fails;
    before = λ m below. neither_fails (type_of_name l) (term_at l m) (r.before m (omega arith) below) (s m below);
  }

  -- the parallel composition fails first
  pub split_first : (n : ℕ) → IsLeastFrom (split_at l) 0 (length l.nodes) n kind.SplitTwice → ((m : ℕ) → m < n → row_at l m ≡ None)
      → IsLeastFault l n kind.SplitTwice
  split_first n s r = record {
    within = s.within;
    fails = split_fails (type_of_name l) (term_at l n) kind.SplitTwice s.fails;
    before = λ m below. neither_fails (type_of_name l) (term_at l m) (r m below) (s.before m (omega arith) below);
  }
