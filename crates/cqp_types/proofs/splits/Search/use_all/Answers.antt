use Rattle.std.proofs.Common.{◌≡◌, ◌-◌, ◌<◌, length, drop, refl, sym, subst, true, arith}
use Rattle.cqp_syntax.specs.Trees.{named}
use Rattle.cqp_syntax.specs.Uses.{uses_at}
use Rattle.cqp_types.specs.Searched.{IsSearched}
use Rattle.cqp_types.proofs.Backward.{drop_step, all_at}
use Rattle.cqp_types.proofs.splits.Search.use_all.Goals as goal

pub use_name-requires-clause-uses : goal.use_name-requires-clause-uses
use_name-requires-clause-uses c =
    let xs = c.args.names.now in
    all_at (λ x. uses_at c.args.given.now c.args.n (named x) ≡ true) xs (length xs - 1 - c.loop-k.k) c.requires.uses (omega arith)

pub use_name-requires-clause-name : goal.use_name-requires-clause-name
use_name-requires-clause-name c =
    let xs = c.args.names.now in
    all_at (λ x. x < length c.args.given.now.ty_of) xs (length xs - 1 - c.loop-k.k) c.requires.names (omega arith)

pub loop-k-preserved : goal.loop-k-preserved
loop-k-preserved c =
    let xs = c.args.names.now in
    let h : c.loop-k.k < length xs = omega arith in
    record {
      count = c.use_name.ensures.count;
      searched = λ old.
          subst (λ ys. IsSearched c.args.given.now c.args.n ys c.use_name.new.self.last.items c.use_name.new.self.least)
          (sym (drop_step xs (length xs) c.loop-k.k refl h))
          (c.use_name.ensures.searched (drop (length xs - c.loop-k.k) xs) (c.loop-k.invariant.searched old));
    }

pub returns-clause-searched : goal.returns-clause-searched
returns-clause-searched c = λ old.
    let xs = c.args.names.now in
    let done : length xs - c.loop-k.k ≡ 0 = omega arith in
    subst (λ k. IsSearched c.args.given.now c.args.n (drop k xs) c.loop-k.self.last.items c.loop-k.self.least) done (c.loop-k.invariant.searched old)
