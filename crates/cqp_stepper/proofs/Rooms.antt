-- A process has as many nodes as it makes parts.
use Rattle.std.proofs.Common.{◌+◌, ◌≤◌, arith}
use Rattle.cqp_syntax.specs.Preorder.{process_size}
use Rattle.cqp_syntax.specs.Trees.{Process, nil, par, new, qbit, act, input, output, branch}
use Rattle.cqp_short.specs.Bounds.{pars_in}

-- parallel compositions, and one more
pub pars_within : (p : Process) → pars_in p + 1 ≤ process_size p
pars_within nil = omega arith
pars_within (par p q) = let a = pars_within p in let b = pars_within q in omega arith
pars_within (new b p) = let a = pars_within p in omega arith
pars_within (qbit x p) = let a = pars_within p in omega arith
pars_within (act e p) = let a = pars_within p in omega arith
pars_within (input c bs p) = let a = pars_within p in omega arith
pars_within (output c es p) = let a = pars_within p in omega arith
pars_within (branch e f p q) = let a = pars_within p in let b = pars_within q in omega arith
