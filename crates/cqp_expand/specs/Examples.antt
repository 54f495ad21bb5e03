-- Small programs. Facts by computation show what they expand to, or which fault they have.
use Rattle.std.specs.Prelude.{ℕ, [], ◌∷◌, codes}
use Rattle.cqp_syntax.specs.declared.op.Op.TheVariants as op
use Rattle.cqp_syntax.specs.declared.val.Val.TheVariants as val
use Rattle.cqp_syntax.specs.TypeTrees.{qbit_type, int_type}
use Rattle.cqp_syntax.specs.Trees as proc
use Rattle.cqp_grammar.specs.Trees as tree
use Rattle.cqp_grammar.specs.Trees.{occurrence, DefinitionTree, ProgramTree}
use Rattle.cqp_grammar.specs.Trees.{ProcessTree}

-- a program without definitions
abbrev pub only : ProcessTree → ProgramTree
only p = record { defs = []; main = p }

-- `def A(x:Qbit)={x *= H}.0;`
abbrev pub gate_def : DefinitionTree
gate_def = record {
  name = codes "A";
  at = 4;
  params = record { name = codes "x"; at = 6; ty = qbit_type } ∷ [];
  body = tree.act 14 (tree.apply 15 (occurrence (codes "x") 15 ∷ []) (tree.gate 20 op.H))
      (tree.nil 23);
}

-- `def A(x:Qbit)={x *= H}.0;(qbit q)A(q)`
abbrev pub one_call : ProgramTree
one_call = record {
  defs = gate_def ∷ [];
  main = tree.qbit 25 (occurrence (codes "q") 31)
      (tree.call 33 (codes "A") (occurrence (codes "q") 35 ∷ []));
}

-- `{y *= H}.0`
abbrev pub unbound_name : ProgramTree
unbound_name =
    only (tree.act 0 (tree.apply 1 (occurrence (codes "y") 1 ∷ []) (tree.gate 6 op.H)) (tree.nil 9))

-- `def A()=0;A(x)`
abbrev pub wrong_count : ProgramTree
wrong_count = record {
  defs = record { name = codes "A"; at = 4; params = []; body = tree.nil 8 } ∷ [];
  main = tree.call 10 (codes "A") (occurrence (codes "x") 12 ∷ []);
}

-- `def A(x:Int)=0;(qbit y)A(y)`
abbrev pub wrong_type : ProgramTree
wrong_type = record {
  defs = record {
    name = codes "A";
    at = 4;
    params = record { name = codes "x"; at = 6; ty = int_type } ∷ [];
    body = tree.nil 13;
  } ∷ [];
  main = tree.qbit 15 (occurrence (codes "y") 21)
      (tree.call 23 (codes "A") (occurrence (codes "y") 25 ∷ []));
}

-- `def A(x:Int,x:Int)=0;0`
abbrev pub repeated_name : ProgramTree
repeated_name = record {
  defs = record {
    name = codes "A";
    at = 4;
    params = record { name = codes "x"; at = 6; ty = int_type }
        ∷ record { name = codes "x"; at = 12; ty = int_type } ∷ [];
    body = tree.nil 19;
  } ∷ [];
  main = tree.nil 21;
}

-- `B()`
abbrev pub unknown : ProgramTree
unknown = only (tree.call 0 (codes "B") [])

-- `(qbit x)(qbit x){x *= H}.0`, in which the inner `x` hides the outer one
abbrev pub shadowed : ProgramTree
shadowed = only (tree.qbit 0 (occurrence (codes "x") 6) (tree.qbit 8 (occurrence (codes "x") 14)
    (tree.act 16 (tree.apply 17 (occurrence (codes "x") 17 ∷ []) (tree.gate 22 op.H))
    (tree.nil 25))))

-- `(qbit x){x *= H}.0`, as a process with this name
abbrev pub gate_on : ℕ → proc.Process
gate_on x = proc.act (proc.apply (proc.named x ∷ []) (proc.value (val.Gate op.H))) proc.nil

-- `def A(x:Qbit)=(qbit y){x *= H}.0;`
abbrev pub hiding_def : DefinitionTree
hiding_def = record {
  name = codes "A";
  at = 4;
  params = record { name = codes "x"; at = 6; ty = qbit_type } ∷ [];
  body = tree.qbit 14 (occurrence (codes "y") 20) (tree.act 22
      (tree.apply 23 (occurrence (codes "x") 23 ∷ []) (tree.gate 28 op.H)) (tree.nil 31));
}

-- `def B(y:Qbit)=A(y)|A(y);`
abbrev pub twice_def : DefinitionTree
twice_def = record {
  name = codes "B";
  at = 37;
  params = record { name = codes "y"; at = 39; ty = qbit_type } ∷ [];
  body = tree.par 51 (tree.call 47 (codes "A") (occurrence (codes "y") 49 ∷ []))
      (tree.call 52 (codes "A") (occurrence (codes "y") 54 ∷ []));
}

-- `(qbit y)B(y)` behind both, where the `y` of `A` captures no argument
abbrev pub nested : ProgramTree
nested = record {
  defs = hiding_def ∷ twice_def ∷ [];
  main = tree.qbit 57 (occurrence (codes "y") 63)
      (tree.call 65 (codes "B") (occurrence (codes "y") 67 ∷ []));
}
